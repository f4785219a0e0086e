use Rattle.std.proofs.Common.{◌≡◌, map, drop}
use Rattle.json.specs.Value.{value_view, items_of, members_view}
use Rattle.dd_script_read.specs.Tree.{items_have_numbers, members_have_numbers}
use Rattle.dd_script_read.proofs.numbers.+numbers.Given as goal

-- what is looked at still decides
abbrev pub invariant-items_have_numbers-loop-item : goal.invariant-items_have_numbers-loop-item
invariant-items_have_numbers-loop-item l =
    items_have_numbers (items_of (map value_view (drop l.item-index l.items)))
    ≡ items_have_numbers (items_of (map value_view l.items))

abbrev pub invariant-members_have_numbers-loop-member :
    goal.invariant-members_have_numbers-loop-member
invariant-members_have_numbers-loop-member l =
    members_have_numbers (members_view (drop l.member-index l.members))
    ≡ members_have_numbers (members_view l.members)
