-- A list that doesn't fit changes nothing.
use Rattle.std.proofs.Common.{◌≡◌}
use Rattle.dd_board.proofs.screen.Screen+L.draw_entry.Given as goal

abbrev pub invariant-loop : goal.invariant-loop
invariant-loop g l =
    (goal.iterator-loop g).can_next l.iterator' × (goal.iterator-loop g).is_finite l.iterator'
    × (l.actor ≡ l.fn.actor)
