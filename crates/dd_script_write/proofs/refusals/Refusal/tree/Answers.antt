use Rattle.std.proofs.Common.{codes, ap, ◌∙◌}
use Rattle.serde_json.specs.Data.{Data, Members, object, put}
use Rattle.serde_json.specs.View.{members_view}
use Rattle.serde_json.proofs.Views.{view-Object}
use Rattle.dd_script_write.specs.Answers.{refusal_tree}
use Rattle.dd_script_write.proofs.Parts.{put_in_turn}
use Rattle.dd_script_write.proofs.refusals.Refusal.tree.Goals as goal

pub returns : goal.returns
unfolding refusal_tree
returns c =
    let empty = ap members_view c.new-map.ensures.empty in
    let needs = c.count_tree.ensures in
    let place = c.count_tree-2.ensures in
    let required = c.in_ok-put_if.ensures in
    let with_name : Data → Members = λ d. put (codes "refused") d (members_view c.put_if.new.map.entries) in
    let named = c.in_ok-put.ensures.ok ∙ ap with_name c.in_ok-text_tree.ensures in
    let op = c.in_ok-put_if-2.ensures in
    let code = c.in_ok-put_if-3.ensures in
    let buffer = c.in_ok-put_if-4.ensures in
    let whole = view-Object c.put_if-4.new.map in
    rw (← c.self.view_is, whole, ← c.in_ok-buffer.ensures, ← c.in_ok-code.ensures, ← needs, ← place)
    (ap object (put_in_turn _ _ _ _ _ _ _ _ _ _ _ empty required named op code buffer))
