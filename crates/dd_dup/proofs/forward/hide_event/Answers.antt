use Rattle.std.proofs.Common.{◌≡◌, ◌∙◌, sym, ap, subst, Option, List, Bool}
use Rattle.std.specs.Prelude.{OnOk}
use Rattle.dd_geom.specs.Grid.{Grid}
use Rattle.dd_grid.specs.Drawing.{hidden_points}
use Rattle.dd_ops.specs.declared.operations.Op.{Op}
use Rattle.dd_acc.specs.Hidden.{hidden_after}
use Rattle.dd_acc.proofs.Hiding.{follows}
use Rattle.dd_log.specs.Picture.{drawn_if}
use Rattle.dd_dup.proofs.forward.hide_event.Goals as goal

pub returns-in-Some-clause-hidden : goal.returns-in-Some-clause-hidden
returns-in-Some-clause-hidden c p is =
    subst (λ (g : Grid Bool). OnOk c.hide.result (c.hide.new.area ≡ g))
    (ap (λ (g : Grid Bool). hidden_after g c.in-Some.ops.now) is
    ∙ sym (follows p c.in-Some.ops.now)
    ∙ ap (λ (o : Option (List Op)). hidden_points (drawn_if p o)) c.in-Some.ensures)
    c.hide.ensures.hidden
