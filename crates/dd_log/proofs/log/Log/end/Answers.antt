-- A list that goes on may have its end.
use Rattle.std.proofs.Common.{◌≡◌, false, sym, ap, ◌∙◌}
use Rattle.dd_log.specs.declared.desk.Desk.{Desk}
use Rattle.dd_log.specs.History.{History, desk}
use Rattle.dd_log.proofs.Legal.{may_end}
use Rattle.dd_log.proofs.log.Log.end.Goals as goal

pub add-requires : goal.add-requires
add-requires c =
    let going : (desk c.args.self.now).ended ≡ false =
    ap (λ (h : History). (desk h).ended) (sym c.self.view_is)
    ∙ ap (λ (d : Desk). d.ended) (sym c.self.invariant.desk) ∙ c.if-not-self.true in
    may_end c.args.self.now c.args.actor c.args.step going c.requires.actor (c.requires.step going)
