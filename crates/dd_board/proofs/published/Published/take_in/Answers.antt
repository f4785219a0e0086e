use Rattle.std.proofs.Common.{◌≡◌, ◌+◌, ◌∙◌, length, sym, ap}
use Rattle.std.proofs.lemmas.Bool.{eqb-true}
use Rattle.dd_log.specs.History.{may_add}
use Rattle.dd_board.proofs.Listed.{may_be_next}
use Rattle.dd_board.proofs.published.Published.take_in.Goals as goal

pub add-requires : goal.add-requires
add-requires g c =
    let self = c.args.self.now in
    let step = c.step.inside in
    let long : length step.told ≡ length self.told + 1 =
    eqb-true _ _ (sym c.follows.ensures.value ∙ c.if-follows.true) in
    ap (λ h. may_add h step.entry) self.same
    ∙ may_be_next g.L.Named.spec self.told step.told step.entry c.step.invariant
    (c.follows.ensures.begins c.if-follows.true)
    long c.follows.ensures.legal
