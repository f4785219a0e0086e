use Rattle.std.proofs.Common.{◌+◌, ◌≤◌, ◌∙◌, length, sym, ap, arith}
use Rattle.std.specs.Prelude.{IsTrue}
use Rattle.dd_log.specs.declared.events.TheConstants.{MAX_CAPACITY}
use Rattle.dd_log.specs.History.{legal, may_add, before_end}
use Rattle.dd_board.specs.Lists.{listed}
use Rattle.dd_board.proofs.Calls.{seat_may_add, seat_is_seated}
use Rattle.dd_board.proofs.Counts.{one_more, before_few}
use Rattle.dd_board.proofs.Painting.{printed_is}
use Rattle.dd_board.proofs.painter.Painter+L.enter.Goals as goal
use Rattle.dd_board.proofs.painter.Painter+L.enter.Goals.{in-Made, in-NoMemory}

pub print-press-requires-clause-may : goal.print-press-requires-clause-may
print-press-requires-clause-may g c =
    ap (λ h. may_add (listed g.L.Named.spec h) c.args.entry.now) c.self.view_is
    ∙ seat_may_add g.L.Named.spec g.L.Ledger.parts c.args.actor.now.number c.args.self c.args.entry.now
    c.requires.actor c.number-number.ensures.seat c.front-front.ensures.seats c.requires.step c.requires.allowed
    c.requires.slot

pub print-press-requires-clause-seat : goal.print-press-requires-clause-seat
print-press-requires-clause-seat g c =
    seat_is_seated g.L.Ledger.parts c.args.actor.now.number c.args.entry.now c.requires.actor
    c.number-number.ensures.seat c.requires.kind

pub enter-requires : goal.enter-requires
enter-requires g c =
    let es = c.args.self in
    let is : IsTrue (legal (listed g.L.Named.spec es)) =
    ap (λ l. legal (listed g.L.Named.spec l)) (sym c.told.ensures) ∙ c.front-front.ensures.legal in
    let few : length es ≤ MAX_CAPACITY = omega (arith, c.front-front.ensures.few, ap length c.told.ensures) in
    let total = c.self.invariant ∙ ap before_end c.self.view_is in
    omega (arith, before_few g.L.Named.spec es is, few, total)

pub invariant_of-result : goal.invariant_of-result
invariant_of-result g c =
    let es = c.self.inside.press in
    let e = c.args.entry.now in
    let is : IsTrue (legal (listed g.L.Named.spec es)) =
    ap (λ l. legal (listed g.L.Named.spec l)) (c.self.view_is ∙ sym c.told.ensures) ∙ c.front-front.ensures.legal in
    let may : IsTrue (may_add (listed g.L.Named.spec es) e) =
    ap (λ h. may_add (listed g.L.Named.spec h) e) c.self.view_is
    ∙ seat_may_add g.L.Named.spec g.L.Ledger.parts c.args.actor.now.number c.args.self e c.requires.actor
    c.number-number.ensures.seat c.front-front.ensures.seats c.requires.step c.requires.allowed c.requires.slot in
    elim c.match-printed.branch [
      | in-Made w ↦
          ap (λ b. b.total) w.book-is ∙ w.enter.ensures.book ∙ ap (λ n. n + 1) c.self.invariant
          ∙ sym (one_more g.L.Named.spec es e is may c.requires.kind)
          ∙ ap before_end (sym (printed_is _ _ es c.print-press.result.0 e w.in-Made.is c.print-press.ensures).0)
      | in-NoMemory w ↦
          ap (λ b. b.total) w.book-is ∙ c.self.invariant
          ∙ ap before_end (sym (printed_is _ _ es c.print-press.result.0 e w.in-NoMemory.is c.print-press.ensures))
    ]
