use Rattle.std.proofs.Common.{◌≡◌, ◌≤◌, ◌∙◌, ℕ, List, true, false, refl, sym, ap, subst, arith}
use Rattle.std.specs.Prelude.{IsTrue}
use Rattle.dd_log.specs.declared.events.Entry.{Entry}
use Rattle.dd_log.specs.History.{History, desk, legal, may_add, before_end, end_of}
use Rattle.dd_board.specs.Lists.{listed, all_seated}
use Rattle.dd_board.specs.Ending.{HasEnded}
use Rattle.dd_board.proofs.Endings.{has_ended, printed_by, may_be_ended, end_counts, end_total, ending}
use Rattle.dd_board.proofs.ending.Painter+L.end.Goals as goal

pub returns-then-ended : goal.returns-then-ended
returns-then-ended g c =
    let spec = g.L.Named.spec in
    let es = c.args.self in
    let is : IsTrue (legal (listed spec es)) =
    ap (λ l. legal (listed spec l)) (sym c.told.ensures) ∙ c.front-front.ensures.legal in
    let seated : IsTrue (all_seated g.L.Ledger.parts es) =
    ap (all_seated g.L.Ledger.parts) (sym c.told.ensures) ∙ c.front-front.ensures.seated in
    let ended : (desk (listed spec es)).ended ≡ true =
    sym (c.ended.ensures.value ∙ ap (λ (h : History). (desk h).ended) c.log-2.ensures) ∙ c.if-ended.true in
    let least : c.args.at_least ≤ before_end es =
    omega (
      arith,
      c.if-before_end-at_least.false,
      c.before_end.ensures ∙ ap (λ (h : History). before_end h.entries) c.log.ensures,
    ) in
    let P : List Entry → Type 0 = λ l. (c.args.at_least ≤ before_end l) × HasEnded g.L.Ledger.parts l in
    subst P (sym (c.again-told.ensures.same ∙ c.told-then-ended.ensures))
    (least, has_ended spec g.L.Ledger.parts es is seated ended)

pub print-press-requires-clause-may : goal.print-press-requires-clause-may
print-press-requires-clause-may g c =
    let spec = g.L.Named.spec in
    let seats = g.L.Ledger.parts in
    let es = c.args.self in
    let goes : (desk (listed spec es)).ended ≡ false =
    sym (c.ended.ensures.value ∙ ap (λ (h : History). (desk h).ended) c.log-2.ensures) ∙ c.if-ended.false in
    let is : IsTrue (legal (listed spec es)) =
    ap (λ l. legal (listed spec l)) (sym c.told.ensures) ∙ c.front-front.ensures.legal in
    let seated : IsTrue (all_seated seats es) =
    ap (all_seated seats) (sym c.told.ensures) ∙ c.front-front.ensures.seated in
    let may = may_be_ended spec seats es c.front-front.ensures.seats is seated goes in
    subst (λ (n : ℕ). IsTrue (may_add (listed spec c.self.inside.press) (end_of n 1))) (sym c.requires)
    (subst (λ (l : List Entry). IsTrue (may_add (listed spec l) (end_of seats 1))) (sym c.self.view_is) may)

pub invariant_of-result : goal.invariant_of-result
invariant_of-result g c =
    let spec = g.L.Named.spec in
    let seats = g.L.Ledger.parts in
    let es = c.args.self in
    let goes : (desk (listed spec es)).ended ≡ false =
    sym (c.ended.ensures.value ∙ ap (λ (h : History). (desk h).ended) c.log-2.ensures) ∙ c.if-ended.false in
    let is : IsTrue (legal (listed spec es)) =
    ap (λ l. legal (listed spec l)) (sym c.told.ensures) ∙ c.front-front.ensures.legal in
    let seated : IsTrue (all_seated seats es) =
    ap (all_seated seats) (sym c.told.ensures) ∙ c.front-front.ensures.seated in
    let may = may_be_ended spec seats es c.front-front.ensures.seats is seated goes in
    let printed = printed_by c.print-press.result.1 c.self.inside.press es c.print-press.result.0 c.args.seats seats
    c.self.view_is c.requires c.print-press.ensures in
    c.self.invariant ∙ ap before_end c.self.view_is
    ∙ sym (end_total c.print-press.result.1 es c.print-press.result.0 (end_of seats 1) printed
    (end_counts spec es (end_of seats 1) is may refl))

pub returns : goal.returns
returns g c =
    let spec = g.L.Named.spec in
    let seats = g.L.Ledger.parts in
    let es = c.args.self in
    let goes : (desk (listed spec es)).ended ≡ false =
    sym (c.ended.ensures.value ∙ ap (λ (h : History). (desk h).ended) c.log-2.ensures) ∙ c.if-ended.false in
    let is : IsTrue (legal (listed spec es)) =
    ap (λ l. legal (listed spec l)) (sym c.told.ensures) ∙ c.front-front.ensures.legal in
    let seated : IsTrue (all_seated seats es) =
    ap (all_seated seats) (sym c.told.ensures) ∙ c.front-front.ensures.seated in
    let may = may_be_ended spec seats es c.front-front.ensures.seats is seated goes in
    let least : c.args.at_least ≤ before_end es =
    omega (
      arith,
      c.if-before_end-at_least.false,
      c.before_end.ensures ∙ ap (λ (h : History). before_end h.entries) c.log.ensures,
    ) in
    ending c.print-press.result.1 spec seats c.args.at_least es c.print-press.result.0
    (printed_by c.print-press.result.1 c.self.inside.press es c.print-press.result.0 c.args.seats seats
    c.self.view_is c.requires c.print-press.ensures) least is may goes
