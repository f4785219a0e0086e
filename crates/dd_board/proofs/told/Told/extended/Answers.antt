use Rattle.std.proofs.Common.{◌≡◌, ◌∙◌, List, [], ◌∷◌, ◌++◌, sym, ap, arith, length-append}
use Rattle.dd_log.specs.declared.events.Entry.{Entry}
use Rattle.dd_board.proofs.Adding.{adds_moves, was_added}
use Rattle.dd_board.proofs.Listed.{listed_few, listed_adds}
use Rattle.dd_board.proofs.told.Told.extended.Goals as goal

pub overflow_add-len : goal.overflow_add-len
overflow_add-len g c =
    let few = listed_few _ _ c.self.inside.seen.log c.self.invariant.2 in
    omega (arith, few, c.self.invariant.0)

pub overflow_add-result : goal.overflow_add-result
overflow_add-result g c =
    let few = listed_few _ _ c.self.inside.seen.log c.self.invariant.2 in
    omega (arith, few, c.self.invariant.0)

pub compare_exchange-found-requires : goal.compare_exchange-found-requires
compare_exchange-found-requires g c =
    let h = c.args.head.now.word_is in
    let offer = c.plain-offer.ensures in
    let pen = c.no_pen-pen.ensures in
    let seen = c.again-seen.ensures in (
      ap (λ w. w.tracked) h,
      ap (λ s. s.book) seen ∙ c.self.invariant.1 ∙ sym (ap (λ w. w.book) h),
      pen.0 ∙ ap (λ s. s.book) seen ∙ c.self.invariant.1 ∙ sym (ap (λ w. w.book) h),
      offer.0,
      rw (ap (λ w. w.key) h, pen.1, offer.1, offer.3, seen)
          (adds_moves c.self.inside.seen.log c.args.entry.now c.self.inside.len (sym c.self.invariant.0)),
    )

pub invariant_of-result : goal.invariant_of-result
invariant_of-result g c =
    let es = c.self.inside.seen.log in
    let e = c.args.entry.now in
    let added : c.compare_exchange-found.new.seen.log ≡ es ++ e ∷ [] =
    was_added c.compare_exchange-found.result c.self.inside.len c.args.head.now.word.key c.plain-offer.result.ask
    (c.again-seen.result.log, (c.no_pen-pen.result.nib, c.plain-offer.result.state)) (
      c.compare_exchange-found.new.seen.log,
      (c.compare_exchange-found.new.pen.nib, c.compare_exchange-found.new.offer.state),
    )
    c.if-found-len.true c.compare_exchange-found.ensures.7
    ∙ ap (λ (l : List Entry). l ++ c.plain-offer.result.ask ∷ []) (ap (λ s. s.log) c.again-seen.ensures)
    ∙ ap (λ (x : Entry). es ++ x ∷ []) c.plain-offer.ensures.1 in (
      rw added (omega (arith, length-append es (e ∷ []), c.self.invariant.0)),
      c.compare_exchange-found.ensures.0 ∙ ap (λ s. s.book) c.again-seen.ensures ∙ c.self.invariant.1,
      rw added (listed_adds _ _ es e c.self.invariant.2 (rw c.self.view_is c.requires.may) c.requires.seat),
    )
