-- Counting answer by answer comes to the counts of all of them.
use Rattle.std.proofs.Common.{◌≡◌, List, [], ◌∷◌, ◌++◌, refl, ap, ◌∙◌, sym, length-append}
use Rattle.std.proofs.lemmas.List.Sums.{sum_by_push}
use Rattle.dd_calls.specs.declared.answers.Answer.{Answer}
use Rattle.dd_calls.specs.declared.counting.Counts.{Counts}
use Rattle.dd_calls.specs.Parts.{is_frame}
use Rattle.dd_calls.specs.Counting.{is_coalesced, is_entry, is_refusal, presents_counted, moves_counted, rects_counted, one_if, counts_of, counted}

pub counted_more : (told : List Answer) (a : Answer) → counts_of (told ++ a ∷ []) ≡ counted (counts_of told) a
unfolding counts_of counted
counted_more told a =
    let acquired = sum_by_push (λ x. one_if (is_frame x)) told a in
    let coalesced = sum_by_push (λ x. one_if (is_coalesced x)) told a in
    let entries = sum_by_push (λ x. one_if (is_entry x)) told a in
    let frames = sum_by_push presents_counted told a in
    let moves = sum_by_push moves_counted told a in
    let rects = sum_by_push rects_counted told a in
    let refused = sum_by_push (λ x. one_if (is_refusal x)) told a in
    let steps = length-append told (a ∷ []) in
    rw (acquired, coalesced, entries, frames, moves, rects, refused, steps) refl

-- counts of answers, with one more
pub counts_go_on : (c : Counts) (told : List Answer) (a : Answer)
    → c ≡ counts_of told → counted c a ≡ counts_of (told ++ a ∷ [])
counts_go_on c told a e = ap (λ x. counted x a) e ∙ sym (counted_more told a)
