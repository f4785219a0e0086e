-- The exchange that adds an entry keeps the law of the book.
use Rattle.std.proofs.Common.{◌≡◌, ℕ, ◌+◌, ◌<◌, ◌==◌, Bool, true, false, List, [], ◌∷◌, ◌++◌, length, refl, ap, sym, subst, arith, inl, length-append, append-nil, None}
use Rattle.std.specs.Prelude.{MatchBool}
use Rattle.std.proofs.lemmas.Bool.{eq-eqb}
use Rattle.std.proofs.lemmas.Bool.Decides.{nat_tests}
use mathlib.Core.List.{IsPrefix}
use prog.Atomic.{either}
use Rattle.logbook.specs.Pages.{Cell, cell, keeps, no_nib, step, View, Moves, Goes}
use Rattle.dd_log.specs.declared.events.Entry.{Entry}
use Rattle.dd_board.specs.Rules.{IsKept, Adds}
use Rattle.dd_board.proofs.Prefixes.{as_long_is}

abbrev shown : List Entry → List Entry
shown log = []

abbrev moved : List Entry → List Entry → ℕ → Type 0
moved xs ys n = Unit {0}

-- what the word becomes, where it is found at some number
abbrev swapped : ℕ → ℕ → ℕ
swapped old n = either (n == old) (old + 1) n

adds_goes : (log seen : List Entry) (e : Entry) (old : ℕ) → length seen ≡ old → IsPrefix seen log
    → (b : Bool) → (length log == old) ≡ b
    → Goes IsKept shown moved 0 (seen, (no_nib, None)) (swapped old)
    (Adds (step 0 old (old + 1) e) (seen, (no_nib, None))) ((length log, true) ∷ (0, true) ∷ []) log
adds_goes log seen e old len begins true is =
    let here : length log ≡ old = grind (arith, nat_tests) in
    let same : seen ≡ log = as_long_is seen log begins (omega arith) in
    let n : swapped old (length log) ≡ length (log ++ e ∷ []) = rw is (omega (arith, length-append log (e ∷ []))) in (
      keeps,
      e ∷ [],
      None,
      tt,
      ap (λ (k : ℕ). (k, true) ∷ (0, true) ∷ []) n,
      inl (refl, refl),
      rw is (ap (λ l. l ++ e ∷ []) (sym same)),
    )
adds_goes log seen e old len begins false is =
    let all : log ++ [] ≡ log = append-nil log in
    let n : swapped old (length log) ≡ length (log ++ []) = rw is (ap length (sym all)) in (
      keeps,
      [],
      None,
      tt,
      ap (λ (k : ℕ). (k, true) ∷ (0, true) ∷ []) n,
      inl (refl, refl),
      rw is (ap length all),
    )

-- whatever the book is, the exchange adds the entry to all that was seen, or finds that the list is longer
pub adds_moves : (seen : List Entry) (e : Entry) (old : ℕ) → length seen ≡ old
    → Moves IsKept shown moved 0 (seen, (no_nib, None)) (swapped old)
    (Adds (step 0 old (old + 1) e) (seen, (no_nib, None)))
adds_moves seen e old len cs log kept begins away =
    let P : List Cell → Type 0 = λ c. (0 < length c) × ((cell c 0).1 ≡ true)
    × Goes IsKept shown moved 0 (seen, (no_nib, None)) (swapped old)
    (Adds (step 0 old (old + 1) e) (seen, (no_nib, None))) c log in
    subst P (sym kept) (omega arith, refl, adds_goes log seen e old len begins (length log == old) refl)

-- where the number was found, the entry was added
pub was_added : (found old key : ℕ) (e : Entry) (v w : View Entry ℕ) → found ≡ old
    → Adds (step key old (old + 1) e) v found w → w.0 ≡ v.0 ++ e ∷ []
was_added found old key e v w is h =
    subst (λ (b : Bool). MatchBool b (w.0 ≡ v.0 ++ e ∷ []) (length w.0 ≡ found)) (eq-eqb found old is) h
