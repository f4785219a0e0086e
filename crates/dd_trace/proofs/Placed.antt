-- Elements at their places: in the first of a list, and at the end of one.
use Rattle.std.proofs.Common.{◌≡◌, ℕ, zero, suc, ◌+◌, ◌<◌, List, [], ◌∷◌, ◌++◌, length, take, Some, refl, sym, ap, ◌∙◌, arith}
use Rattle.std.specs.Prelude.{slice_get}
use Rattle.std.proofs.lemmas.List.{length-append}
use Rattle.dd_log.specs.History.{History, Begins}
use Rattle.dd_log.specs.declared.events.Entry.{Entry}
use Rattle.dd_log.specs.Slots.{entry_slot, slot_at}

pub get-taken : {A : Type 0} (xs : List A) (k n : ℕ) → k < n → slice_get (take n xs) k ≡ slice_get xs k
get-taken xs k zero within = absurd (omega (arith, within))
get-taken [] k (suc n) within = refl
get-taken (x ∷ xs) zero (suc n) within = refl
get-taken (x ∷ xs) (suc k) (suc n) within = get-taken xs k n (omega (arith, within))

pub get-last : {A : Type 0} (xs : List A) (x : A) → slice_get (xs ++ x ∷ []) (length xs) ≡ Some x
get-last [] x = refl
get-last (y ∷ xs) x = get-last xs x

-- what stands in a list stands in each that begins with it
pub get-later : (h later : History) (place : ℕ) → Begins h later → place < length h.entries
    → slice_get later.entries place ≡ slice_get h.entries place
get-later h later place begins within =
    sym (get-taken later.entries place (length h.entries) within)
    ∙ ap (λ (es : List Entry). slice_get es place) begins.entries

pub slot-later : (h later : History) (place : ℕ) → Begins h later → place < length h.entries
    → slot_at later place ≡ slot_at h place
slot-later h later place begins within = ap entry_slot (get-later h later place begins within)

-- an entry that was added to a list stands at its end
pub added_there : (es : List Entry) (e : Entry) (later last : History) → later.entries ≡ es ++ e ∷ []
    → Begins later last → slice_get last.entries (length es) ≡ Some e
added_there es e later last is begins =
    get-later later last (length es) begins
    (omega (arith, ap length is, length-append es (e ∷ [])))
    ∙ ap (λ (xs : List Entry). slice_get xs (length es)) is
    ∙ get-last es e
