-- What one moment more tells of the one list.
use Rattle.std.proofs.Common.{◌≡◌, ℕ, List, [], ◌∷◌, ◌++◌, Option, Some, None, refl, sym, ap, ◌∙◌, append_assoc, append-nil}
use Rattle.std.specs.List.{cons_option}
use Rattle.dd_trace.specs.Trace.{Moment}
use Rattle.dd_trace.specs.Entered.{entry_told, entries_told}

-- one moment more tells its entry, where it has one
cons_append : {A : Type 0} (o : Option A) (xs ys : List A) → cons_option o (xs ++ ys) ≡ cons_option o xs ++ ys
cons_append None xs ys = refl
cons_append (Some x) xs ys = refl

pub told-more : (apps : List ℕ) (done ms : List Moment) (m : Moment)
    → entries_told apps done (ms ++ m ∷ [])
    ≡ entries_told apps done ms ++ cons_option (entry_told apps (done ++ ms) m) []
told-more apps done [] m =
    ap (λ (xs : List Moment). cons_option (entry_told apps xs m) []) (sym (append-nil done))
told-more apps done (x ∷ ms) m =
    let rest = entries_told apps (done ++ x ∷ []) ms in
    ap (cons_option (entry_told apps done x))
    (told-more apps (done ++ x ∷ []) ms m
    ∙ ap (λ (xs : List Moment). rest ++ cons_option (entry_told apps xs m) []) (append_assoc done (x ∷ []) ms))
    ∙ cons_append (entry_told apps done x) rest (cons_option (entry_told apps (done ++ x ∷ ms) m) [])
