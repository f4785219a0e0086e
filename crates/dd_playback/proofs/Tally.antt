-- Frames that are counted, and what the one that is asked for showed.
use Rattle.std.proofs.Common.{◌≡◌, ℕ, zero, suc, ◌+◌, ◌≤◌, Bool, true, false, List, [], ◌∷◌, fold, Option, Some, None, refl, ap, ◌∙◌, arith, if◌then◌else◌, ◌==◌}
use Rattle.std.specs.Prelude.{slice_get}
use Rattle.std.specs.List.{cons_option}
use Rattle.std.proofs.lemmas.Bool.{eq-eqb, ne_eqb}
use Rattle.dd_view.specs.Playing.{Shown, Played}

-- how many frames there were, and what the one that is asked for showed
pub record Tally : Type 0 where
  pub frames : ℕ
  pub shown : Option Shown

abbrev pub tally_of : Played → Tally
tally_of p = record { frames = p.frames; shown = p.shown }

abbrev pub counted : ℕ → Tally → Shown → Tally
counted asked t shown =
    record { frames = t.frames + 1; shown = if t.frames + 1 == asked then Some shown else t.shown }

abbrev pub counted_if : ℕ → Tally → Option Shown → Tally
counted_if asked t None = t
counted_if asked t (Some shown) = counted asked t shown

pub frames_more : (k : ℕ) (t : Tally) (shown : Option Shown) (rest : List Shown)
    → fold (counted k) t (cons_option shown rest) ≡ fold (counted k) (counted_if k t shown) rest
frames_more k t None rest = refl
frames_more k t (Some shown) rest = refl

past_frame : (k n : ℕ) (xs : List Shown) (shown : Option Shown) → k ≤ n
    → (fold (counted k) (record { frames = n; shown = shown }) xs).shown ≡ shown
past_frame k n [] shown past = refl
past_frame k n (x ∷ xs) shown past =
    let other : (n + 1 == k) ≡ false = ne_eqb (n + 1) k (λ (e : n + 1 ≡ k). absurd (omega (arith, e, past))) in
    ap (λ (b : Bool).
    (fold (counted k) (record { frames = n + 1; shown = if b then Some x else shown }) xs).shown) other
    ∙ past_frame k (n + 1) xs shown (omega (arith, past))

pub frame_from : (k n m : ℕ) (xs : List Shown) → n + 1 + m ≡ k
    → (fold (counted k) (record { frames = n; shown = None }) xs).shown ≡ slice_get xs m
frame_from k n m [] at = refl
frame_from k n zero (x ∷ xs) at =
    let here : (n + 1 == k) ≡ true = eq-eqb (n + 1) k (omega (arith, at)) in
    ap (λ (b : Bool).
    (fold (counted k) (record { frames = n + 1; shown = if b then Some x else None }) xs).shown) here
    ∙ past_frame k (n + 1) xs (Some x) (omega (arith, at))
frame_from k n (suc m) (x ∷ xs) at =
    let other : (n + 1 == k) ≡ false = ne_eqb (n + 1) k (λ (e : n + 1 ≡ k). absurd (omega (arith, e, at))) in
    ap (λ (b : Bool).
    (fold (counted k) (record { frames = n + 1; shown = if b then Some x else None }) xs).shown) other
    ∙ frame_from k (n + 1) m xs (omega (arith, at))
