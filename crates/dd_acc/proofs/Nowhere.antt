-- The empty set has no point and no rectangles.
use Rattle.std.proofs.Common.{◌≡◌, ℕ, ◌-◌, Bool, true, false, List, [], ◌∷◌, ◌++◌, refl, if◌then◌else◌, ap, ◌∙◌, ⊎_elim}
use Rattle.std.specs.List.{flat_map, range_with_len}
use Rattle.std.proofs.lemmas.Bool.{and_left, cond-false, cases_lt}
use Rattle.dd_geom.specs.declared.rect.Rect.{Rect}
use Rattle.dd_geom.proofs.GridLemmas.{value_at-grid, value_at-right, value_at-below}
use Rattle.dd_bits.specs.Area.{is_in, nowhere}
use Rattle.dd_bits.specs.CanonicalList.{starts_run, run_end, rect_from, run_at, starts_band, band_end, band_at, canonical_list}

pub is_in-nowhere : (w h x y : ℕ) → is_in (nowhere w h) x y ≡ false
is_in-nowhere w h x y = ⊎_elim
    (λ across. ⊎_elim
    (λ down. value_at-grid false w h (λ a b. false) x y across down)
    (λ low. value_at-below false (nowhere w h) x y low)
    (cases_lt y h))
    (λ right. value_at-right false (nowhere w h) x y right)
    (cases_lt x w)

all_none : (f : ℕ → List Rect) → ((x : ℕ) → f x ≡ []) → (xs : List ℕ) → flat_map f xs ≡ []
all_none f none [] = refl
all_none f none (x ∷ xs) = ap (λ ys. ys ++ flat_map f xs) (none x) ∙ all_none f none xs

none_starts : (p : ℕ → Bool) (w top bottom x : ℕ) → p x ≡ false → run_at p w top bottom x ≡ []
none_starts p w top bottom x e =
    cond-false (starts_run p x) (rect_from x top (run_end p x (w - x)) bottom ∷ []) [] (and_left (p x) _ e)

if_none : (b : Bool) (rs : List Rect) → rs ≡ [] → (if b then rs else []) ≡ []
if_none true rs e = e
if_none false rs e = refl

pub list-nowhere : (w h : ℕ) → canonical_list (nowhere w h) ≡ []
unfolding canonical_list
list-nowhere w h =
    all_none (band_at (nowhere w h))
    (λ y. if_none (starts_band (nowhere w h) y) _
    (all_none (run_at (λ x. is_in (nowhere w h) x y) w y (band_end (nowhere w h) y))
    (λ x. none_starts (λ a. is_in (nowhere w h) a y) w y (band_end (nowhere w h) y) x (is_in-nowhere w h x y))
    (range_with_len 0 w)))
    (range_with_len 0 h)
