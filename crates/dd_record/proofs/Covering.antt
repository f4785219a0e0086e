-- Rectangles added one after another make the points that lie in one of them.
use Rattle.std.proofs.Common.{◌≡◌, ℕ, ◌+◌, ◌<◌, Bool, true, false, ◌||◌, List, [], ◌∷◌, ◌++◌, length, take, get_or, refl, sym, ap, ◌∙◌}
use Rattle.std.specs.List.{list_any}
use Rattle.std.proofs.lemmas.List.{take_more}
use Rattle.std.proofs.lemmas.List.Folds.{list_any-append}
use Rattle.dd_geom.specs.declared.rect.Rect.{Rect}
use Rattle.dd_geom.specs.Rect.{has}
use Rattle.dd_geom.proofs.GridLemmas.{value_at-grid, grid_from_agree}
use Rattle.dd_bits.specs.Area.{with_rect}
use Rattle.dd_record.specs.Dirt.{covered_by}

either : (a b : Bool) → (a || b) ≡ (b || (a || false))
either true true = refl
either true false = refl
either false true = refl
either false false = refl

-- a point lies in the last of several rectangles or in one before it
in_one : (p : Rect → Bool) (before : List Rect) (r : Rect)
    → (p r || list_any p before) ≡ list_any p (before ++ r ∷ [])
in_one p before r = either (p r) (list_any p before) ∙ sym (list_any-append p before (r ∷ []))

pub covered_more : (w h : ℕ) (rects : List Rect) (i : ℕ) (d : Rect) → i < length rects
    → with_rect (covered_by w h (take i rects)) (get_or rects i d) ≡ covered_by w h (take (i + 1) rects)
covered_more w h rects i d within =
    let before : List Rect = take i rects in
    let r : Rect = get_or rects i d in
    grid_from_agree w h _ (λ x y. list_any (λ s. has s x y) (take (i + 1) rects)) (λ x y across down.
    ap (λ b. has r x y || b) (value_at-grid false w h (λ x y. list_any (λ s. has s x y) before) x y across down)
    ∙ in_one (λ s. has s x y) before r
    ∙ ap (list_any (λ s. has s x y)) (sym (take_more rects i d within)))
