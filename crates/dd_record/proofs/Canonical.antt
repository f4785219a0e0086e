-- The test of a list of rectangles.
use Rattle.std.proofs.Common.{◌≡◌, ℤ, List, refl, ap, ◌∙◌}
use Rattle.std.specs.Bool.{Decides}
use Rattle.std.proofs.lemmas.Bool.Decides.{Decides-int_eq, Decides-and, Decides-like}
use Rattle.std.proofs.lemmas.Slice.Eq.{slice_eq-Decides}
use Rattle.dd_geom.specs.declared.rect.Rect.{Rect}
use Rattle.dd_bits.specs.CanonicalList.{canonical_list}
use Rattle.dd_record.specs.Dirt.{covered_by, same_rect, same_rects, is_canonical, TellsCanonical}

-- rectangles with equal sides are equal
equal : (r s : Rect) → (r.left ≡ s.left) × ((r.top ≡ s.top) × ((r.right ≡ s.right) × (r.bottom ≡ s.bottom))) → r ≡ s
equal r s e =
    ap (λ (a : ℤ). record { left = a; top = r.top; right = r.right; bottom = r.bottom }) e.0
    ∙ ap (λ (a : ℤ). record { left = s.left; top = a; right = r.right; bottom = r.bottom }) e.1.0
    ∙ ap (λ (a : ℤ). record { left = s.left; top = s.top; right = a; bottom = r.bottom }) e.1.1.0
    ∙ ap (λ (a : ℤ). record { left = s.left; top = s.top; right = s.right; bottom = a }) e.1.1.1

same_rect_decides : (r s : Rect) → Decides (same_rect r s) (r ≡ s)
same_rect_decides r s =
    Decides-like (same_rect r s) (equal r s)
    (λ e. (
      ap (λ (x : Rect). x.left) e,
      (
        ap (λ (x : Rect). x.top) e,
        (ap (λ (x : Rect). x.right) e, ap (λ (x : Rect). x.bottom) e),
      ),
    ))
    (Decides-and _ _ (Decides-int_eq r.left s.left)
    (Decides-and _ _ (Decides-int_eq r.top s.top)
    (Decides-and _ _ (Decides-int_eq r.right s.right) (Decides-int_eq r.bottom s.bottom))))

pub tells_canonical : TellsCanonical
unfolding is_canonical
tells_canonical w h rects =
    let list : List Rect = canonical_list (covered_by w h rects) in
    slice_eq-Decides same_rect_decides rects list (same_rects rects list) refl
