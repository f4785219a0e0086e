-- Dirty rectangles as the one list that tells their points, and the number of their points.
use Rattle.std.specs.Prelude.{◌≡◌, ℕ, Bool, ◌&&◌, List, map, sum, IsTrue, ◌↔◌}
use Rattle.std.specs.List.{list_any, list_all}
use Rattle.std.specs.Ordering.{int_eq}
use lib.Pointwise.{pointwise}
use Rattle.dd_geom.specs.declared.rect.Rect.{Rect}
use Rattle.dd_geom.specs.Rect.{has, is_inside, points}
use Rattle.dd_geom.specs.Grid.{Grid, grid}
use Rattle.dd_modes.specs.declared.modes.Mode.{Mode}
use Rattle.dd_bits.specs.CanonicalList.{canonical_list}

-- each of the rectangles lies inside the surface of a mode
abbrev pub are_inside : Mode → List Rect → Bool
are_inside mode rects = list_all (λ r. is_inside r mode.width mode.height) rects

-- the points of a surface that lie in one of the rectangles
abbrev pub covered_by : ℕ → ℕ → List Rect → Grid Bool
covered_by w h rects = grid w h (λ x y. list_any (λ r. has r x y) rects)

-- two rectangles are the same, and two lists of them are, in order
abbrev pub same_rect : Rect → Rect → Bool
same_rect r s =
    int_eq r.left s.left && (int_eq r.top s.top && (int_eq r.right s.right && int_eq r.bottom s.bottom))

abbrev pub same_rects : List Rect → List Rect → Bool
same_rects rects others = pointwise same_rect rects others

-- the rectangles are the canonical list of their points
unfoldable pub is_canonical : ℕ → ℕ → List Rect → Bool
is_canonical w h rects = same_rects rects (canonical_list (covered_by w h rects))

-- the test tells exactly that
abbrev pub TellsCanonical : Type 0
TellsCanonical =
    (w h : ℕ) (rects : List Rect)
    → IsTrue (is_canonical w h rects) ↔ (rects ≡ canonical_list (covered_by w h rects))

-- how many points the rectangles have
abbrev pub pixel_count : List Rect → ℕ
pixel_count rects = sum (map points rects)
