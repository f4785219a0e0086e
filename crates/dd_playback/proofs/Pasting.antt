-- The pixels of a surface's rectangles, pasted into them: their points are copied.
use Rattle.std.proofs.Common.{◌≡◌, ℕ, ◌+◌, ◌-◌, ◌*◌, ◌<◌, ◌≤◌, Bool, true, false, ◌&&◌, ◌||◌, List, [], ◌∷◌, ◌++◌, length, take, drop, nat_le, nat_lt, refl, ap, ◌∙◌, arith, if◌then◌else◌}
use Rattle.std.proofs.lemmas.Bool.{and_parts, leb-true, ltb-true}
use Rattle.std.proofs.lemmas.List.{take-append-le, take_all, drop-append-le, drop_all}
use Rattle.dd_geom.specs.declared.rect.Rect.{Rect}
use Rattle.dd_geom.specs.declared.rect.Move.{Move}
use Rattle.dd_geom.specs.Rect.{has, place, points, source_x, source_y}
use Rattle.dd_geom.specs.Grid.{Grid, grid, value_at}
use Rattle.dd_geom.proofs.GridLemmas.{length-cells, value_at-grid, grid-value_at, grid_from_agree}
use Rattle.dd_grid.specs.Drawing.{colour_at, image_at, imaged, moved}
use Rattle.dd_acc.specs.Rebuild.{any_has, copied, all_moved}
use Rattle.dd_record.specs.Frames.{part, pixels_in}
use Rattle.dd_view.specs.Playing.{pasted}

-- a surface has a colour for each point, and has one after moves
abbrev pub IsWhole : Grid ℕ → Type 0
IsWhole s = length s.cells ≡ s.width * s.height

pub whole-moved : (s : Grid ℕ) (ms : List Move) → IsWhole s → IsWhole (all_moved s ms)
whole-moved s [] whole = whole
whole-moved s (m ∷ ms) whole =
    whole-moved (moved s m) ms
    (length-cells s.width s.height
    (λ x y. if has m.dest x y then value_at 0 s (source_x m x) (source_y m y) else value_at 0 s x y))

-- the pixels of one rectangle more
pixels-cons : (t : Grid ℕ) (r : Rect) (rects : List Rect)
    → pixels_in t (r ∷ rects) ≡ (part t r).cells ++ pixels_in t rects
unfolding pixels_in
pixels-cons t r rects = refl

length-part : (t : Grid ℕ) (r : Rect) → length (part t r).cells ≡ points r
length-part t r =
    length-cells (place r.right - place r.left) (place r.bottom - place r.top)
    (λ x y. colour_at t (place r.left + x) (place r.top + y))

-- the first of them are the rectangle's, and the rest the others'
take-pixels : (t : Grid ℕ) (r : Rect) (rects : List Rect)
    → take (points r) (pixels_in t (r ∷ rects)) ≡ (part t r).cells
take-pixels t r rects =
    let long = length-part t r in
    ap (take (points r)) (pixels-cons t r rects)
    ∙ take-append-le (points r) (part t r).cells (pixels_in t rects) (omega (arith, long))
    ∙ take_all (points r) (part t r).cells (omega (arith, long))

drop-pixels : (t : Grid ℕ) (r : Rect) (rects : List Rect)
    → drop (points r) (pixels_in t (r ∷ rects)) ≡ pixels_in t rects
drop-pixels t r rects =
    let long = length-part t r in
    ap (drop (points r)) (pixels-cons t r rects)
    ∙ drop-append-le (points r) (part t r).cells (pixels_in t rects) (omega (arith, long))
    ∙ ap (λ xs. xs ++ pixels_in t rects) (drop_all (points r) (part t r).cells (omega (arith, long)))

-- at a point of a rectangle, its part of a surface has the surface's colour
image-part : (t : Grid ℕ) (r : Rect) (x y : ℕ) → has r x y ≡ true → image_at r (part t r).cells x y ≡ colour_at t x y
image-part t r x y inside =
    let left = place r.left in
    let top = place r.top in
    let upper = and_parts (nat_le left x && nat_lt x (place r.right) && nat_le top y) (nat_lt y (place r.bottom)) inside
    in
    let lower = and_parts (nat_le left x && nat_lt x (place r.right)) (nat_le top y) upper.0 in
    let sideways = and_parts (nat_le left x) (nat_lt x (place r.right)) lower.0 in
    let from_left : left ≤ x = leb-true left x sideways.0 in
    let to_right : x < place r.right = ltb-true x (place r.right) sideways.1 in
    let from_top : top ≤ y = leb-true top y lower.1 in
    let to_bottom : y < place r.bottom = ltb-true y (place r.bottom) upper.1 in
    let column : left + (x - left) ≡ x = omega arith in
    let row : top + (y - top) ≡ y = omega arith in
    value_at-grid 0 (place r.right - left) (place r.bottom - top) (λ a b. colour_at t (left + a) (top + b)) (x - left)
    (y - top) (omega arith) (omega arith)
    ∙ (ap (λ n. colour_at t n (top + (y - top))) column ∙ ap (colour_at t x) row)

-- a rectangle's own pixels pasted, and then others copied
choose : (here others : Bool) (a b c : ℕ) → (here ≡ true → a ≡ b)
    → (if others then b else (if here then a else c)) ≡ (if here || others then b else c)
choose true true a b c same = refl
choose true false a b c same = same refl
choose false true a b c same = refl
choose false false a b c same = refl

copied-part : (s t : Grid ℕ) (r : Rect) (rects : List Rect)
    → copied (imaged s r (part t r).cells) rects t ≡ copied s (r ∷ rects) t
copied-part s t r rects =
    let one = λ (x y : ℕ). if has r x y then image_at r (part t r).cells x y else colour_at s x y in
    grid_from_agree s.width s.height
    (λ x y. if any_has rects x y then colour_at t x y else colour_at (grid s.width s.height one) x y)
    (λ x y. if any_has (r ∷ rects) x y then colour_at t x y else colour_at s x y)
    (λ x y across down.
    ap (λ n. if any_has rects x y then colour_at t x y else n) (value_at-grid 0 s.width s.height one x y across down)
    ∙ choose (has r x y) (any_has rects x y) (image_at r (part t r).cells x y) (colour_at t x y) (colour_at s x y)
    (image-part t r x y))

pub pasted_is_copied : (rects : List Rect) (s t : Grid ℕ) → IsWhole s
    → pasted s rects (pixels_in t rects) ≡ copied s rects t
pasted_is_copied [] s t whole = grid-value_at 0 s whole
pasted_is_copied (r ∷ rects) s t whole =
    let one = imaged s r (part t r).cells in
    ap (λ xs. pasted (imaged s r xs) rects (drop (points r) (pixels_in t (r ∷ rects)))) (take-pixels t r rects)
    ∙ ap (pasted one rects) (drop-pixels t r rects)
    ∙ pasted_is_copied rects one t
    (length-cells s.width s.height
    (λ x y. if has r x y then image_at r (part t r).cells x y else colour_at s x y))
    ∙ copied-part s t r rects
