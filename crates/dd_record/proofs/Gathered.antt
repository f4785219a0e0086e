-- The pixels of a frame's rectangles, gathered row by row, are those of the parts of its surface.
use Rattle.std.proofs.Common.{◌≡◌, ℕ, zero, suc, ◌+◌, ◌-◌, ◌*◌, ◌<◌, ◌≤◌, ⊎_elim, List, [], ◌∷◌, ◌++◌, length, take, drop, get_or, refl, sym, ap, ◌∙◌, arith}
use Rattle.std.specs.List.{flat_map, range_with_len}
use Rattle.std.proofs.Math.Nat.{suc-mul}
use Rattle.std.proofs.Math.Seq.{take-add}
use Rattle.std.proofs.lemmas.Bool.{cases_lt, lt-ltb, le-ltb, cond-true, cond-false}
use Rattle.std.proofs.lemmas.List.{take_all, drop-drop, length-take, get_or-take, get_or-drop, get_or_past}
use Rattle.std.proofs.lemmas.List.Concat.{flat_map-cons, flat_map-append}
use Rattle.std.proofs.lemmas.List.Folds.{flat_map-map}
use Rattle.dd_geom.specs.declared.rect.Rect.{Rect}
use Rattle.dd_geom.specs.Rect.{place, sides}
use Rattle.dd_geom.specs.Grid.{Grid, row}
use Rattle.dd_geom.proofs.GridLemmas.{row-grid, length-cells, value_at-right, value_at-below, value_at-place}
use Rattle.dd_grid.specs.Drawing.{colour_at}
use Rattle.dd_record.specs.Frames.{part, pixels_in}
use Rattle.dd_record.specs.Pages.{row_at, pixel_in, run_bytes, block_bytes}
use Rattle.dd_record.specs.Writing.{pixel_bytes}

module _ {A : Type 0} where
  -- places that are numbered otherwise, and have the same bytes
  same_places : (f g : ℕ → List A) (a b n : ℕ) → ((i j d : ℕ) → i ≡ a + d → j ≡ b + d → d < n → f i ≡ g j)
      → flat_map f (range_with_len a n) ≡ flat_map g (range_with_len b n)
  same_places f g a b zero same = refl
  same_places f g a b (suc n) same =
      let others : flat_map f (range_with_len (a + 1) n) ≡ flat_map g (range_with_len (b + 1) n) =
      same_places f g (a + 1) (b + 1) n (λ i j d is_i is_j within.
      same i j (d + 1) (omega arith) (omega arith) (omega arith)) in
      flat_map-cons f a (range_with_len (a + 1) n)
      ∙ ap (λ xs. xs ++ flat_map f (range_with_len (a + 1) n)) (same a b 0 (omega arith) (omega arith) (omega arith))
      ∙ ap (λ xs. g b ++ xs) others
      ∙ sym (flat_map-cons g b (range_with_len (b + 1) n))

  -- elements in rows of one length
  in_rows : (xs : List A) (w k n : ℕ)
      → flat_map (λ y. take w (drop (y * w) xs)) (range_with_len k n) ≡ take (n * w) (drop (k * w) xs)
  in_rows xs w k zero =
      let none : zero * w ≡ 0 = omega arith in
      ap (λ m. take m (drop (k * w) xs)) (sym none)
  in_rows xs w k (suc n) =
      let here : List A = drop (k * w) xs in
      let below : w + n * w ≡ suc n * w = omega (arith, suc-mul n w) in
      let next : k * w + w ≡ (k + 1) * w = omega (arith, suc-mul k w) in
      flat_map-cons (λ y. take w (drop (y * w) xs)) k (range_with_len (k + 1) n)
      ∙ ap (λ ys. take w here ++ ys)
      (in_rows xs w (k + 1) n ∙ ap (λ m. take (n * w) (drop m xs)) (sym next)
      ∙ ap (take (n * w)) (sym (drop-drop w (k * w) xs)))
      ∙ sym (take-add w (n * w) here)
      ∙ ap (λ m. take m here) below

  -- a grid's cells are its rows, one after another
  cells_in_rows : (w h : ℕ) (cells : List A) → length cells ≡ w * h
      → cells ≡ flat_map (λ y. take w (drop (y * w) cells)) (range_with_len 0 h)
  cells_in_rows w h cells long =
      let turned : length cells ≤ h * w = omega (arith, long) in
      let none : 0 ≡ 0 * w = omega arith in
      sym (take_all (h * w) cells turned) ∙ ap (λ n. take (h * w) (drop n cells)) none ∙ sym (in_rows cells w 0 h)

  -- bytes of elements that come in pieces
  of_pieces : {X Y : Type 0} (f : Y → List A) (g : X → List Y) (xs : List X)
      → flat_map f (flat_map g xs) ≡ flat_map (λ x. flat_map f (g x)) xs
  of_pieces f g [] = refl
  of_pieces f g (x ∷ xs) =
      ap (flat_map f) (flat_map-cons g x xs) ∙ flat_map-append f (g x) (flat_map g xs)
      ∙ ap (λ ys. flat_map f (g x) ++ ys) (of_pieces f g xs)
      ∙ sym (flat_map-cons (λ z. flat_map f (g z)) x xs)

-- a colour of a surface is found in its row, and is black outside
colour_there : (s : Grid ℕ) (x y : ℕ) → colour_at s x y ≡ get_or (row_at s y) x 0
colour_there s x y = ⊎_elim
    (λ (down : y < s.height).
    let is_row : row_at s y ≡ row s y = cond-true _ _ _ (lt-ltb y s.height down) in
    ⊎_elim
    (λ (across : x < s.width).
    value_at-place 0 s.width s.height s.cells x y across down
    ∙ sym (ap (λ r. get_or r x 0) is_row ∙ get_or-take s.width (drop (y * s.width) s.cells) x 0 across
    ∙ get_or-drop (y * s.width) s.cells x 0))
    (λ (right : s.width ≤ x).
    let short : length (row s y) ≤ x = omega (arith, length-take s.width (drop (y * s.width) s.cells)) in
    value_at-right 0 s x y right ∙ sym (ap (λ r. get_or r x 0) is_row ∙ get_or_past (row s y) x 0 short))
    (cases_lt x s.width))
    (λ (below : s.height ≤ y).
    let none : row_at s y ≡ [] = cond-false _ _ _ (le-ltb y s.height below) in
    value_at-below 0 s x y below ∙ sym (ap (λ r. get_or r x 0) none))
    (cases_lt y s.height)

-- the pixels of a part of a surface
block_is : (s : Grid ℕ) (r : Rect) → block_bytes s (sides r) ≡ flat_map pixel_bytes (part s r).cells
unfolding block_bytes run_bytes
block_is s r =
    let left = place r.left in
    let top = place r.top in
    let w = place r.right - left in
    let h = place r.bottom - top in
    let cells : List ℕ = (part s r).cells in
    let f : ℕ → ℕ → ℕ = λ x y. colour_at s (left + x) (top + y) in
    let one_row : (i j d : ℕ) → i ≡ 0 + d → j ≡ top + d → d < h
    → flat_map pixel_bytes (take w (drop (i * w) cells)) ≡ flat_map (pixel_in (row_at s j)) (range_with_len left w) =
    λ i j d is_i is_j within.
    ap (flat_map pixel_bytes) (row-grid w h f i (omega arith))
    ∙ flat_map-map pixel_bytes (λ x. f x i) (range_with_len 0 w)
    ∙ same_places (λ x. pixel_bytes (f x i)) (pixel_in (row_at s j)) 0 left w (λ x y e is_x is_y inside.
    let there : left + x ≡ y = omega arith in
    let lower : top + i ≡ j = omega arith in
    ap (λ n. pixel_bytes (colour_at s n (top + i))) there
    ∙ ap (λ n. pixel_bytes (colour_at s y n)) lower
    ∙ ap pixel_bytes (colour_there s y j)) in
    sym (ap (flat_map pixel_bytes) (cells_in_rows w h cells (length-cells w h f))
    ∙ of_pieces pixel_bytes (λ y. take w (drop (y * w) cells)) (range_with_len 0 h)
    ∙ same_places (λ y. flat_map pixel_bytes (take w (drop (y * w) cells)))
    (λ y. flat_map (pixel_in (row_at s y)) (range_with_len left w)) 0 top h one_row)

-- and of all of them
pub gathered_is : (s : Grid ℕ) (rects : List Rect)
    → flat_map (λ r. block_bytes s (sides r)) rects ≡ flat_map pixel_bytes (pixels_in s rects)
unfolding pixels_in
gathered_is s rects =
    each rects ∙ sym (of_pieces pixel_bytes (λ r. (part s r).cells) rects) where
      each : (rs : List Rect) → flat_map (λ r. block_bytes s (sides r)) rs
          ≡ flat_map (λ r. flat_map pixel_bytes (part s r).cells) rs
      each [] = refl
      each (r ∷ rs) =
          flat_map-cons (λ q. block_bytes s (sides q)) r rs
          ∙ ap (λ xs. xs ++ flat_map (λ q. block_bytes s (sides q)) rs) (block_is s r)
          ∙ ap (λ xs. flat_map pixel_bytes (part s r).cells ++ xs) (each rs)
          ∙ sym (flat_map-cons (λ q. flat_map pixel_bytes (part s q).cells) r rs)
