-- A grid and the function that it is made of: its cells, its values, its rows, and when two grids are one.
use Rattle.std.proofs.Common.{◌≡◌, ℕ, zero, suc, ◌+◌, ◌*◌, ◌/◌, ◌%◌, ◌<◌, ◌≤◌, List, map, length, get_or, take, drop, sym, ap, ◌∙◌, zero-add, arith}
use Rattle.std.specs.List.{range_with_len}
use Rattle.std.proofs.Math.Nat.{mod-lt}
use Rattle.std.proofs.lemmas.Bool.{lt-ltb, le-ltb, and_from, and_left, and_right, cond-true, cond-false}
use Rattle.std.proofs.lemmas.List.{same_lists, length-take, length-drop, get_or-take, get_or-drop}
use Rattle.std.proofs.lemmas.List.FromFn.{length-map-range_with_len, get_or-map-range_with_len, fill_by_all}
use Rattle.std.proofs.lemmas.Nat.{div-add-mod', mul-add-lt, div-mul-add, mod-mul-add, row_fits_turned, rows}
use Rattle.dd_geom.specs.Grid.{Grid, grid, value_at, row}

-- the column and the row of a place are inside
pub column_inside : (w h k : ℕ) → k < w * h → k % w < w
column_inside zero h k e = absurd (omega arith)
column_inside (suc w) h k e = mod-lt k (omega arith)

pub row_inside : (w h k : ℕ) → k < w * h → k / w < h
row_inside w h k e = grind (arith, rows)

module _ {A : Type 0} where
  -- a grid has a cell for each point
  pub length-cells : (w h : ℕ) (f : ℕ → ℕ → A) → length (grid w h f).cells ≡ w * h
  length-cells w h f = length-map-range_with_len (λ k. f (k % w) (k / w)) 0 (w * h)

  -- the cell at a place is the function's value at its column and row
  pub get_or-cells :
      (w h : ℕ) (f : ℕ → ℕ → A) (k : ℕ) (d : A) → k < w * h
      → get_or (grid w h f).cells k d ≡ f (k % w) (k / w)
  get_or-cells w h f k d e = get_or-map-range_with_len (λ k. f (k % w) (k / w)) 0 (w * h) k k d e (zero-add k)

  -- a grid has the values of its function
  pub value_at-grid :
      (d : A) (w h : ℕ) (f : ℕ → ℕ → A) (x y : ℕ) → x < w → y < h → value_at d (grid w h f) x y ≡ f x y
  value_at-grid d w h f x y across down =
      cond-true _ _ _ (and_from _ _ (lt-ltb x w across) (lt-ltb y h down))
      ∙ (get_or-cells w h f (y * w + x) d (mul-add-lt y w x h down across)
      ∙ (ap (λ n. f n ((y * w + x) / w)) (mod-mul-add y w x across) ∙ ap (f x) (div-mul-add y w x across)))

  -- outside a grid is the default
  pub value_at-right : (d : A) (g : Grid A) (x y : ℕ) → g.width ≤ x → value_at d g x y ≡ d
  value_at-right d g x y e = cond-false _ _ _ (and_left _ _ (le-ltb x g.width e))

  pub value_at-below : (d : A) (g : Grid A) (x y : ℕ) → g.height ≤ y → value_at d g x y ≡ d
  value_at-below d g x y e = cond-false _ _ _ (and_right _ _ (le-ltb y g.height e))

  -- the value at a point inside is the cell at its place
  pub value_at-place :
      (d : A) (w h : ℕ) (cells : List A) (x y : ℕ) → x < w → y < h
      → value_at d (record { width = w; height = h; cells = cells }) x y ≡ get_or cells (y * w + x) d
  value_at-place d w h cells x y across down =
      cond-true _ _ _ (and_from _ _ (lt-ltb x w across) (lt-ltb y h down))

  -- the value at a place's column and row is the cell there
  pub value_at-cell :
      (d : A) (w h : ℕ) (cells : List A) (k : ℕ) → k < w * h
      → value_at d (record { width = w; height = h; cells = cells }) (k % w) (k / w) ≡ get_or cells k d
  value_at-cell d w h cells k e =
      value_at-place d w h cells (k % w) (k / w) (column_inside w h k e) (row_inside w h k e)
      ∙ ap (λ n. get_or cells n d) (div-add-mod' k w)

  -- cells that are the function's values, place by place, are the grid's
  pub cells_from_places :
      (d : A) (w h : ℕ) (f : ℕ → ℕ → A) (cells : List A) → length cells ≡ w * h
      → ((k : ℕ) → k < w * h → get_or cells k d ≡ f (k % w) (k / w)) → cells ≡ (grid w h f).cells
  cells_from_places d w h f cells long same = fill_by_all (λ k. f (k % w) (k / w)) cells (w * h) d long same

  pub grid_from_places :
      (d : A) (w h : ℕ) (f : ℕ → ℕ → A) (cells : List A) → length cells ≡ w * h
      → ((k : ℕ) → k < w * h → get_or cells k d ≡ f (k % w) (k / w))
      → record { width = w; height = h; cells = cells } ≡ grid w h f
  grid_from_places d w h f cells long same =
      let at : List A → Grid A = λ cs. record { width = w; height = h; cells = cs } in
      ap at (cells_from_places d w h f cells long same)

  -- two functions that agree inside give one grid
  pub grid_from_agree :
      (w h : ℕ) (f g : ℕ → ℕ → A) → ((x y : ℕ) → x < w → y < h → f x y ≡ g x y) → grid w h f ≡ grid w h g
  grid_from_agree w h f g same =
      let at : List A → Grid A = λ cs. record { width = w; height = h; cells = cs } in
      ap at (same_lists _ _ (length-cells w h f ∙ sym (length-cells w h g)) (λ k d e.
      let inside : k < w * h = omega (arith, length-cells w h f) in
      get_or-cells w h f k d inside
      ∙ (same (k % w) (k / w) (column_inside w h k inside) (row_inside w h k inside)
      ∙ sym (get_or-cells w h g k d inside))))

  -- a grid with a cell for each point is the grid of its values
  pub grid-value_at :
      (d : A) (g : Grid A) → length g.cells ≡ g.width * g.height
      → g ≡ grid g.width g.height (value_at d g)
  grid-value_at d g long =
      grid_from_places d g.width g.height (value_at d g) g.cells long
      (λ k e. sym (value_at-cell d g.width g.height g.cells k e))

  -- two grids of one size with the same values are one
  pub same_grids :
      (d : A) (g h : Grid A) → length g.cells ≡ g.width * g.height → length h.cells ≡ h.width * h.height
      → g.width ≡ h.width → g.height ≡ h.height
      → ((x y : ℕ) → x < g.width → y < g.height → value_at d g x y ≡ value_at d h x y) → g ≡ h
  same_grids d g h long_g long_h wide high same =
      grid-value_at d g long_g
      ∙ (grid_from_agree g.width g.height (value_at d g) (value_at d h) same
      ∙ (ap (λ n. grid n g.height (value_at d h)) wide
      ∙ (ap (λ n. grid h.width n (value_at d h)) high
      ∙ sym (grid-value_at d h long_h))))

  -- a row is the function along it
  pub row-grid :
      (w h : ℕ) (f : ℕ → ℕ → A) (y : ℕ) → y < h
      → row (grid w h f) y ≡ map (λ x. f x y) (range_with_len 0 w)
  row-grid w h f y down =
      let cs : List A = (grid w h f).cells in
      let fits : y * w + w ≤ w * h = row_fits_turned y w w h down (omega arith) in
      let long : length (take w (drop (y * w) cs)) ≡ w =
      omega (arith, length-take w (drop (y * w) cs), length-drop (y * w) cs, length-cells w h f, fits) in
      same_lists _ _ (long ∙ sym (length-map-range_with_len (λ x. f x y) 0 w)) (λ k d e.
      let across : k < w = omega (arith, long) in
      get_or-take w (drop (y * w) cs) k d across
      ∙ (get_or-drop (y * w) cs k d
      ∙ (get_or-cells w h f (y * w + k) d (mul-add-lt y w k h down across)
      ∙ (ap (λ n. f n ((y * w + k) / w)) (mod-mul-add y w k across)
      ∙ (ap (f k) (div-mul-add y w k across)
      ∙ sym (get_or-map-range_with_len (λ x. f x y) 0 w k k d across (zero-add k)))))))
