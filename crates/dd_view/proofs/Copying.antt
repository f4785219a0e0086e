-- A surface copied row by row.
use Rattle.std.proofs.Common.{◌≡◌, ℕ, ◌+◌, ◌*◌, ◌-◌, ◌<◌, true, false, cond, ltb, drop, get_or, sym, ap, subst, ◌∙◌, inl, inr, arith}
use Rattle.std.proofs.lemmas.Bool.{lt-ltb, le-leb, le-ltb, lt-leb, and_from, and_left, and_right, cond-true, cond-false, cases_lt}
use Rattle.std.proofs.lemmas.List.{get_or-take, get_or-drop}
use Rattle.dd_geom.specs.Rect.{has}
use Rattle.dd_geom.specs.Grid.{Grid, row}
use Rattle.dd_geom.proofs.GridLemmas.{grid_from_agree, grid-value_at, value_at-grid, value_at-place}
use Rattle.dd_grid.specs.Drawing.{IsSurface, blank, colour_at, image_at, imaged}
use Rattle.dd_view.specs.Screens.{row_at, first_rows}

-- a row has its own points alone
has_row : (w x y : ℕ) → x < w → has (row_at w y) x y ≡ true
has_row w x y across =
    and_from _ _ (and_from _ _ (and_from _ _ (le-leb 0 x (omega arith)) (lt-ltb x w across)) (le-leb y y (omega arith)))
    (lt-ltb y (y + 1) (omega arith))

not_above : (w x y k : ℕ) → k < y → has (row_at w y) x k ≡ false
not_above w x y k above = and_left _ _ (and_right _ _ (lt-leb y k above))

not_below : (w x y k : ℕ) → y < k → has (row_at w y) x k ≡ false
not_below w x y k below = and_right _ _ (le-ltb k (y + 1) (omega (arith, below)))

row_read : (s : Grid ℕ) (x y : ℕ) → x < s.width → y < s.height → get_or (row s y) x 0 ≡ colour_at s x y
row_read s x y across down =
    get_or-take s.width (drop (y * s.width) s.cells) x 0 across
    ∙ get_or-drop (y * s.width) s.cells x 0
    ∙ sym (value_at-place 0 s.width s.height s.cells x y across down)

image_row : (s : Grid ℕ) (x y : ℕ) → x < s.width → y < s.height
    → image_at (row_at s.width y) (row s y) x y ≡ colour_at s x y
image_row s x y across down =
    let none : y - y ≡ 0 = omega arith in
    let first : (y - y) * (s.width - 0) + (x - 0) ≡ 0 * (s.width - 0) + (x - 0) =
    ap (λ (k : ℕ). k * (s.width - 0) + (x - 0)) none in
    let place : (y - y) * (s.width - 0) + (x - 0) ≡ x = first ∙ omega arith in
    value_at-place 0 (s.width - 0) (y + 1 - y) (row s y) (x - 0) (y - y) (omega (arith, across)) (omega arith)
    ∙ ap (λ (k : ℕ). get_or (row s y) k 0) place
    ∙ row_read s x y across down

module _ (s : Grid ℕ) (y : ℕ) (down : y < s.height) where
  abbrev drawn : ℕ → ℕ → ℕ
  drawn x k =
      cond (has (row_at s.width y) x k) (image_at (row_at s.width y) (row s y) x k)
      (colour_at (first_rows s y) x k)

  abbrev wanted : ℕ → ℕ → ℕ
  wanted x k = cond (ltb k (y + 1)) (colour_at s x k) 0

  kept : (x k : ℕ) → x < s.width → k < s.height
      → colour_at (first_rows s y) x k ≡ cond (ltb k y) (colour_at s x k) 0
  kept x k across inside =
      value_at-grid 0 s.width s.height (λ x k. cond (ltb k y) (colour_at s x k) 0) x k across inside

  point : (x k : ℕ) → x < s.width → k < s.height → drawn x k ≡ wanted x k
  point x k across inside = elim (cases_lt k y) [
    | inl above ↦
        cond-false _ _ _ (not_above s.width x y k above) ∙ kept x k across inside
        ∙ cond-true _ (colour_at s x k) 0 (lt-ltb k y above)
        ∙ sym (cond-true _ (colour_at s x k) 0 (lt-ltb k (y + 1) (omega (arith, above))))
    | inr least ↦
        elim (cases_lt y k) [
          | inl below ↦
              cond-false _ _ _ (not_below s.width x y k below) ∙ kept x k across inside
              ∙ cond-false _ (colour_at s x k) 0 (le-ltb k y (omega (arith, below)))
              ∙ sym (cond-false _ (colour_at s x k) 0 (le-ltb k (y + 1) (omega (arith, below))))
          | inr most ↦
              let same : y ≡ k = omega (arith, least, most) in
              subst (λ (n : ℕ). drawn x n ≡ wanted x n) same
              (cond-true _ _ _ (has_row s.width x y across) ∙ image_row s x y across down
              ∙ sym (cond-true _ (colour_at s x y) 0 (lt-ltb y (y + 1) (omega arith))))
        ]
  ]

  pub row_more : imaged (first_rows s y) (row_at s.width y) (row s y) ≡ first_rows s (y + 1)
  row_more = grid_from_agree s.width s.height drawn wanted point

pub no_rows : (s : Grid ℕ) → blank s.width s.height ≡ first_rows s 0
no_rows s =
    grid_from_agree s.width s.height (λ x y. 0) (λ x y. cond (ltb y 0) (colour_at s x y) 0)
    (λ x y across down. sym (cond-false _ (colour_at s x y) 0 (le-ltb y 0 (omega arith))))

pub all_rows : (s : Grid ℕ) → IsSurface s → first_rows s s.height ≡ s
all_rows s is =
    grid_from_agree s.width s.height (λ x y. cond (ltb y s.height) (colour_at s x y) 0) (colour_at s)
    (λ x y across down. cond-true _ (colour_at s x y) 0 (lt-ltb y s.height down))
    ∙ sym (grid-value_at 0 s is.whole)
