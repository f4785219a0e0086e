-- What is drawn on a picture is seen as the same drawn on what was seen of it.
use Rattle.std.proofs.Common.{◌≡◌, ℕ, Bool, true, false, cond, refl, sym, ap, ◌∙◌, inl, inr}
use Rattle.std.proofs.lemmas.Bool.{cases_lt}
use Rattle.dd_geom.specs.declared.rect.Rect.{Rect}
use Rattle.dd_geom.specs.Rect.{has, source_x, source_y}
use Rattle.dd_geom.specs.Grid.{Grid, grid, value_at}
use Rattle.dd_geom.proofs.GridLemmas.{grid_from_agree, value_at-grid, value_at-right, value_at-below}
use Rattle.dd_grid.specs.Cell.{Cell, plain, covered_cell, seen_cell}
use Rattle.dd_grid.specs.Drawing.{cell_at, colour_at, image_at, seen, SeenCommutes}

module _ {A B : Type 0} where
  -- the grid of what a function makes of each value has at every point what it makes of the value there
  pub value_at-mapped :
      (f : A → B) (d : A) (g : Grid A) (x y : ℕ)
      → value_at (f d) (grid g.width g.height (λ a b. f (value_at d g a b))) x y ≡ f (value_at d g x y)
  value_at-mapped f d g x y =
      let all : Grid B = grid g.width g.height (λ a b. f (value_at d g a b)) in
      elim (cases_lt x g.width) [
        | inl across ↦ elim (cases_lt y g.height) [
          | inl down ↦ value_at-grid (f d) g.width g.height (λ a b. f (value_at d g a b)) x y across down
          | inr below ↦ value_at-below (f d) all x y below ∙ ap f (sym (value_at-below d g x y below))
        ]
        | inr right ↦ value_at-right (f d) all x y right ∙ ap f (sym (value_at-right d g x y right))
      ]

  -- what a function makes of a choice is the choice of what it makes
  pub of_choice : (f : A → B) (b : Bool) (u v : A) (p q : B) → f u ≡ p → f v ≡ q → f (cond b u v) ≡ cond b p q
  of_choice f true u v p q e _ = e
  of_choice f false u v p q _ e = e

  -- a rectangle of a grid drawn with a function, and what another makes of each value
  pub mapped-drawn :
      (f : A → B) (d : A) (g : Grid A) (r : Rect) (new : ℕ → ℕ → A) (old : ℕ → ℕ → A)
      (p q : ℕ → ℕ → B) → ((x y : ℕ) → f (new x y) ≡ p x y) → ((x y : ℕ) → f (old x y) ≡ q x y)
      → grid g.width g.height
      (λ x y. f (value_at d (grid g.width g.height (λ a b. cond (has r a b) (new a b) (old a b))) x y))
      ≡ grid g.width g.height (λ x y. cond (has r x y) (p x y) (q x y))
  mapped-drawn f d g r new old p q at_new at_old =
      grid_from_agree g.width g.height _ _ (λ x y across down.
      ap f (value_at-grid d g.width g.height (λ a b. cond (has r a b) (new a b) (old a b)) x y across down)
      ∙ of_choice f (has r x y) (new x y) (old x y) (p x y) (q x y) (at_new x y) (at_old x y))

-- what is seen at a point
pub colour_at-seen : (p : Grid Cell) (x y : ℕ) → seen_cell (cell_at p x y) ≡ colour_at (seen p) x y
colour_at-seen p x y = sym (value_at-mapped seen_cell (plain 0) p x y)

pub SeenCommutes-all : (p : Grid Cell) → SeenCommutes p
SeenCommutes-all p =
    record {
      fill = λ r c. mapped-drawn seen_cell (plain 0) p r (λ _ _. plain c) (cell_at p) (λ _ _. c) (colour_at (seen p))
          (λ _ _. refl) (colour_at-seen p);
      blit = λ r colours. mapped-drawn seen_cell (plain 0) p r (λ x y. plain (image_at r colours x y)) (cell_at p)
          (image_at r colours) (colour_at (seen p)) (λ _ _. refl) (colour_at-seen p);
      cover = λ r colours. mapped-drawn seen_cell (plain 0) p r (λ x y. covered_cell (image_at r colours x y))
          (cell_at p) (λ _ _. 0) (colour_at (seen p)) (λ _ _. refl) (colour_at-seen p);
      scroll = λ m. mapped-drawn seen_cell (plain 0) p m.dest (λ x y. cell_at p (source_x m x) (source_y m y))
          (cell_at p) (λ x y. colour_at (seen p) (source_x m x) (source_y m y)) (colour_at (seen p))
          (λ x y. colour_at-seen p (source_x m x) (source_y m y)) (colour_at-seen p);
    }
