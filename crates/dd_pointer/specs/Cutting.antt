-- Words of the private calls that draw a shape row by row.
use Rattle.std.specs.Prelude.{◌≡◌, ℕ, ◌<◌, ◌≤◌, ℤ, pos, int_le, int_lt, ◌+ℤ◌, ◌-ℤ◌, Bool, ◌&&◌, ◌==◌, nat_le, nat_lt, if◌then◌else◌}
use Rattle.dd_geom.specs.declared.rect.Point.{Point}
use Rattle.dd_geom.specs.Rect.{place}
use Rattle.dd_geom.specs.Grid.{Grid, grid}
use Rattle.dd_grid.specs.Drawing.{colour_at}
use Rattle.dd_pointer.specs.declared.compositing.Span.{Span}
use Rattle.dd_pointer.specs.Shape.{PointerShape}
use Rattle.dd_pointer.specs.Compositing.{composited}

-- a place is one of the `size` places from `start` on
abbrev pub spanned : ℤ → ℕ → ℤ → Bool
spanned start size k = int_le start k && int_lt k (start +ℤ pos size)

-- a span has exactly those of the first `length` places
pub record IsCut (span : Span) (start : ℤ) (size length : ℕ) : Type 0 where
  pub ordered : span.from ≤ span.to
  pub inside : span.to ≤ length
  pub same : (k : ℕ) → k < length → (nat_le span.from k && nat_lt k span.to) ≡ spanned start size (pos k)

-- the colour that a shape makes of a surface's colour at a point
abbrev pub drawn_at : Grid ℕ → PointerShape → Point → ℕ → ℕ → ℕ
drawn_at g s at x y = composited s (place (pos x -ℤ at.x)) (place (pos y -ℤ at.y)) (colour_at g x y)

-- a surface with one row of it drawn
abbrev pub row_composed : Grid ℕ → PointerShape → Point → ℕ → Grid ℕ
row_composed g s at row =
    grid g.width g.height
    (λ x y. if y == row && spanned at.x s.width (pos x) then drawn_at g s at x y else colour_at g x y)
