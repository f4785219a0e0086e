-- Sets of points of a surface: a grid that says of each point whether it is in the set.
use Rattle.std.specs.Prelude.{◌≡◌, ℕ, ◌*◌, Bool, false, not, ◌&&◌, ◌||◌, length}
use Rattle.dd_geom.specs.declared.rect.Rect.{Rect}
use Rattle.dd_geom.specs.Rect.{has, IsSize}
use Rattle.dd_geom.specs.declared.rect.Move.{Move}
use Rattle.dd_geom.specs.Grid.{Grid, grid, value_at, scrolled}

-- whether a point is in the set; none is outside the surface
abbrev pub is_in : Grid Bool → ℕ → ℕ → Bool
is_in g x y = value_at false g x y

-- the empty set
abbrev pub nowhere : ℕ → ℕ → Grid Bool
nowhere w h = grid w h (λ x y. false)

-- no point is in the set
abbrev pub IsNowhere : Grid Bool → Type 0
IsNowhere g = g ≡ nowhere g.width g.height

-- the set and the points of a rectangle
abbrev pub with_rect : Grid Bool → Rect → Grid Bool
with_rect g r = grid g.width g.height (λ x y. has r x y || is_in g x y)

-- the set without the points of a rectangle
abbrev pub without_rect : Grid Bool → Rect → Grid Bool
without_rect g r = grid g.width g.height (λ x y. not (has r x y) && is_in g x y)

-- the set after a move: a point of the destination is in it exactly where its source point was in the old one
abbrev pub moved_over : Grid Bool → Move → Grid Bool
moved_over = scrolled false

-- a set of the points of a surface whose size is one that surfaces have
pub record IsArea (g : Grid Bool) : Type 0 where
  pub size : IsSize g.width g.height
  pub whole : length g.cells ≡ g.width * g.height
