-- Words of private calls alone: what contracts see of a screen's fields, and a surface that is copied row by row.
use Rattle.std.specs.Prelude.{◌≡◌, ℕ, ◌+◌, nat_lt, if◌then◌else◌, pos}
use Rattle.dd_geom.specs.declared.rect.Rect.{Rect}
use Rattle.dd_geom.specs.Rect.{IsSize}
use Rattle.dd_geom.specs.Grid.{Grid, grid}
use Rattle.dd_grid.specs.Drawing.{colour_at}
use Rattle.dd_view.specs.declared.screen.Screen.TheInside.{Inside}
use Rattle.dd_view.specs.Playing.{Screen}

abbrev pub screen : Inside → Screen
screen s = record { mode = s.mode; surface = s.surface; pointer = s.pointer; shape = s.shape }

-- the surface has the mode's size
pub record IsScreen (s : Inside) : Type 0 where
  pub size : IsSize s.mode.width s.mode.height
  pub wide : s.surface.width ≡ s.mode.width
  pub high : s.surface.height ≡ s.mode.height

-- the rectangle of a row
abbrev pub row_at : ℕ → ℕ → Rect
row_at width y = record { left = pos 0; top = pos y; right = pos width; bottom = pos (y + 1) }

-- the first rows of a surface, and black below them
abbrev pub first_rows : Grid ℕ → ℕ → Grid ℕ
first_rows s n = grid s.width s.height (λ x y. if nat_lt y n then colour_at s x y else 0)
