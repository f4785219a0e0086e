-- A set rounded to tiles: squares of one side, counted from the surface's top left corner.
use Rattle.std.specs.Prelude.{◌≡◌, ℕ, ◌+◌, ◌*◌, ◌/◌, ◌≤◌, Bool}
use Rattle.std.specs.List.{range_with_len, list_any}
use Rattle.dd_geom.specs.Grid.{Grid, grid}
use Rattle.dd_bits.specs.Area.{is_in}

-- some point of a tile is in the set: of the tile of side t with so many tiles left of it and above it
abbrev pub tile_has : Grid Bool → ℕ → ℕ → ℕ → Bool
tile_has g t across down =
    list_any (λ b. list_any (λ a. is_in g (across * t + a) (down * t + b)) (range_with_len 0 t)) (range_with_len 0 t)

-- all points of the surface whose tile has a point of the set
unfoldable pub tiles : ℕ → Grid Bool → Grid Bool
tiles t g = grid g.width g.height (λ x y. tile_has g t (x / t) (y / t))

-- what is rounded to tiles and then to tiles that are made of whole ones is rounded to the greater
abbrev pub TilesNest : Type 0
TilesNest = (g : Grid Bool) (t n : ℕ) → 1 ≤ t → 1 ≤ n → tiles (t * n) (tiles t g) ≡ tiles (t * n) g
