-- How a set is rounded to tiles in place: what one tile after another leaves.
use Rattle.std.specs.Prelude.{◌≡◌, ℕ, ◌+◌, ◌-◌, ◌*◌, ◌/◌, ◌<◌, min, List, Bool, ◌&&◌, ◌==◌, if◌then◌else◌}
use Rattle.std.specs.List.{range_with_len, list_any}
use Rattle.dd_geom.specs.declared.rect.Sides.{Sides}
use Rattle.dd_geom.specs.Grid.{Grid}
use Rattle.dd_bits.specs.Area.{is_in}
use Rattle.dd_bits.specs.Tiles.{tile_has}

-- the sides of a tile, cut at those of a surface of w by h points
abbrev pub tile_sides : ℕ → ℕ → ℕ → ℕ → ℕ → Sides
tile_sides w h t across down =
    record { left = across * t; top = down * t; right = min (across * t + t) w; bottom = min (down * t + t) h }

-- some point between four sides is in the set
abbrev pub some_between : Grid Bool → Sides → Bool
some_between g s =
    list_any
    (λ y. list_any (λ x. is_in g x y) (range_with_len s.left (s.right - s.left)))
    (range_with_len s.top (s.bottom - s.top))

-- the tiles that a test picks are rounded, and all else is as it was: the cells of a surface of w by h points
abbrev pub IsRounded : ℕ → ℕ → ℕ → (ℕ → ℕ → Bool) → List Bool → List Bool → Type 0
IsRounded w h t picks old new =
    (x y : ℕ) → x < w → y < h
    → is_in (record { width = w; height = h; cells = new }) x y
    ≡ (if picks (x / t) (y / t) then tile_has (record { width = w; height = h; cells = old }) t (x / t) (y / t)
    else is_in (record { width = w; height = h; cells = old }) x y)

-- one tile, and all tiles of one row of tiles
abbrev pub this_tile : ℕ → ℕ → ℕ → ℕ → Bool
this_tile across down i j = i == across && j == down

abbrev pub this_row : ℕ → ℕ → ℕ → Bool
this_row down i j = j == down
