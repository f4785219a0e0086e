-- The two limits, and small sets with the least power of each.
use Rattle.std.proofs.Common.{◌≡◌, ℕ, ◌==◌, ◌%◌, ◌+◌, ◌&&◌, nat_lt, Bool, [], ◌∷◌, length, refl}
use Rattle.dd_geom.specs.Grid.{Grid, grid}
use Rattle.dd_bits.specs.Area.{nowhere}
use Rattle.dd_bits.specs.CanonicalList.{rect_from, run_end, same_rows, canonical_list}
use Rattle.dd_bits.specs.Tiles.{tiles}
use Rattle.dd_coal.specs.declared.coalescing.TheConstants.{MAX_RECTS, MAX_POWER}
use Rattle.dd_coal.specs.Power.{least_power_from, power, coalesced}

max_rects : MAX_RECTS ≡ 64
max_rects = refl

max_power : MAX_POWER ≡ 13
max_power = refl

-- every second of 130 points, up to a column
abbrev every_second : ℕ → Grid Bool
every_second end = grid 130 1 (λ x y. nat_lt x end && x % 2 == 0)

-- 64 points are no more than a list may have
sixty_four : (power (every_second 128) ≡ 0) × (length (canonical_list (coalesced (every_second 128))) ≡ 64)
unfolding canonical_list same_rows run_end tiles power least_power_from
sixty_four = (refl, refl)

-- 65 points are rounded to tiles of side 2, and those cover the surface
sixty_five : (power (every_second 130) ≡ 1) × (canonical_list (coalesced (every_second 130)) ≡ rect_from 0 0 130 1 ∷ [])
unfolding canonical_list same_rows run_end tiles power least_power_from
sixty_five = (refl, refl)

-- no point needs no rounding
no_point : (power (nowhere 130 1) ≡ 0) × (canonical_list (coalesced (nowhere 130 1)) ≡ [])
unfolding canonical_list same_rows run_end tiles power least_power_from
no_point = (refl, refl)

-- a chessboard of 12 by 12 points has 72 rectangles
abbrev chessboard : Grid Bool
chessboard = grid 12 12 (λ x y. (x + y) % 2 == 0)

seventy_two : length (canonical_list chessboard) ≡ 72
unfolding canonical_list same_rows run_end
seventy_two = refl

all_of_it : (power chessboard ≡ 1) × (canonical_list (coalesced chessboard) ≡ rect_from 0 0 12 12 ∷ [])
unfolding canonical_list same_rows run_end tiles power least_power_from
all_of_it = (refl, refl)
