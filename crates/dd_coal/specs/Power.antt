-- The least rounding of a set at which its canonical list is short enough.
use Rattle.std.specs.Prelude.{◌≡◌, ℕ, zero, suc, ◌+◌, ◌^◌, ◌≤◌, ◌<◌, nat_le, Bool, true, false, if◌then◌else◌, length}
use Rattle.dd_geom.specs.Grid.{Grid}
use Rattle.dd_bits.specs.Area.{is_in, IsArea}
use Rattle.dd_bits.specs.CanonicalList.{canonical_list}
use Rattle.dd_bits.specs.Tiles.{tiles}
use Rattle.dd_coal.specs.declared.coalescing.TheConstants.{MAX_RECTS, MAX_POWER}

-- the set rounded to tiles of side 2 ^ j
abbrev pub rounded_to : ℕ → Grid Bool → Grid Bool
rounded_to j g = tiles (2 ^ j) g

-- its list has no more rectangles than a frame may have
abbrev pub is_short : Grid Bool → Bool
is_short g = nat_le (length (canonical_list g)) MAX_RECTS

-- the least power from j on, at most n further, at which the rounded set has a short list
unfoldable pub least_power_from : Grid Bool → ℕ → ℕ → ℕ
least_power_from g j zero = j
least_power_from g j (suc n) = if is_short (rounded_to j g) then j else least_power_from g (j + 1) n

unfoldable pub power : Grid Bool → ℕ
power g = least_power_from g 0 MAX_POWER

-- the set rounded by the least power
abbrev pub coalesced : Grid Bool → Grid Bool
coalesced g = rounded_to (power g) g

-- the list is short at this power, at no lesser one, and no surface needs more than 13
pub record IsLeast (g : Grid Bool) (j : ℕ) : Type 0 where
  pub short : is_short (rounded_to j g) ≡ true
  pub least : (i : ℕ) → i < j → is_short (rounded_to i g) ≡ false
  pub bound : j ≤ MAX_POWER

abbrev pub LeastPower : Type 0
LeastPower = (g : Grid Bool) → IsArea g → IsLeast g (power g)

-- no point goes away
abbrev pub KeepsPoints : Type 0
KeepsPoints = (g : Grid Bool) (x y : ℕ) → is_in g x y ≡ true → is_in (coalesced g) x y ≡ true

-- a point of the set near another point
pub record HasNear (g : Grid Bool) (distance x y : ℕ) : Type 0 where
  pub a : ℕ
  pub b : ℕ
  pub within : is_in g a b ≡ true
  pub right : x < a + distance
  pub left : a < x + distance
  pub below : y < b + distance
  pub above : b < y + distance

abbrev pub StaysNear : Type 0
StaysNear = (g : Grid Bool) (x y : ℕ) → is_in (coalesced g) x y ≡ true → HasNear g (2 ^ power g) x y
