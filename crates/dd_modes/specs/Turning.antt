-- Which point of a surface stands where once its picture is turned for the viewer: clockwise, by a mode's rotation (the
-- API's DXGI_MODE_ROTATION). Surfaces and rectangles themselves are never turned.
use Rattle.std.specs.Prelude.{◌≡◌, ℕ, ◌-◌, ◌<◌, Bool, true, false, if◌then◌else◌}
use Rattle.dd_modes.specs.declared.modes.Mode.{Mode}
use Rattle.dd_modes.specs.declared.modes.Rotation.{Rotation}
use Rattle.dd_modes.specs.declared.modes.Rotation.TheVariants.{Unspecified, Identity, Rotate90, Rotate180, Rotate270}

-- a quarter turn either way: width and height change places
abbrev pub is_quarter : Rotation → Bool
is_quarter Unspecified = false
is_quarter Identity = false
is_quarter Rotate90 = true
is_quarter Rotate180 = false
is_quarter Rotate270 = true

-- the width of the turned picture
abbrev pub turned_width : Mode → ℕ
turned_width m = if is_quarter m.rotation then m.height else m.width

-- and its height
abbrev pub turned_height : Mode → ℕ
turned_height m = if is_quarter m.rotation then m.width else m.height

-- the point of a surface, w wide and h high, that stands at (x, y) once its picture is turned
abbrev pub point_before : Rotation → ℕ → ℕ → ℕ → ℕ → ℕ × ℕ
point_before Unspecified w h x y = (x, y)
point_before Identity w h x y = (x, y)
point_before Rotate90 w h x y = (y, h - 1 - x)
point_before Rotate180 w h x y = (w - 1 - x, h - 1 - y)
point_before Rotate270 w h x y = (w - 1 - y, x)

-- the point of a mode's surface that stands at (x, y) of its turned picture
abbrev pub surface_point : Mode → ℕ → ℕ → ℕ × ℕ
surface_point m x y = point_before m.rotation m.width m.height x y

-- a point lies in the turned picture
pub record IsInTurned (m : Mode) (x y : ℕ) : Type 0 where
  pub column : x < turned_width m
  pub row : y < turned_height m

-- where the same point of the surface stands, the two points of the turned picture are one
abbrev pub TurningIsOneToOne : Type 0
TurningIsOneToOne =
    (m : Mode) (x y u v : ℕ) → IsInTurned m x y → IsInTurned m u v → surface_point m x y ≡ surface_point m u v
    → (x ≡ u) × (y ≡ v)
