-- The API's numbers of rotations (DXGI_MODE_ROTATION).
use Rattle.std.specs.Prelude.{ℕ, ◌==◌, Option, Some, None, if◌then◌else◌}
use Rattle.dd_modes.specs.declared.modes.Rotation.{Rotation}
use Rattle.dd_modes.specs.declared.modes.Rotation.TheVariants.{Unspecified, Identity, Rotate90, Rotate180, Rotate270}

-- a rotation's number
abbrev pub rotation_number : Rotation → ℕ
rotation_number Unspecified = 0
rotation_number Identity = 1
rotation_number Rotate90 = 2
rotation_number Rotate180 = 3
rotation_number Rotate270 = 4

-- the rotation of a number, where it is one's
unfoldable pub rotation_numbered : ℕ → Option Rotation
rotation_numbered n =
    if n == 0 then Some Unspecified
    else if n == 1 then Some Identity
    else if n == 2 then Some Rotate90
    else if n == 3 then Some Rotate180
    else if n == 4 then Some Rotate270
    else None
