-- Which modes an output may have.
use Rattle.std.specs.Prelude.{◌*◌, nat_le, Bool, ◌&&◌, List, [], ◌∷◌, length}
use Rattle.std.specs.List.{list_all}
use Rattle.dd_geom.specs.declared.rect.TheConstants.{MAX_SIDE, MAX_PIXELS}
use Rattle.dd_modes.specs.declared.modes.Mode.{Mode}
use Rattle.dd_modes.specs.declared.modes.Rotation.TheVariants.{Identity}
use Rattle.dd_modes.specs.declared.modes.TheConstants.{MAX_MODES}

-- the size keeps the limits
unfoldable pub is_mode : Mode → Bool
is_mode m =
    nat_le 1 m.width && nat_le m.width MAX_SIDE && nat_le 1 m.height && nat_le m.height MAX_SIDE
    && nat_le (m.width * m.height) MAX_PIXELS

-- 1 to 16 modes, each within the limits
unfoldable pub are_modes : List Mode → Bool
are_modes ms = nat_le 1 (length ms) && nat_le (length ms) MAX_MODES && list_all is_mode ms

-- the mode that an output begins with; of no modes, one pixel
abbrev pub first_mode : List Mode → Mode
first_mode [] = record { width = 1; height = 1; rotation = Identity }
first_mode (m ∷ ms) = m
