-- How many modes an output may have.
use Rattle.std.proofs.Common.{◌≡◌, refl}
use Rattle.dd_modes.specs.declared.modes.TheConstants.{MAX_MODES}

max_modes : MAX_MODES ≡ 16
max_modes = refl
