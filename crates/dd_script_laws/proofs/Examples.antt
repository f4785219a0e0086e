-- A script with each kind of part is one of those that can be read.
use Rattle.std.proofs.Common.{◌≡◌, true, refl}
use Rattle.dd_modes.specs.Modes.{is_mode, are_modes}
use Rattle.dd_pointer.specs.Shape.{shape_fault}
use Rattle.dd_script_read.specs.Script.{keeps_limits}
use Rattle.dd_script_read.specs.Readable.{is_readable}
use Rattle.dd_script_write.proofs.SpellingExamples.{each_kind}

-- the script that names each kind of part
each_kind_is_readable : is_readable each_kind ≡ true
unfolding is_readable keeps_limits are_modes is_mode shape_fault
each_kind_is_readable = refl
