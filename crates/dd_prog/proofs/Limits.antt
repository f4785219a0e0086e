-- The limits of the program, as numbers.
use Rattle.std.proofs.Common.{◌≡◌, refl}
use Rattle.dd_prog.specs.declared.command.TheConstants.{MAX_FRAME}
use Rattle.dd_prog.specs.declared.reading.TheConstants.{MAX_SCRIPT_BYTES, MAX_RECORD_BYTES}

longest_script : MAX_SCRIPT_BYTES ≡ 16777216
longest_script = refl

longest_record : MAX_RECORD_BYTES ≡ 1073741824
longest_record = refl

last_frame : MAX_FRAME ≡ 1048576
last_frame = refl
