use Rattle.std.proofs.Common.{◌≡◌, take}
use Rattle.std.specs.List.{flat_map}
use Rattle.dd_script_write.specs.Answers.{colour_bytes}
use Rattle.dd_script_write.proofs.drawing.bytes_of_colours.Given as goal

abbrev pub invariant-loop-colour : goal.invariant-loop-colour
invariant-loop-colour l = l.bytes.items ≡ flat_map colour_bytes (take l.colour-index l.colours)
