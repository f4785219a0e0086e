use Rattle.std.proofs.Common.{◌≡◌, map}
use Rattle.std.specs.List.{range_with_len}
use Rattle.dd_script_read.specs.Script.{colour_at}
use Rattle.dd_script_read.proofs.drawing.each_colour.Given as goal

abbrev pub invariant-loop-i : goal.invariant-loop-i
invariant-loop-i l = l.colours.items ≡ map (colour_at l.bytes) (range_with_len 0 l.i)
