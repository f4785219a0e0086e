-- The digits so far, and those of the colours that are left, are the row's.
use Rattle.std.proofs.Common.{◌≡◌, ◌++◌, drop}
use Rattle.dd_script_write.specs.Answers.{row_digits}
use Rattle.dd_script_write.proofs.surfaces.put_digits.Given as goal

abbrev pub invariant-loop-colour : goal.invariant-loop-colour
invariant-loop-colour l = l.line.items ++ row_digits (drop l.colour-index l.row) ≡ l.fn.line.items ++ row_digits l.row
