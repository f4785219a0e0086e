use Rattle.std.proofs.Common.{◌≡◌, ◌++◌}
use Rattle.dd_view.specs.Ppm.{row_text}
use Rattle.dd_view.proofs.picture_text.put_row.Given as goal

abbrev pub invariant-loop-x : goal.invariant-loop-x
invariant-loop-x l = l.text.items ≡ l.fn.text.items ++ row_text l.s l.m l.y l.x
