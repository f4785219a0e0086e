use Rattle.std.proofs.Common.{◌≡◌, ◌++◌}
use Rattle.dd_view.specs.Ppm.{rows_text}
use Rattle.dd_view.proofs.picture_text.put_rows.Given as goal

abbrev pub invariant-loop-y : goal.invariant-loop-y
invariant-loop-y l = l.text.items ≡ l.fn.text.items ++ rows_text l.s l.m l.y
