use Rattle.std.proofs.Common.{◌≡◌, true, take}
use Rattle.dd_dup.specs.Filling.{entries_fill}
use Rattle.dd_dup.proofs.bands.filled_by.Given as goal

abbrev pub invariant-loop-entry : goal.invariant-loop-entry
invariant-loop-entry l = entries_fill (take l.entry-index l.entries) ≡ true
