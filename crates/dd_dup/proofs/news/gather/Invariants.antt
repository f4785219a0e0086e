use Rattle.std.proofs.Common.{◌≡◌, take}
use Rattle.dd_dup.specs.Walk.{gathered}
use Rattle.dd_dup.proofs.news.gather.Given as goal

abbrev pub invariant-loop-entry : goal.invariant-loop-entry
invariant-loop-entry l = l.acc ≡ gathered l.fn.mode.width l.fn.mode.height (take l.entry-index l.entries)
