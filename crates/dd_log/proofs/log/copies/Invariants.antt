-- What is copied so far, and the memory for all.
use Rattle.std.proofs.Common.{◌≡◌, ◌≤◌, take}
use Rattle.std.specs.Prelude.{vec_capacity}
use Rattle.dd_log.proofs.log.copies.Given as goal

abbrev pub invariant-loop-entry : goal.invariant-loop-entry
invariant-loop-entry l = (l.items.items ≡ take l.entry-index l.entries) × (l.room ≤ vec_capacity l.items)
