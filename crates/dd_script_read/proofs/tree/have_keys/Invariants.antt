-- The keys so far are counted, and there are at most n.
use Rattle.std.proofs.Common.{◌≡◌, ◌≤◌}
use Rattle.dd_script_read.proofs.Keys.{count_before}
use Rattle.dd_script_read.proofs.tree.have_keys.Given as goal

abbrev pub invariant-loop-i : goal.invariant-loop-i
invariant-loop-i l = record { counted : l.count ≡ count_before l.members l.i; within : l.count ≤ l.n }
