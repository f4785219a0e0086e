-- The bytes kept are those that the source gave, and each turn but the last adds at least one.
use Rattle.std.proofs.Common.{◌-◌, ◌≤◌, vec_len}
use Rattle.std.specs.Io.KnownBytes.{Consumes}
use Rattle.dd_io.proofs.transfer.read_up_to.Given as goal

abbrev pub invariant-loop-bytes : goal.invariant-loop-bytes
invariant-loop-bytes g l = record {
  given : Consumes (g.S.Source.left l.initial.s) (g.S.Source.left l.s) l.bytes.items;
  within : vec_len l.bytes ≤ l.limit;
  later : g.S.Source.faults l.initial.s ≤ g.S.Source.faults l.s;
}

abbrev pub decreases-loop-bytes : goal.decreases-loop-bytes
decreases-loop-bytes g l = l.limit - vec_len l.bytes
