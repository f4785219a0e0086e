-- Interrupted reads moved nothing, and each was counted.
use Rattle.std.proofs.Common.{◌≡◌, ◌-◌, ◌≤◌}
use Rattle.std.specs.Io.KnownBytes.{Keeps}
use Rattle.dd_io.specs.Causes.{raised}
use Rattle.dd_io.proofs.counted.Counted.read_retrying.Given as goal

abbrev pub invariant-loop-tries : goal.invariant-loop-tries
invariant-loop-tries g l = record {
  kept : Keeps (g.R.Read.remaining l.fn.self.device) (g.R.Read.remaining l.self.device);
  counted : l.self.faults ≡ raised (l.tries - 1) l.fn.self.faults;
  later : l.fn.self.faults ≤ l.self.faults;
}
