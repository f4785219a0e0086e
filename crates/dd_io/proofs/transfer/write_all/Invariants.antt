-- What is gone from the piece was appended, and each turn takes at least one byte of it.
use Rattle.std.proofs.Common.{◌≡◌, ◌≤◌, ◌++◌, length, List, ℕ}
use Rattle.std.specs.Io.KnownBytes.{Appends}
use Rattle.dd_io.proofs.transfer.write_all.Given as goal

abbrev pub invariant-loop-rest : goal.invariant-loop-rest
invariant-loop-rest g l = record {
  done : List ℕ;
  whole : l.b ≡ done ++ l.rest;
  appended : Appends (g.K.Sink.held l.initial.k) (g.K.Sink.held l.k) done;
  later : g.K.Sink.faults l.initial.k ≤ g.K.Sink.faults l.k;
}

abbrev pub decreases-loop-rest : goal.decreases-loop-rest
decreases-loop-rest g l = length l.rest
