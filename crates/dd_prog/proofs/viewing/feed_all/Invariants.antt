-- The bytes that the source gave so far are within the limit, and were fed; each turn but the last takes at least one.
use Rattle.std.proofs.Common.{◌≡◌, ◌-◌, ◌≤◌, ℕ, List, length}
use Rattle.std.specs.Io.KnownBytes.{Consumes}
use Rattle.dd_prog.specs.declared.reading.TheConstants.{MAX_RECORD_BYTES}
use Rattle.dd_prog.specs.Viewing.{Fed}
use Rattle.dd_prog.proofs.viewing.feed_all.Given as goal

abbrev pub invariant-loop-piece : goal.invariant-loop-piece
invariant-loop-piece g l = record {
  bytes : List ℕ;
  came : Consumes (g.S.Source.left l.initial.source) (g.S.Source.left l.source) bytes;
  size : length bytes ≡ l.size;
  within : l.size ≤ MAX_RECORD_BYTES;
  fed : Fed l.initial.player.asked bytes l.fault l.player;
  later : g.S.Source.faults l.initial.source ≤ g.S.Source.faults l.source;
}

abbrev pub decreases-loop-piece : goal.decreases-loop-piece
decreases-loop-piece g l = MAX_RECORD_BYTES - l.size
