use Rattle.std.proofs.Common.{◌*◌}
use Rattle.dd_geom.specs.declared.rect.TheConstants.{MOVE_BYTES}
use Rattle.dd_geom.specs.Bytes.{move_bytes}
use Rattle.dd_meta.proofs.Pieces.{ArePut}
use Rattle.dd_meta.proofs.buffer.write_moves.Given as goal

abbrev pub invariant-loop-i : goal.invariant-loop-i
invariant-loop-i l = ArePut move_bytes l.moves l.i (l.i * MOVE_BYTES) l.initial.buffer l.buffer
