use Rattle.std.proofs.Common.{◌*◌}
use Rattle.dd_geom.specs.declared.rect.TheConstants.{RECT_BYTES}
use Rattle.dd_geom.specs.Bytes.{rect_bytes}
use Rattle.dd_meta.proofs.Pieces.{ArePut}
use Rattle.dd_meta.proofs.buffer.write_rects.Given as goal

abbrev pub invariant-loop-i : goal.invariant-loop-i
invariant-loop-i l = ArePut rect_bytes l.rects l.i (l.i * RECT_BYTES) l.initial.buffer l.buffer
