use Rattle.std.proofs.Common.{◌≡◌, ◌+◌, ◌-◌, ◌*◌}
use Rattle.dd_geom.specs.declared.rect.TheConstants.{MOVE_BYTES}
use Rattle.dd_record.specs.Reading.{fields}
use Rattle.dd_record.specs.Grammar.{move_at}
use Rattle.dd_record.proofs.OneByOne.{with_front}
use Rattle.dd_record.proofs.rectangles.moves_of.Given as goal

abbrev pub invariant-loop-i : goal.invariant-loop-i
invariant-loop-i l =
    with_front l.moves.items (fields (move_at l.mode l.bytes) MOVE_BYTES (l.at + MOVE_BYTES * l.i) (l.count - l.i))
    ≡ fields (move_at l.mode l.bytes) MOVE_BYTES l.at l.count
