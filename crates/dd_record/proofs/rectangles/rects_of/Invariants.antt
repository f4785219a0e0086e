use Rattle.std.proofs.Common.{◌≡◌, ◌+◌, ◌-◌, ◌*◌}
use Rattle.dd_geom.specs.declared.rect.TheConstants.{RECT_BYTES}
use Rattle.dd_record.specs.Reading.{fields}
use Rattle.dd_record.specs.Grammar.{rect_at}
use Rattle.dd_record.proofs.OneByOne.{with_front}
use Rattle.dd_record.proofs.rectangles.rects_of.Given as goal

abbrev pub invariant-loop-i : goal.invariant-loop-i
invariant-loop-i l =
    with_front l.rects.items (fields (rect_at l.mode l.bytes) RECT_BYTES (l.at + RECT_BYTES * l.i) (l.count - l.i))
    ≡ fields (rect_at l.mode l.bytes) RECT_BYTES l.at l.count
