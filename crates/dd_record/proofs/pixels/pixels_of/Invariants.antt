use Rattle.std.proofs.Common.{◌≡◌, ◌+◌, ◌-◌, ◌*◌}
use Rattle.dd_record.specs.declared.layout.TheConstants.{PIXEL_BYTES}
use Rattle.dd_record.specs.Reading.{fields}
use Rattle.dd_record.specs.Grammar.{pixel_at}
use Rattle.dd_record.proofs.OneByOne.{with_front}
use Rattle.dd_record.proofs.pixels.pixels_of.Given as goal

abbrev pub invariant-loop-i : goal.invariant-loop-i
invariant-loop-i l =
    with_front l.colours.items (fields (pixel_at l.bytes) PIXEL_BYTES (l.at + PIXEL_BYTES * l.i) (l.count - l.i))
    ≡ fields (pixel_at l.bytes) PIXEL_BYTES l.at l.count
