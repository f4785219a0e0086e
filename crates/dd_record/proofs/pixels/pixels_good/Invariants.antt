-- The pixels so far were read.
use Rattle.std.proofs.Common.{◌≤◌}
use Rattle.dd_record.specs.declared.layout.TheConstants.{PIXEL_BYTES}
use Rattle.dd_record.specs.Answers.{IsGood}
use Rattle.dd_record.specs.Reading.{fields}
use Rattle.dd_record.specs.Grammar.{pixel_at}
use Rattle.dd_record.proofs.pixels.pixels_good.Given as goal

abbrev pub invariant-loop-i : goal.invariant-loop-i
invariant-loop-i l = record {
  few : l.i ≤ l.count;
  so_far : IsGood (fields (pixel_at l.bytes) PIXEL_BYTES l.at l.i);
}
