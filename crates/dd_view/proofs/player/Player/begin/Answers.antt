-- Behind the magic nothing was tested.
use Rattle.std.proofs.Common.{length, ap, arith}
use Rattle.std.proofs.lemmas.List.{length-drop}
use Rattle.dd_record.proofs.Before.{nothing_yet}
use Rattle.dd_view.proofs.player.Player.begin.Goals as goal

pub invariant_of-self : goal.invariant_of-self
invariant_of-self c = record {
  few =
      omega (
        arith,
        c.self.invariant.few,
        c.if-len-lt4.false,
        c.len.ensures,
        ap length c.skip.ensures,
        length-drop 4 c.self.inside.pending,
      );
  frames = omega (arith, c.self.invariant.frames);
  tested = omega arith;
  before = nothing_yet _;
}
