use Rattle.std.proofs.Common.{◌≡◌, drop}
use Rattle.dd_view.specs.Player.{agree}
use Rattle.dd_view.proofs.player.agree.Given as goal

abbrev pub invariant-loop-i : goal.invariant-loop-i
invariant-loop-i l = agree (drop l.i l.bytes) (drop l.i l.others) ≡ agree l.bytes l.others
