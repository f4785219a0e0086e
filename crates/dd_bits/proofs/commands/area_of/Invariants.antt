-- The set is the one that the commands so far make, and of the surface's size.
use Rattle.std.proofs.Common.{◌≡◌, take}
use Rattle.dd_bits.specs.Commands.{made_by}
use Rattle.dd_bits.proofs.commands.area_of.Given as goal

abbrev pub invariant-loop-command : goal.invariant-loop-command
invariant-loop-command g l = record {
  so_far : g.A.Area.points l.area ≡ made_by l.w l.h (take l.command-index l.commands);
  width : (g.A.Area.points l.area).width ≡ l.w;
  height : (g.A.Area.points l.area).height ≡ l.h;
}
