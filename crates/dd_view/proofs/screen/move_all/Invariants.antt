use Rattle.std.proofs.Common.{◌≡◌, take}
use Rattle.dd_geom.specs.Grid.{SameSize}
use Rattle.dd_acc.specs.Rebuild.{all_moved}
use Rattle.dd_view.proofs.screen.move_all.Given as goal

abbrev pub invariant-loop-m : goal.invariant-loop-m
invariant-loop-m l = record {
  moved : l.surface ≡ all_moved l.fn.surface (take l.m-index l.moves);
  size : SameSize l.fn.surface l.surface;
}
