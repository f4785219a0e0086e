use Rattle.std.proofs.Common.{◌≡◌, ◌-◌, ◌≤◌}
use Rattle.dd_view.specs.Player.{steps, bytes_come}
use Rattle.dd_view.proofs.player.Player.read_parts.Given as goal

abbrev pub invariant-loop-i : goal.invariant-loop-i
invariant-loop-i l = record {
  so_far : steps (l.count - l._i) l.self ≡ steps l.count l.fn.self;
  few : bytes_come l.self ≤ bytes_come l.fn.self;
}
