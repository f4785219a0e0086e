use Rattle.std.proofs.Common.{◌≡◌}
use Rattle.dd_view.specs.Screens.{first_rows}
use Rattle.dd_view.proofs.screen.copied.Given as goal

abbrev pub invariant-loop-y : goal.invariant-loop-y
invariant-loop-y l = l.copy ≡ first_rows l.surface l.y
