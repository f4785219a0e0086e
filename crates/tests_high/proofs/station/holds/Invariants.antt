use Rattle.std.proofs.Common.{◌≡◌, length}
use Rattle.tests_high.proofs.station.holds.Given as goal

abbrev pub invariant-loop-act : goal.invariant-loop-act
invariant-loop-act g l = record { clients : length l.station.clients ≡ 2; steps : l.station.steps ≡ l.act-index }
