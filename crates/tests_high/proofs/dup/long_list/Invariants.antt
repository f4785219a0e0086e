use Rattle.std.proofs.Common.{◌≡◌, ◌+◌, ◌*◌, length}
use Rattle.tests_high.proofs.dup.long_list.Given as goal

abbrev pub invariant-loop-made : goal.invariant-loop-made
invariant-loop-made o l = record {
  clients : length l.station.clients ≡ 1;
  steps : l.station.steps ≡ 3 * l.made-counter + 1;
}
