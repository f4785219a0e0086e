use Rattle.std.proofs.Common.{◌≡◌, replicate, None}
use Rattle.dd_station.proofs.station.none_of.Given as goal

abbrev pub invariant-loop : goal.invariant-loop
invariant-loop l = l.dups.items ≡ replicate l.counter None
