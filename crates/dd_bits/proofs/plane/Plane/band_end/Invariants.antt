use Rattle.std.proofs.Common.{◌≡◌, ◌<◌, ℕ, true}
use Rattle.dd_bits.specs.CanonicalList.{same_rows}
use Rattle.dd_bits.proofs.plane.Plane.band_end.Given as goal

abbrev pub invariant-loop-z : goal.invariant-loop-z
invariant-loop-z l = (r : ℕ) → l.y < r → r < l.z → same_rows l.self l.y r ≡ true
