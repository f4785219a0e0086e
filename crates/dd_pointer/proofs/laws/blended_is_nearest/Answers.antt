-- Half of 255 is added before the division, so what it leaves out is at most half.
use Rattle.std.proofs.Common.{ℕ, ◌+◌, ◌-◌, ◌*◌, ◌/◌, arith}
use Rattle.dd_pointer.specs.Compositing.{IsNearest}
use Rattle.dd_pointer.proofs.laws.blended_is_nearest.Goals as goal

nearest : (parts : ℕ) → IsNearest parts ((parts + 127) / 255)
nearest parts = record { above = omega arith; below = omega arith }

pub returns : goal.returns
returns c = λ alpha c screen. nearest (alpha * c + (255 - alpha) * screen)
