-- No row that the loop has passed has a marked cell between the sides.
use Rattle.std.proofs.Common.{◌≡◌, ℕ, ◌≤◌, ◌<◌, ◌-◌, false}
use Rattle.std.specs.List.{list_any, range_with_len}
use Rattle.dd_bits.specs.Area.{is_in}
use Rattle.dd_bits.proofs.tiling.has_between.Given as goal

abbrev pub invariant-loop-y : goal.invariant-loop-y
invariant-loop-y l =
    (y : ℕ) → l.sides.top ≤ y → y < l.y
    → list_any
    (λ x. is_in (record { width = l.width; height = l.height; cells = l.cells }) x y)
    (range_with_len l.sides.left (l.sides.right - l.sides.left)) ≡ false
