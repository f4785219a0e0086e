-- A pixel's bits from its colour and whether it is hidden.
use Rattle.std.proofs.Common.{◌≡◌, ℕ, ◌+◌, ◌*◌, ◌%◌, ◌<◌, cond, nat_le, arith}
use Rattle.std.proofs.lemmas.Bool.Decides.{nat_tests}
use Rattle.dd_grid.specs.declared.cell.TheConstants.{COLOURS}

pub bits_from_parts :
    (n : ℕ) → n < 2 * COLOURS → cond (nat_le COLOURS n) (n % COLOURS + COLOURS) (n % COLOURS) ≡ n
bits_from_parts n e = grind (arith, nat_tests)
