-- A sum that is not a number of 32 bits is a side that doesn't fit.
use Rattle.std.proofs.Common.{arith, rules, ◌≡◌, ◌+ℤ◌, ℤ, w32, FitsSigned, to_z, of_z, subst}
use Rattle.std.proofs.lemmas.Int.{ints}
use Rattle.dd_geom.proofs.rect.shift.Goals as goal

pub returns-in_err-checked_add-4-clause-variant : goal.returns-in_err-checked_add-4-clause-variant
returns-in_err-checked_add-4-clause-variant c =
    let r = c.args.r in
    let same : r.bottom +ℤ c.args.dy ≡ to_z w32 (of_z w32 r.bottom) +ℤ to_z w32 (of_z w32 c.args.dy) =
    omega (arith, ints) in (
      λ s. absurd (search (rules, c.from_residual-in_err-checked_add-4.ensures, s)),
      λ h. absurd (c.in_err-checked_add-4.ensures (subst (λ (z : ℤ). FitsSigned w32 z) same h.bottom)),
    )
