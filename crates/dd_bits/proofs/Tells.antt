-- A list tells its set.
use Rattle.std.proofs.Common.{◌≡◌, ℕ, Bool, true, false, if◌then◌else◌, count_by, ap, sym, ◌∙◌, refl, arith}
use Rattle.dd_geom.specs.Rect.{has}
use Rattle.dd_geom.specs.Grid.{Grid}
use Rattle.dd_geom.proofs.GridLemmas.{same_grids}
use Rattle.dd_bits.specs.Area.{is_in}
use Rattle.dd_bits.specs.CanonicalList.{canonical_list, ListTells}
use Rattle.dd_bits.proofs.Cover.{count_by-canonical_list}

once : Bool → ℕ
once a = if a then 1 else 0

same_test : (a b : Bool) → once a ≡ once b → a ≡ b
unfolding once
same_test true true e = refl
same_test true false e = absurd (omega (arith, e))
same_test false true e = absurd (omega (arith, e))
same_test false false e = refl

-- sets with one list have the same points
same_points : (g h : Grid Bool) → canonical_list g ≡ canonical_list h → (x y : ℕ) → is_in g x y ≡ is_in h x y
unfolding once
same_points g h e x y =
    same_test (is_in g x y) (is_in h x y)
    (sym (count_by-canonical_list g x y)
    ∙ ap (λ rs. count_by (λ r. has r x y) rs) e
    ∙ count_by-canonical_list h x y)

pub canonical_list-tells : ListTells
canonical_list-tells g h long_g long_h wide high =
    (λ e. ap canonical_list e, λ e. same_grids false g h long_g long_h wide high (λ x y a b. same_points g h e x y))
