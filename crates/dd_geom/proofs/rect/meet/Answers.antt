-- Each side is the one that `max` or `min` gave.
use Rattle.std.proofs.Common.{◌≡◌, ℤ, w32, to_z, of_z, ap, ◌∙◌, rules}
use Rattle.std.specs.Int.{int_max, int_min}
use Rattle.std.specs.Prelude.{FitsSigned}
use Rattle.std.proofs.lemmas.Int.{to_z-of_z}
use Rattle.dd_geom.proofs.rect.meet.Goals as goal

-- a function of two numbers that are passed as bits, and its result too
passed :
    (f : ℤ → ℤ → ℤ) (a b r : ℤ) → FitsSigned w32 a → FitsSigned w32 b → FitsSigned w32 r
    → r ≡ f (to_z w32 (of_z w32 a)) (to_z w32 (of_z w32 b)) → to_z w32 (of_z w32 r) ≡ f a b
passed f a b r fits_a fits_b fits_r e =
    to_z-of_z w32 r fits_r
    ∙ (e ∙ (ap (λ x. f x (to_z w32 (of_z w32 b))) (to_z-of_z w32 a fits_a) ∙ ap (f a) (to_z-of_z w32 b fits_b)))

pub returns : goal.returns
returns c =
    let a = c.args.a in
    let b = c.args.b in
    let left =
    passed int_max a.left b.left c.max.result (search rules) (search rules) (search rules) c.max.ensures.value in
    let top =
    passed int_max a.top b.top c.max-2.result (search rules) (search rules) (search rules) c.max-2.ensures.value in
    let right =
    passed int_min a.right b.right c.min.result (search rules) (search rules) (search rules) c.min.ensures.value in
    let bottom =
    passed int_min a.bottom b.bottom c.min-2.result (search rules) (search rules) (search rules) c.min-2.ensures.value
    in
    cc (left, top, right, bottom)
