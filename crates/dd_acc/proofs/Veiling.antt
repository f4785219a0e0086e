-- What presents do to a surface doesn't look at what their covers hide.
use Rattle.std.proofs.Common.{◌≡◌, ℕ, ◌+◌, List, [], ◌∷◌, map, refl, ap, ◌∙◌}
use Rattle.dd_ops.specs.declared.operations.Op.{Op}
use Rattle.dd_ops.specs.declared.operations.Op.TheVariants.{Fill, Blit, Cover, Scroll}
use Rattle.dd_ops.specs.Veil.{veiled_by, veiled}
use Rattle.dd_acc.specs.Effects.{Effect, effect, scroll_in, scrolls, effects, each_effects}

effect_same : (n : ℕ) (op : Op) → effect n (veiled_by op) ≡ effect n op
effect_same n (Fill rect colour) = refl
effect_same n (Blit rect colours) = refl
effect_same n (Cover rect colours) = refl
effect_same n (Scroll mv) = refl

scroll_same : (op : Op) → scroll_in (veiled_by op) ≡ scroll_in op
scroll_same (Fill rect colour) = refl
scroll_same (Blit rect colours) = refl
scroll_same (Cover rect colours) = refl
scroll_same (Scroll mv) = refl

scrolls_same : (ops : List Op) → scrolls (veiled ops) ≡ scrolls ops
scrolls_same [] = refl
scrolls_same (op ∷ ops) =
    ap (λ n. n + scrolls (veiled ops)) (scroll_same op) ∙ ap (λ n. scroll_in op + n) (scrolls_same ops)

effects_same : (n : ℕ) (ops : List Op) → effects n (veiled ops) ≡ effects n ops
effects_same n [] = refl
effects_same n (op ∷ ops) =
    ap (λ (e : Effect). e ∷ effects (n + scroll_in (veiled_by op)) (veiled ops)) (effect_same n op)
    ∙ ap (λ k. effect n op ∷ effects (n + k) (veiled ops)) (scroll_same op)
    ∙ ap (λ (es : List Effect). effect n op ∷ es) (effects_same (n + scroll_in op) ops)

pub each_effects-veiled : (n : ℕ) (presents : List (List Op))
    → each_effects n (map veiled presents) ≡ each_effects n presents
each_effects-veiled n [] = refl
each_effects-veiled n (ops ∷ presents) =
    ap (λ (es : List Effect). es ∷ each_effects (n + scrolls (veiled ops)) (map veiled presents)) (effects_same n ops)
    ∙ ap (λ k. effects n ops ∷ each_effects (n + k) (map veiled presents)) (scrolls_same ops)
    ∙ ap (λ (ess : List (List Effect)). effects n ops ∷ ess) (each_effects-veiled (n + scrolls ops) presents)
