-- The moves of a frame: at most sixteen, each inside the surface.
use Rattle.std.proofs.Common.{◌≡◌, ℕ, ℤ, pos, negsuc, ◌+◌, ◌-◌, ◌<◌, ◌≤◌, FitsSigned, Bool, true, false, cond, nat_lt, List, [], ◌∷◌, ◌++◌, length, IsTrue, refl, ap, ◌∙◌, arith, inl, inr, length-append}
use Rattle.std.specs.Int.{w32}
use Rattle.std.specs.List.{AllByRecursion, flat_map, list_all}
use Rattle.std.proofs.lemmas.Bool.{and_parts, ltb-true}
use Rattle.std.proofs.lemmas.Bool.Decides.{nat_tests}
use Rattle.std.proofs.lemmas.Int.{fits_signed_from_abs}
use Rattle.dd_geom.specs.declared.rect.Move.{Move}
use Rattle.dd_geom.specs.declared.rect.Rect.{Rect}
use Rattle.dd_geom.specs.declared.rect.TheConstants.{MAX_SIDE}
use Rattle.dd_geom.specs.Rect.{IsSize, FitsSides, FitsMove, spans_inside, is_inside, is_move_inside, source_rect}
use Rattle.dd_ops.specs.declared.operations.Op.{Op}
use Rattle.dd_ops.specs.declared.operations.Op.TheVariants.{Fill, Blit, Cover, Scroll}
use Rattle.dd_acc.specs.declared.interval.TheConstants.{MAX_MOVES}
use Rattle.dd_acc.specs.Effects.{Effect, over, shifted, scroll_effect, effects, scrolls, each_effects, all_effects, move_in, moves_in, moves, presents_fit}
use Rattle.dd_acc.proofs.Origins.{effect_fits}
use Rattle.dd_acc.proofs.Counting.{Alike, Alike-moves, moves_in-append, each-fit}

-- ---- few

scroll_few : (m : Move) (b : Bool) (n l : ℕ) → nat_lt n MAX_MOVES ≡ b → l ≤ MAX_MOVES - (n + 1)
    → length (move_in (cond b (shifted m) (over m.dest))) + l ≤ MAX_MOVES - n
scroll_few m true n l t few = omega (arith, few, ltb-true n MAX_MOVES t)
scroll_few m false n l t few = omega (arith, few)

-- as many as may follow those of the scrolls before
effects_few : (n : ℕ) (ops : List Op) → length (moves_in (effects n ops)) ≤ MAX_MOVES - n
effects_few n [] = omega arith
effects_few n (Fill r c ∷ ops) = omega (arith, effects_few (n + 0) ops)
effects_few n (Blit r cs ∷ ops) = omega (arith, effects_few (n + 0) ops)
effects_few n (Cover r cs ∷ ops) = omega (arith, effects_few (n + 0) ops)
effects_few n (Scroll m ∷ ops) =
    let rest : List Move = moves_in (effects (n + 1) ops) in
    let long = length-append (move_in (scroll_effect n m)) rest in
    let few = scroll_few m (nat_lt n MAX_MOVES) n (length rest) refl (effects_few (n + 1) ops) in
    omega (arith, long, few)

both_few : (n l s r : ℕ) → Alike (n + l) (n + s) → l ≤ MAX_MOVES - n → r ≤ MAX_MOVES - (n + s) → l + r ≤ MAX_MOVES - n
both_few n l s r (inl e) first rest = omega (arith, e, first, rest)
both_few n l s r (inr e) first rest = omega (arith, e.1, first, rest)

each_few : (n : ℕ) (ps : List (List Op)) → length (moves_in (flat_map (λ es. es) (each_effects n ps))) ≤ MAX_MOVES - n
each_few n [] = omega arith
each_few n (ops ∷ ps) =
    let first : List Effect = effects n ops in
    let rest : List Effect = flat_map (λ es. es) (each_effects (n + scrolls ops) ps) in
    let long : length (moves_in (first ++ rest)) ≡ length (moves_in first) + length (moves_in rest) =
    ap length (moves_in-append first rest) ∙ length-append (moves_in first) (moves_in rest) in
    let few = both_few n (length (moves_in first)) (scrolls ops) (length (moves_in rest)) (Alike-moves n ops)
    (effects_few n ops) (each_few (n + scrolls ops) ps) in
    omega (arith, long, few)

pub few_moves : (ps : List (List Op)) → length (moves ps) ≤ MAX_MOVES
unfolding moves
few_moves ps = omega (arith, each_few 0 ps)

-- ---- inside

-- a span inside a surface is of coordinates of 32 bits with a sign
span_fits : (from to : ℤ) (n : ℕ) → n ≤ MAX_SIDE → spans_inside from to n ≡ true
    → FitsSigned w32 from × FitsSigned w32 to
span_fits (pos a) (pos b) n few e =
    let ordered : a < b = grind (arith, nat_tests) in
    let within : b ≤ n = grind (arith, nat_tests) in (
      fits_signed_from_abs w32 (pos a) (omega (arith, ordered, within, few)),
      fits_signed_from_abs w32 (pos b) (omega (arith, within, few)),
    )
span_fits (pos a) (negsuc b) n few e = absurd (grind (arith, nat_tests))
span_fits (negsuc a) to n few e = absurd (grind (arith, nat_tests))

pub sides_fit : (r : Rect) (w h : ℕ) → IsSize w h → is_inside r w h ≡ true → FitsSides r
sides_fit r w h size e =
    let both = and_parts (spans_inside r.left r.right w) (spans_inside r.top r.bottom h) e in
    let across = span_fits r.left r.right w size.width both.0 in
    let down = span_fits r.top r.bottom h size.height both.1 in
    record { left = across.0; top = down.0; right = across.1; bottom = down.1 }

move_fits : (m : Move) (w h : ℕ) → IsSize w h → is_move_inside m w h ≡ true → FitsMove m
move_fits m w h size e =
    let both = and_parts (is_inside m.dest w h) (is_inside (source_rect m) w h) e in
    let source = sides_fit (source_rect m) w h size both.1 in
    record { x = source.left; y = source.top; dest = sides_fit m.dest w h size both.0 }

abbrev pub MovesInside : ℕ → ℕ → List Move → Type 0
MovesInside w h ms = AllByRecursion (λ m. FitsMove m × IsTrue (is_move_inside m w h)) ms

effects_inside : (w h : ℕ) (es : List Effect) → IsSize w h → list_all (effect_fits w h) es ≡ true
    → MovesInside w h (moves_in es)
effects_inside w h [] size t = tt
effects_inside w h (over r ∷ es) size t = effects_inside w h es size (and_parts true _ t).1
effects_inside w h (shifted m ∷ es) size t =
    let both = and_parts (is_move_inside m w h) (list_all (effect_fits w h) es) t in
    ((move_fits m w h size both.0, both.0), effects_inside w h es size both.1)

pub moves_inside : (w h : ℕ) (ps : List (List Op)) → IsSize w h → presents_fit w h ps ≡ true
    → MovesInside w h (moves ps)
unfolding moves
moves_inside w h ps size fit = effects_inside w h (all_effects ps) size (each-fit w h 0 ps fit)
