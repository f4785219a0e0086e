-- The scrolls of an interval, counted, and its effects.
use Rattle.std.proofs.Common.{◌≡◌, ℕ, ◌+◌, ◌<◌, ◌≤◌, Bool, true, false, ◌||◌, cond, nat_lt, List, [], ◌∷◌, ◌++◌, length, take, get_or, refl, sym, ap, ◌∙◌, arith, inl, inr, ◌⊎◌, ⊎_elim, subst, append_assoc}
use Rattle.std.specs.List.{list_all, flat_map, fold}
use Rattle.std.proofs.Math.Bool.{or_assoc, or-false}
use Rattle.std.proofs.lemmas.Bool.{and_parts, and_from, cond-false, cases_lt, lt-ltb, le-ltb}
use Rattle.std.proofs.lemmas.List.{take_more, append-nil, length-append}
use Rattle.dd_geom.specs.declared.rect.Move.{Move}
use Rattle.dd_geom.specs.Rect.{is_move_inside}
use Rattle.dd_geom.specs.Grid.{Grid}
use Rattle.dd_ops.specs.declared.operations.Op.{Op}
use Rattle.dd_ops.specs.declared.operations.Op.TheVariants.{Fill, Blit, Cover, Scroll}
use Rattle.dd_ops.specs.Operations.{fits, all_fit}
use Rattle.dd_ops.proofs.Fitting.{fits_at}
use Rattle.dd_bits.specs.Area.{nowhere}
use Rattle.dd_acc.specs.declared.interval.TheConstants.{MAX_MOVES}
use Rattle.dd_acc.specs.Effects.{Effect, over, shifted, scroll_effect, effect, effects, scroll_in, scrolls, each_effects, move_in, moves_in, moves, dirtied, settled, must_round, rounds, dirt, is_coalesced, with_effect, presents_fit}
use Rattle.dd_acc.specs.Interval.{Interval, nothing, with_effects, with_present, Composes}
use Rattle.dd_acc.proofs.Origins.{effect_fits, dirtied-push}

-- two counts that are one, or are both past the last move
abbrev pub Alike : ℕ → ℕ → Type 0
Alike a b = (a ≡ b) ⊎ ((MAX_MOVES ≤ a) × (MAX_MOVES ≤ b))

Alike-more : (a b n : ℕ) → Alike a b → Alike (a + n) (b + n)
Alike-more a b n (inl e) = inl (ap (λ m. m + n) e)
Alike-more a b n (inr e) = inr (omega (arith, e.0), omega (arith, e.1))

scroll_effect-alike : (a b : ℕ) (m : Move) → Alike a b → scroll_effect a m ≡ scroll_effect b m
scroll_effect-alike a b m (inl e) = ap (λ n. scroll_effect n m) e
scroll_effect-alike a b m (inr e) =
    cond-false (nat_lt a MAX_MOVES) (shifted m) (over m.dest) (le-ltb a MAX_MOVES e.0)
    ∙ sym (cond-false (nat_lt b MAX_MOVES) (shifted m) (over m.dest) (le-ltb b MAX_MOVES e.1))

pub effect-alike : (a b : ℕ) (op : Op) → Alike a b → effect a op ≡ effect b op
effect-alike a b (Fill r c) e = refl
effect-alike a b (Blit r c) e = refl
effect-alike a b (Cover r c) e = refl
effect-alike a b (Scroll m) e = scroll_effect-alike a b m e

pub effects-alike : (a b : ℕ) (ops : List Op) → Alike a b → effects a ops ≡ effects b ops
effects-alike a b [] e = refl
effects-alike a b (op ∷ ops) e =
    ap (λ f. f ∷ effects (a + scroll_in op) ops) (effect-alike a b op e)
    ∙ ap (λ es. effect b op ∷ es)
    (effects-alike (a + scroll_in op) (b + scroll_in op) ops (Alike-more a b (scroll_in op) e))

-- the moves that are told stand for the scrolls
moves_here : (n l s : ℕ) (m : Move) (b : Bool) → nat_lt n MAX_MOVES ≡ b → Alike (n + 1 + l) (n + 1 + s)
    → Alike (n + (length (move_in (cond b (shifted m) (over m.dest))) + l)) (n + (1 + s))
moves_here n l s m true t (inl e) = inl (omega (arith, e))
moves_here n l s m true t (inr e) = inr (omega (arith, e.0), omega (arith, e.1))
moves_here n l s m false t e =
    let past : MAX_MOVES ≤ n =
    ⊎_elim (λ (below : n < MAX_MOVES). absurd (let u : true ≡ false = sym (lt-ltb n MAX_MOVES below) ∙ t in cc))
    (λ (p : MAX_MOVES ≤ n). p) (cases_lt n MAX_MOVES) in
    inr (omega (arith, past), omega (arith, past))

no_more : (n l s : ℕ) → Alike (n + 0 + l) (n + 0 + s) → Alike (n + l) (n + (0 + s))
no_more n l s (inl e) = inl (omega (arith, e))
no_more n l s (inr e) = inr (omega (arith, e.0), omega (arith, e.1))

pub moves_in-append : (a b : List Effect) → moves_in (a ++ b) ≡ moves_in a ++ moves_in b
moves_in-append [] b = refl
moves_in-append (e ∷ a) b = ap (λ ms. move_in e ++ ms) (moves_in-append a b)
    ∙ sym (append_assoc (move_in e) (moves_in a) (moves_in b))

pub Alike-moves : (n : ℕ) (ops : List Op) → Alike (n + length (moves_in (effects n ops))) (n + scrolls ops)
Alike-moves n [] = inl refl
Alike-moves n (Fill r c ∷ ops) = no_more n _ _ (Alike-moves (n + 0) ops)
Alike-moves n (Blit r c ∷ ops) = no_more n _ _ (Alike-moves (n + 0) ops)
Alike-moves n (Cover r c ∷ ops) = no_more n _ _ (Alike-moves (n + 0) ops)
Alike-moves n (Scroll m ∷ ops) =
    let rest : List Move = moves_in (effects (n + 1) ops) in
    subst (λ k. Alike (n + k) (n + (1 + scrolls ops))) (sym (length-append (move_in (scroll_effect n m)) rest))
    (moves_here n (length rest) (scrolls ops) m (nat_lt n MAX_MOVES) refl (Alike-moves (n + 1) ops))

pub effects-append : (n : ℕ) (a b : List Op) → effects n (a ++ b) ≡ effects n a ++ effects (n + scrolls a) b
effects-append n [] b = ap (λ m. effects m b) (omega arith)
effects-append n (op ∷ a) b =
    ap (λ es. effect n op ∷ es) (effects-append (n + scroll_in op) a b)
    ∙ ap (λ m. effect n op ∷ (effects (n + scroll_in op) a ++ effects m b)) (omega arith)

-- the effects of operations that fit lie inside
fits_if : (w h : ℕ) (b : Bool) (m : Move) → is_move_inside m w h ≡ true
    → effect_fits w h (cond b (shifted m) (over m.dest)) ≡ true
fits_if w h true m e = e
fits_if w h false m e = refl

pub effect-fits : (w h n : ℕ) (op : Op) → fits w h op ≡ true → effect_fits w h (effect n op) ≡ true
effect-fits w h n (Fill r c) e = refl
effect-fits w h n (Blit r c) e = refl
effect-fits w h n (Cover r c) e = refl
effect-fits w h n (Scroll m) e = fits_if w h (nat_lt n MAX_MOVES) m e

pub effects-fit : (w h n : ℕ) (ops : List Op) → all_fit w h ops ≡ true → list_all (effect_fits w h) (effects n ops)
    ≡ true
effects-fit w h n [] e = refl
effects-fit w h n (op ∷ ops) e =
    let both = and_parts (fits w h op) (all_fit w h ops) e in
    and_from _ _ (effect-fits w h n op both.0) (effects-fit w h (n + scroll_in op) ops both.1)

pub list_all-append : {A : Type 0} (p : A → Bool) (a b : List A) → list_all p a ≡ true → list_all p b ≡ true
    → list_all p (a ++ b) ≡ true
list_all-append p [] b e f = f
list_all-append p (x ∷ a) b e f =
    let both = and_parts (p x) (list_all p a) e in
    and_from _ _ both.0 (list_all-append p a b both.1 f)

pub each-fit : (w h n : ℕ) (ps : List (List Op)) → presents_fit w h ps ≡ true
    → list_all (effect_fits w h) (flat_map (λ es. es) (each_effects n ps)) ≡ true
each-fit w h n [] e = refl
each-fit w h n (ops ∷ ps) e =
    let both = and_parts (all_fit w h ops) (presents_fit w h ps) e in
    list_all-append (effect_fits w h) (effects n ops) _ (effects-fit w h n ops both.0)
    (each-fit w h (n + scrolls ops) ps both.1)

-- one turn of the loop over the operations: what the next one does
pub effect_next : (ms : List Move) (more : List Move) (ops : List Op) (op : Op) → more
    ≡ ms ++ moves_in (effects (length ms) ops) → effect (length more) op ≡ effect (length ms + scrolls ops) op
effect_next ms more ops op e =
    ap (λ (xs : List Move). effect (length xs) op) e
    ∙ (ap (λ n. effect n op) (length-append ms (moves_in (effects (length ms) ops)))
    ∙ effect-alike _ _ op (Alike-moves (length ms) ops))

pub effects_next :
    (n : ℕ) (ops : List Op) (k : ℕ) (op : Op) → k < length ops → op ≡ get_or ops k op
    → effects n (take (k + 1) ops) ≡ effects n (take k ops) ++ effect (n + scrolls (take k ops)) op ∷ []
effects_next n ops k op k_in is =
    ap (effects n) (take_more ops k op k_in ∙ ap (λ o. take k ops ++ o ∷ []) (sym is))
    ∙ effects-append n (take k ops) (op ∷ [])

pub area_more :
    (g area : Grid Bool) (ms more : List Move) (ops : List Op) (k : ℕ) (op : Op) → k < length ops → op ≡ get_or ops k op
    → all_fit g.width g.height ops ≡ true → area ≡ dirtied g (effects (length ms) (take k ops))
    → more ≡ ms ++ moves_in (effects (length ms) (take k ops))
    → with_effect area (effect (length more) op) ≡ dirtied g (effects (length ms) (take (k + 1) ops))
area_more g area ms more ops k op k_in is fit so_far moves_so_far =
    let n : ℕ = length ms in
    let e : Effect = effect (n + scrolls (take k ops)) op in
    let inside : effect_fits g.width g.height e ≡ true =
    effect-fits g.width g.height (n + scrolls (take k ops)) op (fits_at g.width g.height ops k op fit k_in is) in
    ap (λ f. with_effect area f) (effect_next ms more (take k ops) op moves_so_far)
    ∙ (ap (λ (a : Grid Bool). with_effect a e) so_far
    ∙ (dirtied-push g (effects n (take k ops)) e inside
    ∙ ap (dirtied g) (sym (effects_next n ops k op k_in is))))

pub moves_more :
    (ms more : List Move) (ops : List Op) (k : ℕ) (op : Op) → k < length ops → op ≡ get_or ops k op
    → more ≡ ms ++ moves_in (effects (length ms) (take k ops))
    → more ++ move_in (effect (length more) op) ≡ ms ++ moves_in (effects (length ms) (take (k + 1) ops))
moves_more ms more ops k op k_in is so_far =
    let n : ℕ = length ms in
    let es : List Effect = effects n (take k ops) in
    let e : Effect = effect (n + scrolls (take k ops)) op in
    ap (λ f. more ++ move_in f) (effect_next ms more (take k ops) op so_far)
    ∙ (ap (λ (xs : List Move). xs ++ move_in e) so_far
    ∙ (append_assoc ms (moves_in es) (move_in e)
    ∙ (ap (λ xs. ms ++ (moves_in es ++ xs)) (sym (append-nil (move_in e)))
    ∙ (ap (λ xs. ms ++ xs) (sym (moves_in-append es (e ∷ [])))
    ∙ ap (λ fs. ms ++ moves_in fs) (sym (effects_next n ops k op k_in is))))))

-- what presents leave that are added one by one
Alike-trans : (a b c : ℕ) → Alike a b → Alike b c → Alike a c
Alike-trans a b c (inl e) (inl f) = inl (e ∙ f)
Alike-trans a b c (inl e) (inr f) = inr (omega (arith, e, f.0), f.1)
Alike-trans a b c (inr e) (inl f) = inr (e.0, omega (arith, e.1, f))
Alike-trans a b c (inr e) (inr f) = inr (e.0, f.1)

made :
    (area : Grid Bool) (ms ns : List Move) (b c : Bool) (k n : ℕ) → ms ≡ ns → b ≡ c → k ≡ n
    → (let i : Interval = record { area = area; moves = ms; coalesced = b; frames = k } in i)
    ≡ record { area = area; moves = ns; coalesced = c; frames = n }
made area ms ns b c k n e f h =
    ap (λ xs. record { area = area; moves = xs; coalesced = b; frames = k }) e
    ∙ (ap (λ d. record { area = area; moves = ns; coalesced = d; frames = k }) f
    ∙ ap (λ m. record { area = area; moves = ns; coalesced = c; frames = m }) h)

added :
    (ps : List (List Op)) (i : Interval) (n : ℕ) → Alike (length i.moves) n
    → fold with_present i ps
    ≡ record {
      area = fold settled i.area (each_effects n ps);
      moves = i.moves ++ moves_in (flat_map (λ es. es) (each_effects n ps));
      coalesced = i.coalesced || rounds i.area (each_effects n ps);
      frames = i.frames + length ps;
    }
added [] i n e =
    made i.area i.moves (i.moves ++ []) i.coalesced (i.coalesced || false) i.frames (i.frames + 0)
    (sym (append-nil i.moves)) (sym (or-false i.coalesced)) (omega arith)
added (ops ∷ ps) i n e =
    let es : List Effect = effects n ops in
    let next : Interval = with_effects i es in
    let later : List (List Effect) = each_effects (n + scrolls ops) ps in
    let rest : List Effect = flat_map (λ fs. fs) later in
    let alike : Alike (length (i.moves ++ moves_in es)) (n + scrolls ops) =
    subst (λ k. Alike k (n + scrolls ops)) (sym (length-append i.moves (moves_in es)))
    (Alike-trans _ (n + length (moves_in es)) _ (Alike-more (length i.moves) n (length (moves_in es)) e)
    (Alike-moves n ops)) in
    ap (λ fs. fold with_present (with_effects i fs) ps) (effects-alike (length i.moves) n ops e)
    ∙ (added ps next (n + scrolls ops) alike
    ∙ made (fold settled (settled i.area es) later) _ _ _ _ _ _
    (append_assoc i.moves (moves_in es) (moves_in rest) ∙ ap (λ ms. i.moves ++ ms) (sym (moves_in-append es rest)))
    (or_assoc i.coalesced (must_round i.area es) (rounds (settled i.area es) later))
    (omega arith))

pub composes : Composes
unfolding dirt moves is_coalesced
composes w h ps =
    added ps (nothing w h) 0 (inl refl)
    ∙ made (fold settled (nowhere w h) (each_effects 0 ps)) _ _ _ _ _ _ refl refl (omega arith)
