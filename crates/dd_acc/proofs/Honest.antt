-- The dirty points of an interval: what all of its effects together draw afresh, and no point out of their reach.
use Rattle.std.proofs.Common.{◌≡◌, ℕ, ◌+◌, ◌^◌, ◌<◌, ◌≤◌, Bool, true, false, ◌||◌, cond, List, [], ◌∷◌, ◌++◌, refl, sym, ap, ◌∙◌, ⊎_elim, nat_lt, arith}
use Rattle.std.specs.List.{list_all, list_any, flat_map, fold}
use Rattle.std.proofs.Math.Bool.{or_assoc}
use Rattle.std.proofs.lemmas.Bool.{and_parts, or_parts, cond-false, cases_lt, ltb-false}
use Rattle.dd_geom.specs.declared.rect.Move.{Move}
use Rattle.dd_geom.specs.Rect.{has}
use Rattle.dd_geom.specs.Grid.{Grid, grid}
use Rattle.dd_geom.proofs.GridLemmas.{value_at-grid, value_at-right, value_at-below, same_grids, length-cells}
use Rattle.dd_bits.specs.Area.{is_in, nowhere}
use Rattle.dd_ops.specs.declared.operations.Op.{Op}
use Rattle.dd_ops.specs.declared.operations.Op.TheVariants.{Fill, Blit, Cover, Scroll}
use Rattle.dd_bits.specs.Tiles.{tiles}
use Rattle.dd_bits.proofs.TileLemmas.{tiles_one, width-tiles, height-tiles, whole-tiles}
use Rattle.dd_coal.specs.Power.{power}
use Rattle.dd_coal.proofs.Least.{keeps_points}
use Rattle.dd_acc.specs.declared.interval.TheConstants.{MAX_MOVES}
use Rattle.dd_acc.specs.Effects.{Effect, over, shifted, effect, effects, scroll_in, scrolls, each_effects, all_effects, Origin, fresh, kept, before, back, origin, is_touched, touched, drawn_afresh, dirtied, settled, must_round, rounds, dirt, is_coalesced, presents_fit, reach, any_reaches, IsWhole, HonestDirt}
use Rattle.dd_acc.proofs.Origins.{effect_fits, Lies, touched-touched, Lies-origin, touched_alike, whole-dirtied, whole-nowhere, width-dirtied, height-dirtied}
use Rattle.dd_acc.proofs.Counting.{each-fit}

-- all lists one after another
abbrev pub joined : List (List Effect) → List Effect
joined ess = flat_map (λ es. es) ess

width-settled : (g : Grid Bool) (es : List Effect) → (settled g es).width ≡ g.width
width-settled g es = width-tiles (2 ^ power (dirtied g es)) (dirtied g es) ∙ width-dirtied g es

height-settled : (g : Grid Bool) (es : List Effect) → (settled g es).height ≡ g.height
height-settled g es = height-tiles (2 ^ power (dirtied g es)) (dirtied g es) ∙ height-dirtied g es

pub whole-settled : (g : Grid Bool) (es : List Effect) → IsWhole (settled g es)
whole-settled g es = whole-tiles (2 ^ power (dirtied g es)) (dirtied g es)

width-fold : (ess : List (List Effect)) (g : Grid Bool) → (fold settled g ess).width ≡ g.width
width-fold [] g = refl
width-fold (es ∷ ess) g = width-fold ess (settled g es) ∙ width-settled g es

height-fold : (ess : List (List Effect)) (g : Grid Bool) → (fold settled g ess).height ≡ g.height
height-fold [] g = refl
height-fold (es ∷ ess) g = height-fold ess (settled g es) ∙ height-settled g es

whole-fold : (ess : List (List Effect)) (g : Grid Bool) → IsWhole g → IsWhole (fold settled g ess)
whole-fold [] g whole = whole
whole-fold (es ∷ ess) g whole = whole-fold ess (settled g es) (whole-settled g es)

is_in-dirtied : (g : Grid Bool) (es : List Effect) (x y : ℕ) → x < g.width → y < g.height → is_in (dirtied g es) x y
    ≡ touched (is_in g) es x y
unfolding dirtied
is_in-dirtied g es x y across down = value_at-grid false g.width g.height (touched (is_in g) es) x y across down

fits_later : (w h : ℕ) (a b : List Effect) → list_all (effect_fits w h) (a ++ b) ≡ true → list_all (effect_fits w h) b
    ≡ true
fits_later w h [] b e = e
fits_later w h (x ∷ a) b e =
    fits_later w h a b (and_parts (effect_fits w h x) (list_all (effect_fits w h) (a ++ b)) e).1

-- what presents touch one after another is what they touch together
pub is_in-fold :
    (ess : List (List Effect)) (g : Grid Bool) (x y : ℕ) → list_all (effect_fits g.width g.height) (joined ess) ≡ true
    → x < g.width → y < g.height → is_in (fold dirtied g ess) x y ≡ touched (is_in g) (joined ess) x y
is_in-fold [] g x y fits across down = refl
is_in-fold (es ∷ ess) g x y fits across down =
    let next : Grid Bool = dirtied g es in
    let later : list_all (effect_fits g.width g.height) (joined ess) ≡ true =
    fits_later g.width g.height es (joined ess) fits in
    let wide : next.width ≡ g.width = width-dirtied g es in
    let high : next.height ≡ g.height = height-dirtied g es in
    is_in-fold ess next x y (rw (wide, high) later) (rw wide across) (rw high down)
    ∙ (touched_alike g.width g.height (is_in next) (touched (is_in g) es) (origin (joined ess) x y)
    (λ a b u v. is_in-dirtied g es a b u v) (Lies-origin g.width g.height (joined ess) x y later across down)
    ∙ touched-touched (is_in g) es (joined ess) x y)

-- and where they are rounded in between no point of these goes away
grows : (w h : ℕ) (f g : ℕ → ℕ → Bool) (o : Origin) → ((x y : ℕ) → x < w → y < h → f x y ≡ true → g x y ≡ true)
    → Lies w h o → is_touched f o ≡ true → is_touched g o ≡ true
grows w h f g fresh e l t = refl
grows w h f g (kept x y) e l t = e x y l.0 l.1 t

kept-settled : (g : Grid Bool) (es : List Effect) (x y : ℕ) → x < g.width → y < g.height → touched (is_in g) es x y
    ≡ true → is_in (settled g es) x y ≡ true
kept-settled g es x y across down t = keeps_points (dirtied g es) x y (is_in-dirtied g es x y across down ∙ t)

kept-fold :
    (ess : List (List Effect)) (g : Grid Bool) (x y : ℕ) → list_all (effect_fits g.width g.height) (joined ess) ≡ true
    → x < g.width → y < g.height → touched (is_in g) (joined ess) x y ≡ true → is_in (fold settled g ess) x y ≡ true
kept-fold [] g x y fits across down t = t
kept-fold (es ∷ ess) g x y fits across down t =
    let next : Grid Bool = settled g es in
    let later : list_all (effect_fits g.width g.height) (joined ess) ≡ true =
    fits_later g.width g.height es (joined ess) fits in
    let wide : next.width ≡ g.width = width-settled g es in
    let high : next.height ≡ g.height = height-settled g es in
    kept-fold ess next x y (rw (wide, high) later) (rw wide across) (rw high down)
    (grows g.width g.height (touched (is_in g) es) (is_in next) (origin (joined ess) x y)
    (λ a b u v. kept-settled g es a b u v) (Lies-origin g.width g.height (joined ess) x y later across down)
    (touched-touched (is_in g) es (joined ess) x y ∙ t))

-- where no present has to be rounded none is
none_below : (n : ℕ) → nat_lt 0 n ≡ false → n ≡ 0
none_below n e = let l : n ≤ 0 = ltb-false 0 n e in omega (arith, l)

settled_exact : (g : Grid Bool) (es : List Effect) → must_round g es ≡ false → settled g es ≡ dirtied g es
settled_exact g es e =
    ap (λ n. tiles (2 ^ n) (dirtied g es)) (none_below (power (dirtied g es)) e)
    ∙ tiles_one (dirtied g es) (whole-dirtied g es)

fold_exact : (ess : List (List Effect)) (g : Grid Bool) → rounds g ess ≡ false → fold settled g ess ≡ fold dirtied g ess
fold_exact [] g e = refl
fold_exact (es ∷ ess) g e =
    fold_exact ess (settled g es) (or_parts (must_round g es) (rounds (settled g es) ess) e).1
    ∙ ap (λ d. fold dirtied d ess) (settled_exact g es (or_parts (must_round g es) (rounds (settled g es) ess) e).0)

is_in-nowhere : (w h x y : ℕ) → x < w → y < h → is_in (nowhere w h) x y ≡ false
is_in-nowhere w h x y across down = value_at-grid false w h (λ a b. false) x y across down

nothing_before : (w h : ℕ) (ps : List (List Op)) (x y : ℕ) → presents_fit w h ps ≡ true → x < w → y < h
    → touched (is_in (nowhere w h)) (all_effects ps) x y ≡ drawn_afresh (all_effects ps) x y
nothing_before w h ps x y fits across down =
    touched_alike w h (is_in (nowhere w h)) (λ a b. false) (origin (all_effects ps) x y)
    (is_in-nowhere w h) (Lies-origin w h (all_effects ps) x y (each-fit w h 0 ps fits) across down)

-- each point that is drawn afresh is dirty
pub drawn-dirt :
    (w h : ℕ) (ps : List (List Op)) (x y : ℕ) → presents_fit w h ps ≡ true → x < w → y < h
    → drawn_afresh (all_effects ps) x y ≡ true → is_in (dirt w h ps) x y ≡ true
unfolding dirt
drawn-dirt w h ps x y fits across down t =
    kept-fold (each_effects 0 ps) (nowhere w h) x y (each-fit w h 0 ps fits) across down
    (nothing_before w h ps x y fits across down ∙ t)

-- and where nothing is rounded no other point is
pub is_in-dirt :
    (w h : ℕ) (ps : List (List Op)) (x y : ℕ) → is_coalesced w h ps ≡ false → presents_fit w h ps ≡ true → x < w → y < h
    → is_in (dirt w h ps) x y ≡ drawn_afresh (all_effects ps) x y
unfolding dirt is_coalesced
is_in-dirt w h ps x y none fits across down =
    ap (λ (g : Grid Bool). is_in g x y) (fold_exact (each_effects 0 ps) (nowhere w h) none)
    ∙ (is_in-fold (each_effects 0 ps) (nowhere w h) x y (each-fit w h 0 ps fits) across down
    ∙ nothing_before w h ps x y fits across down)

pub width-dirt : (w h : ℕ) (ps : List (List Op)) → (dirt w h ps).width ≡ w
unfolding dirt
width-dirt w h ps = width-fold (each_effects 0 ps) (nowhere w h)

pub height-dirt : (w h : ℕ) (ps : List (List Op)) → (dirt w h ps).height ≡ h
unfolding dirt
height-dirt w h ps = height-fold (each_effects 0 ps) (nowhere w h)

pub whole-dirt : (w h : ℕ) (ps : List (List Op)) → IsWhole (dirt w h ps)
unfolding dirt
whole-dirt w h ps = whole-fold (each_effects 0 ps) (nowhere w h) (whole-nowhere w h)

dirt-exact : (w h : ℕ) (ps : List (List Op)) → is_coalesced w h ps ≡ false → presents_fit w h ps ≡ true → dirt w h ps
    ≡ grid w h (drawn_afresh (all_effects ps))
dirt-exact w h ps none fits =
    same_grids false (dirt w h ps) (grid w h (drawn_afresh (all_effects ps))) (whole-dirt w h ps)
    (length-cells w h (drawn_afresh (all_effects ps)))
    (width-dirt w h ps) (height-dirt w h ps)
    (λ x y across down.
    let a : x < w = rw (← width-dirt w h ps) across in
    let d : y < h = rw (← height-dirt w h ps) down in
    is_in-dirt w h ps x y none fits a d ∙ sym (value_at-grid false w h (drawn_afresh (all_effects ps)) x y a d))

-- an effect draws or shifts to a point
abbrev affects : ℕ → ℕ → Effect → Bool
affects x y (over r) = has r x y
affects x y (shifted m) = has m.dest x y

-- a point that no effect reaches stays where it is
unmoved : (e : Effect) (x y : ℕ) → affects x y e ≡ false → before e x y ≡ kept x y
unmoved (over r) x y h = cond-false (has r x y) fresh (kept x y) h
unmoved (shifted m) x y h = cond-false (has m.dest x y) _ (kept x y) h

unreached : (es : List Effect) (x y : ℕ) → list_any (affects x y) es ≡ false → origin es x y ≡ kept x y
unreached [] x y h = refl
unreached (e ∷ es) x y h =
    ap (λ o. back o (before e)) (unreached es x y (or_parts (affects x y e) (list_any (affects x y) es) h).1)
    ∙ unmoved e x y (or_parts (affects x y e) (list_any (affects x y) es) h).0

true_from : (b : Bool) (o : Origin) (x y : ℕ) → (b ≡ false → o ≡ kept x y) → is_touched (λ a c. false) o ≡ true → b
    ≡ true
true_from true o x y e t = refl
true_from false o x y e t = let k : false ≡ true = sym (ap (is_touched (λ a c. false)) (e refl)) ∙ t in cc

any_reached : (es : List Effect) (x y : ℕ) → drawn_afresh es x y ≡ true → list_any (affects x y) es ≡ true
any_reached es x y t = true_from (list_any (affects x y) es) (origin es x y) x y (unreached es x y) t

-- the effects reach what the operations reach
affects_if : (b : Bool) (m : Move) (x y : ℕ) → affects x y (cond b (shifted m) (over m.dest)) ≡ has m.dest x y
affects_if true m x y = refl
affects_if false m x y = refl

affects-effect : (n : ℕ) (op : Op) (x y : ℕ) → affects x y (effect n op) ≡ has (reach op) x y
affects-effect n (Fill r c) x y = refl
affects-effect n (Blit r c) x y = refl
affects-effect n (Cover r c) x y = refl
affects-effect n (Scroll m) x y = affects_if (nat_lt n MAX_MOVES) m x y

or_both : (a b c d : Bool) → a ≡ b → c ≡ d → (a || c) ≡ (b || d)
or_both a b c d e f = ap (λ t. t || c) e ∙ ap (λ t. b || t) f

affects-effects : (n : ℕ) (ops : List Op) (x y : ℕ) → list_any (affects x y) (effects n ops)
    ≡ list_any (λ op. has (reach op) x y) ops
affects-effects n [] x y = refl
affects-effects n (op ∷ ops) x y =
    or_both _ _ _ _ (affects-effect n op x y) (affects-effects (n + scroll_in op) ops x y)

any-append : (p : Effect → Bool) (a b : List Effect) → list_any p (a ++ b) ≡ (list_any p a || list_any p b)
any-append p [] b = refl
any-append p (e ∷ a) b = ap (λ t. p e || t) (any-append p a b) ∙ sym (or_assoc (p e) (list_any p a) (list_any p b))

affects-each : (n : ℕ) (ps : List (List Op)) (x y : ℕ) → list_any (affects x y) (joined (each_effects n ps))
    ≡ any_reaches ps x y
affects-each n [] x y = refl
affects-each n (ops ∷ ps) x y =
    any-append (affects x y) (effects n ops) (joined (each_effects (n + scrolls ops) ps))
    ∙ or_both _ _ _ _ (affects-effects n ops x y) (affects-each (n + scrolls ops) ps x y)

-- no point outside is dirty
inside_of : (w h : ℕ) (ps : List (List Op)) (x y : ℕ) → is_in (dirt w h ps) x y ≡ true → (x < w) × (y < h)
inside_of w h ps x y t = ⊎_elim
    (λ (across : x < w). ⊎_elim
    (λ (down : y < h). (across, down))
    (λ (low : h ≤ y). absurd
    (let u : false ≡ true = sym (value_at-below false (dirt w h ps) x y (rw (height-dirt w h ps) low)) ∙ t in cc))
    (cases_lt y h))
    (λ (right : w ≤ x). absurd
    (let u : false ≡ true = sym (value_at-right false (dirt w h ps) x y (rw (width-dirt w h ps) right)) ∙ t in cc))
    (cases_lt x w)

dirt-reached : (w h : ℕ) (ps : List (List Op)) (x y : ℕ) → is_coalesced w h ps ≡ false → presents_fit w h ps ≡ true
    → is_in (dirt w h ps) x y ≡ true → any_reaches ps x y ≡ true
dirt-reached w h ps x y none fits t =
    let i = inside_of w h ps x y t in
    sym (affects-each 0 ps x y) ∙ any_reached (all_effects ps) x y (sym (is_in-dirt w h ps x y none fits i.0 i.1) ∙ t)

pub honest : HonestDirt
honest w h ps fits =
    record {
      whole = λ x y across down t. drawn-dirt w h ps x y fits across down t;
      exact = λ none. dirt-exact w h ps none fits;
      reached = λ none x y t. dirt-reached w h ps x y none fits t;
    }
