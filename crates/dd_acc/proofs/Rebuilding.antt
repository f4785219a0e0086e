-- A surface is rebuilt from the one before: its moves take each point that was kept to its place, and the rest is
-- copied.
use Rattle.std.proofs.Common.{◌≡◌, ℕ, ◌+◌, ◌<◌, Bool, true, false, cond, nat_lt, List, [], ◌∷◌, refl, sym, ap, ◌∙◌, if◌then◌else◌, subst}
use Rattle.std.specs.List.{list_all, flat_map, fold}
use Rattle.std.proofs.lemmas.Bool.{and_parts}
use Rattle.dd_geom.specs.declared.rect.Rect.{Rect}
use Rattle.dd_geom.specs.declared.rect.Move.{Move}
use Rattle.dd_geom.specs.Rect.{has, is_move_inside, source_x, source_y}
use Rattle.dd_geom.specs.Grid.{Grid, grid, value_at, scrolled}
use Rattle.dd_geom.proofs.GridLemmas.{grid_from_agree, value_at-grid}
use Rattle.dd_grid.specs.Cell.{Cell, plain, covered_cell, seen_cell}
use Rattle.dd_grid.specs.Drawing.{cell_at, moved_cells, moved, image_at, seen}
use Rattle.dd_ops.specs.declared.operations.Op.{Op}
use Rattle.dd_ops.specs.declared.operations.Op.TheVariants.{Fill, Blit, Cover, Scroll}
use Rattle.dd_ops.specs.Operations.{fits, all_fit, drawn_by, drawn}
use Rattle.dd_ops.proofs.Pictures.{SameSize-drawn_by}
use Rattle.dd_acc.specs.declared.interval.TheConstants.{MAX_MOVES}
use Rattle.dd_acc.specs.Effects.{Effect, over, shifted, effect, effects, scroll_in, scrolls, each_effects, all_effects, moves_in, moves, Origin, fresh, kept, before, back, origin, is_touched, drawn_afresh, presents_fit}
use Rattle.dd_acc.specs.Rebuild.{any_has, all_moved, MovesAndDirtRebuild}
use Rattle.dd_acc.proofs.Origins.{effect_fits, Lies, Lies-origin, origin-append}
use Rattle.dd_acc.proofs.Counting.{effects-fit, each-fit}

-- a value comes from a grid's point, unless it was drawn
abbrev Comes : {A : Type 0} → A → Grid A → Origin → A → Type 0
Comes d g fresh v = Unit {0}
Comes d g (kept x y) v = v ≡ value_at d g x y

comes_if : {A : Type 0} (d : A) (g : Grid A) (b : Bool) (o p : Origin) (u v : A) → (b ≡ true → Comes d g o u)
    → (b ≡ false → Comes d g p v) → Comes d g (cond b o p) (cond b u v)
comes_if d g true o p u v e f = e refl
comes_if d g false o p u v e f = f refl

-- one where the test decides what value it is
at_if : {A : Type 0} (d : A) (g : Grid A) (o : Origin) (u v : A) → u ≡ v → Comes d g o v → Comes d g o u
at_if d g fresh u v e c = tt
at_if d g (kept x y) u v e c = e ∙ c

-- a point of a scrolled grid
comes-scrolled : {A : Type 0} (d : A) (g : Grid A) (m : Move) (x y : ℕ) → x < g.width → y < g.height
    → Comes d g (before (shifted m) x y) (value_at d (scrolled d g m) x y)
comes-scrolled d g m x y across down =
    at_if d g (before (shifted m) x y) _ _
    (value_at-grid d g.width g.height
    (λ a b. cond (has m.dest a b) (value_at d g (source_x m a) (source_y m b)) (value_at d g a b)) x y across down)
    (comes_if d g (has m.dest x y) (kept (source_x m x) (source_y m y)) (kept x y) _ _ (λ _. refl) (λ _. refl))

-- a point of a grid drawn over in a rectangle
comes-drawn : {A : Type 0} (d : A) (g : Grid A) (r : Rect) (f : ℕ → ℕ → A) (x y : ℕ) → x < g.width → y < g.height
    → Comes d g (before (over r) x y)
    (value_at d (grid g.width g.height (λ a b. cond (has r a b) (f a b) (value_at d g a b))) x y)
comes-drawn d g r f x y across down =
    at_if d g (before (over r) x y) _ _
    (value_at-grid d g.width g.height (λ a b. cond (has r a b) (f a b) (value_at d g a b)) x y across down)
    (comes_if d g (has r x y) fresh (kept x y) _ _ (λ _. tt) (λ _. refl))

-- the same for one operation on a picture
comes_scroll : (p : Grid Cell) (m : Move) (b : Bool) (x y : ℕ) → x < p.width → y < p.height
    → Comes (plain 0) p (before (cond b (shifted m) (over m.dest)) x y) (cell_at (moved_cells p m) x y)
comes_scroll p m true x y across down = comes-scrolled (plain 0) p m x y across down
comes_scroll p m false x y across down =
    comes-drawn (plain 0) p m.dest (λ a b. cell_at p (source_x m a) (source_y m b)) x y across down

comes-op : (n : ℕ) (op : Op) (p : Grid Cell) (x y : ℕ) → x < p.width → y < p.height
    → Comes (plain 0) p (before (effect n op) x y) (cell_at (drawn_by p op) x y)
comes-op n (Fill r c) p x y across down = comes-drawn (plain 0) p r (λ a b. plain c) x y across down
comes-op n (Blit r cs) p x y across down = comes-drawn (plain 0) p r (λ a b. plain (image_at r cs a b)) x y across down
comes-op n (Cover r cs) p x y across down =
    comes-drawn (plain 0) p r (λ a b. covered_cell (image_at r cs a b)) x y across down
comes-op n (Scroll m) p x y across down = comes_scroll p m (nat_lt n MAX_MOVES) x y across down

-- goes on backward: a value that comes from a point comes from where that point comes from
comes-back : {A : Type 0} (d : A) (g next : Grid A) (e : Effect) (o : Origin) (v : A)
    → ((x y : ℕ) → x < next.width → y < next.height → Comes d g (before e x y) (value_at d next x y))
    → Lies next.width next.height o → Comes d next o v → Comes d g (back o (before e)) v
comes-back d g next e fresh v step l c = tt
comes-back d g next e (kept x y) v step l c = at_if d g (before e x y) v _ c (step x y l.0 l.1)

pub width-drawn : (ops : List Op) (p : Grid Cell) → (drawn p ops).width ≡ p.width
width-drawn [] p = refl
width-drawn (op ∷ ops) p = width-drawn ops (drawn_by p op) ∙ (SameSize-drawn_by p op).width

pub height-drawn : (ops : List Op) (p : Grid Cell) → (drawn p ops).height ≡ p.height
height-drawn [] p = refl
height-drawn (op ∷ ops) p = height-drawn ops (drawn_by p op) ∙ (SameSize-drawn_by p op).height

pub width-presents : (ps : List (List Op)) (p : Grid Cell) → (fold drawn p ps).width ≡ p.width
width-presents [] p = refl
width-presents (ops ∷ ps) p = width-presents ps (drawn p ops) ∙ width-drawn ops p

pub height-presents : (ps : List (List Op)) (p : Grid Cell) → (fold drawn p ps).height ≡ p.height
height-presents [] p = refl
height-presents (ops ∷ ps) p = height-presents ps (drawn p ops) ∙ height-drawn ops p

-- each point of the picture after a present comes from its origin
comes-ops : (n : ℕ) (ops : List Op) (p : Grid Cell) (x y : ℕ) → all_fit p.width p.height ops ≡ true → x < p.width
    → y < p.height
    → Comes (plain 0) p (origin (effects n ops) x y) (cell_at (drawn p ops) x y)
comes-ops n [] p x y fit across down = refl
comes-ops n (op ∷ ops) p x y fit across down =
    let next : Grid Cell = drawn_by p op in
    let later = (and_parts (fits p.width p.height op) (all_fit p.width p.height ops) fit).1 in
    let wide = (SameSize-drawn_by p op).width in
    let high = (SameSize-drawn_by p op).height in
    let more = n + scroll_in op in
    let fit_next : all_fit next.width next.height ops ≡ true = rw (wide, high) later in
    let across_next : x < next.width = rw wide across in
    let down_next : y < next.height = rw high down in
    comes-back (plain 0) p next (effect n op) (origin (effects more ops) x y) (cell_at (drawn next ops) x y)
    (λ a b u v. comes-op n op p a b (rw (← wide) u) (rw (← high) v))
    (Lies-origin next.width next.height (effects more ops) x y (effects-fit next.width next.height more ops fit_next)
    across_next down_next)
    (comes-ops more ops next x y fit_next across_next down_next)

-- and after all of them: going back through the later presents, and then through the first
comes-joined : {A : Type 0} (d : A) (g next : Grid A) (es : List Effect) (o : Origin) (v : A)
    → ((x y : ℕ) → x < next.width → y < next.height → Comes d g (origin es x y) (value_at d next x y))
    → Lies next.width next.height o → Comes d next o v → Comes d g (back o (origin es)) v
comes-joined d g next es fresh v step l c = tt
comes-joined d g next es (kept x y) v step l c = at_if d g (origin es x y) v _ c (step x y l.0 l.1)

comes-presents : (n : ℕ) (ps : List (List Op)) (p : Grid Cell) (x y : ℕ) → presents_fit p.width p.height ps ≡ true
    → x < p.width → y < p.height
    → Comes (plain 0) p (origin (flat_map (λ es. es) (each_effects n ps)) x y) (cell_at (fold drawn p ps) x y)
comes-presents n [] p x y fit across down = refl
comes-presents n (ops ∷ ps) p x y fit across down =
    let next : Grid Cell = drawn p ops in
    let both = and_parts (all_fit p.width p.height ops) (presents_fit p.width p.height ps) fit in
    let wide = width-drawn ops p in
    let high = height-drawn ops p in
    let more = n + scrolls ops in
    let rest : List Effect = flat_map (λ es. es) (each_effects more ps) in
    let fit_next : presents_fit next.width next.height ps ≡ true = rw (wide, high) both.1 in
    let across_next : x < next.width = rw wide across in
    let down_next : y < next.height = rw high down in
    subst (λ (o : Origin). Comes (plain 0) p o (cell_at (fold drawn next ps) x y))
    (sym (origin-append (effects n ops) rest x y))
    (comes-joined (plain 0) p next (effects n ops) (origin rest x y) (cell_at (fold drawn next ps) x y)
    (λ a b u v. comes-ops n ops p a b both.0 (rw (← wide) u) (rw (← high) v))
    (Lies-origin next.width next.height rest x y (each-fit next.width next.height more ps fit_next) across_next
    down_next)
    (comes-presents more ps next x y fit_next across_next down_next))

-- the moves alone take each point that was kept to its place
pub width-moved : (ms : List Move) (s : Grid ℕ) → (all_moved s ms).width ≡ s.width
width-moved [] s = refl
width-moved (m ∷ ms) s = width-moved ms (moved s m)

pub height-moved : (ms : List Move) (s : Grid ℕ) → (all_moved s ms).height ≡ s.height
height-moved [] s = refl
height-moved (m ∷ ms) s = height-moved ms (moved s m)

comes-over : (s : Grid ℕ) (b : Bool) (x y : ℕ) → Comes 0 s (cond b fresh (kept x y)) (value_at 0 s x y)
comes-over s true x y = tt
comes-over s false x y = refl

comes-moves : (es : List Effect) (s : Grid ℕ) (x y : ℕ) → list_all (effect_fits s.width s.height) es ≡ true
    → x < s.width → y < s.height
    → Comes 0 s (origin es x y) (value_at 0 (all_moved s (moves_in es)) x y)
comes-moves [] s x y fit across down = refl
comes-moves (over r ∷ es) s x y fit across down =
    comes-back 0 s s (over r) (origin es x y) _ (λ a b u v. comes-over s (has r a b) a b)
    (Lies-origin s.width s.height es x y fit across down) (comes-moves es s x y fit across down)
comes-moves (shifted m ∷ es) s x y fit across down =
    let later = (and_parts (is_move_inside m s.width s.height) (list_all (effect_fits s.width s.height) es) fit).1 in
    comes-back 0 s (moved s m) (shifted m) (origin es x y) _ (λ a b u v. comes-scrolled 0 s m a b u v)
    (Lies-origin s.width s.height es x y later across down) (comes-moves es (moved s m) x y later across down)

-- what is moved and what is seen come from one place
value_at-seen : (p : Grid Cell) (x y : ℕ) → x < p.width → y < p.height → value_at 0 (seen p) x y
    ≡ seen_cell (cell_at p x y)
value_at-seen p x y across down = value_at-grid 0 p.width p.height (λ a b. seen_cell (cell_at p a b)) x y across down

same_place : (p : Grid Cell) (o : Origin) (v : ℕ) (c : Cell) → is_touched (λ a b. false) o ≡ false
    → Lies p.width p.height o → Comes 0 (seen p) o v → Comes (plain 0) p o c → v ≡ seen_cell c
same_place p fresh v c t l e f = absurd (let u : true ≡ false = t in cc)
same_place p (kept x y) v c t l e f = e ∙ (value_at-seen p x y l.0 l.1 ∙ ap seen_cell (sym f))

untouched_unless : (b c : Bool) → (b ≡ true → c ≡ true) → c ≡ false → b ≡ false
untouched_unless true c e f = let u : true ≡ false = sym (e refl) ∙ f in u
untouched_unless false c e f = refl

choose : (b : Bool) (before after : ℕ) → (b ≡ false → before ≡ after) → (if b then after else before) ≡ after
choose true before after same = refl
choose false before after same = same refl

pub rebuilds : MovesAndDirtRebuild
unfolding moves
rebuilds p ps rects fit has_drawn =
    let q : Grid Cell = fold drawn p ps in
    let es : List Effect = all_effects ps in
    let s : Grid ℕ = all_moved (seen p) (moves_in es) in
    let fits = each-fit p.width p.height 0 ps fit in
    let shown : ℕ → ℕ → ℕ = λ x y. seen_cell (cell_at q x y) in
    let wide : s.width ≡ p.width = width-moved (moves_in es) (seen p) in
    let high : s.height ≡ p.height = height-moved (moves_in es) (seen p) in
    let f : ℕ → ℕ → ℕ = λ x y. if any_has rects x y then value_at 0 (seen q) x y else value_at 0 s x y in
    ap (λ n. grid n s.height f) wide
    ∙ (ap (λ n. grid p.width n f) high
    ∙ (grid_from_agree p.width p.height f shown (λ x y across down.
    let at_q : value_at 0 (seen q) x y ≡ shown x y =
    value_at-seen q x y (rw (width-presents ps p) across) (rw (height-presents ps p) down) in
    choose (any_has rects x y) (value_at 0 s x y) (value_at 0 (seen q) x y) (λ out.
    same_place p (origin es x y) (value_at 0 s x y) (cell_at q x y)
    (untouched_unless (drawn_afresh es x y) (any_has rects x y) (has_drawn x y across down) out)
    (Lies-origin p.width p.height es x y fits across down)
    (comes-moves es (seen p) x y fits across down)
    (comes-presents 0 ps p x y fit across down)
    ∙ sym at_q)
    ∙ at_q)
    ∙ (ap (λ n. grid n p.height shown) (sym (width-presents ps p))
    ∙ ap (λ n. grid q.width n shown) (sym (height-presents ps p)))))
