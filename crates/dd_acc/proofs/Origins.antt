-- Where points come from through two lists of effects, and what one effect more touches.
use Rattle.std.proofs.Common.{◌≡◌, ℕ, ◌+◌, ◌-◌, ◌<◌, ◌≤◌, Bool, true, false, ◌&&◌, ◌||◌, cond, leb, ltb, List, [], ◌∷◌, ◌++◌, refl, sym, ap, ◌∙◌, arith}
use Rattle.std.proofs.lemmas.Bool.{and_parts, leb-true, ltb-true}
use Rattle.std.specs.List.{list_all}
use Rattle.dd_geom.specs.declared.rect.Move.{Move}
use Rattle.dd_geom.specs.Rect.{has, place, is_move_inside, source_x, source_y}
use Rattle.dd_geom.specs.Grid.{Grid}
use Rattle.dd_geom.proofs.GridLemmas.{grid_from_agree, value_at-grid, grid-value_at, length-cells}
use Rattle.dd_geom.proofs.RectLemmas.{IsMoveInside, IsMoveInside-test}
use Rattle.dd_bits.specs.Area.{is_in, nowhere}
use Rattle.dd_acc.specs.Effects.{Effect, over, shifted, Origin, fresh, kept, before, back, origin, is_touched, touched, dirtied, with_effect, IsWhole}

-- going backward twice is going backward once through both
back_twice : (o : Origin) (f g : ℕ → ℕ → Origin) → back (back o f) g ≡ back o (λ x y. back (f x y) g)
back_twice fresh f g = refl
back_twice (kept x y) f g = refl

back_kept : (o : Origin) → back o (λ x y. kept x y) ≡ o
back_kept fresh = refl
back_kept (kept x y) = refl

pub origin-append : (a b : List Effect) (x y : ℕ) → origin (a ++ b) x y ≡ back (origin b x y) (origin a)
origin-append [] b x y = sym (back_kept (origin b x y))
origin-append (e ∷ a) b x y = ap (λ o. back o (before e)) (origin-append a b x y)
    ∙ back_twice (origin b x y) (origin a) (before e)

is_touched-back : (area : ℕ → ℕ → Bool) (o : Origin) (f : ℕ → ℕ → Origin)
    → is_touched (λ x y. is_touched area (f x y)) o ≡ is_touched area (back o f)
is_touched-back area fresh f = refl
is_touched-back area (kept x y) f = refl

pub touched-touched : (area : ℕ → ℕ → Bool) (a b : List Effect) (x y : ℕ) → touched (touched area a) b x y
    ≡ touched area (a ++ b) x y
touched-touched area a b x y = is_touched-back area (origin b x y) (origin a)
    ∙ ap (is_touched area) (sym (origin-append a b x y))

-- an effect lies inside a surface: a shift's move does
abbrev pub effect_fits : ℕ → ℕ → Effect → Bool
effect_fits w h (over r) = true
effect_fits w h (shifted m) = is_move_inside m w h

-- an origin lies inside a surface: a kept point does
abbrev pub Lies : ℕ → ℕ → Origin → Type 0
Lies w h fresh = Unit {0}
Lies w h (kept x y) = (x < w) × (y < h)

-- the source point of a destination's point lies inside
offset_below : (x at from to n : ℕ) → at + (to - from) ≤ n → from ≤ x → x < to → (x + at) - from < n
offset_below x at from to n fits a b = omega arith

pub source_inside : (m : Move) (w h x y : ℕ) → is_move_inside m w h ≡ true → has m.dest x y ≡ true → (source_x m x < w)
    × (source_y m y < h)
source_inside m w h x y inside t =
    let i : IsMoveInside m w h = IsMoveInside-test m w h inside in
    let left = leb (place m.dest.left) x in
    let right = ltb x (place m.dest.right) in
    let top = leb (place m.dest.top) y in
    let bottom = ltb y (place m.dest.bottom) in
    let three = and_parts (left && right && top) bottom t in
    let two = and_parts (left && right) top three.0 in
    let one = and_parts left right two.0 in (
      offset_below x (place m.source.x) (place m.dest.left) (place m.dest.right) w i.across (leb-true _ _ one.0)
          (ltb-true _ _ one.1),
      offset_below y (place m.source.y) (place m.dest.top) (place m.dest.bottom) h i.down (leb-true _ _ two.1)
          (ltb-true _ _ three.1),
    )

-- so a point inside comes from a point inside
lies_if : (w h : ℕ) (b : Bool) (o p : Origin) → (b ≡ true → Lies w h o) → Lies w h p → Lies w h (cond b o p)
lies_if w h true o p f g = f refl
lies_if w h false o p f g = g

pub Lies-before : (w h : ℕ) (e : Effect) (x y : ℕ) → effect_fits w h e ≡ true → x < w → y < h → Lies w h (before e x y)
Lies-before w h (over r) x y fits across down = lies_if w h (has r x y) fresh (kept x y) (λ _. tt) (across, down)
Lies-before w h (shifted m) x y fits across down =
    lies_if w h (has m.dest x y) (kept (source_x m x) (source_y m y)) (kept x y) (source_inside m w h x y fits)
    (across, down)

Lies-back : (w h : ℕ) (e : Effect) (o : Origin) → effect_fits w h e ≡ true → Lies w h o → Lies w h (back o (before e))
Lies-back w h e fresh fits l = tt
Lies-back w h e (kept x y) fits l = Lies-before w h e x y fits l.0 l.1

pub Lies-origin : (w h : ℕ) (es : List Effect) (x y : ℕ) → list_all (effect_fits w h) es ≡ true → x < w → y < h
    → Lies w h (origin es x y)
Lies-origin w h [] x y fits across down = (across, down)
Lies-origin w h (e ∷ es) x y fits across down =
    let both = and_parts (effect_fits w h e) (list_all (effect_fits w h) es) fits in
    Lies-back w h e (origin es x y) both.0 (Lies-origin w h es x y both.1 across down)

-- two sets that agree inside are touched alike
pub touched_alike : (w h : ℕ) (f g : ℕ → ℕ → Bool) (o : Origin) → ((x y : ℕ) → x < w → y < h → f x y ≡ g x y)
    → Lies w h o → is_touched f o ≡ is_touched g o
touched_alike w h f g fresh e l = refl
touched_alike w h f g (kept x y) e l = e x y l.0 l.1

-- one effect more
touched_if_over : (area : ℕ → ℕ → Bool) (b : Bool) (x y : ℕ) → (b || area x y)
    ≡ is_touched area (cond b fresh (kept x y))
touched_if_over area true x y = refl
touched_if_over area false x y = refl

touched_if_shifted : (area : ℕ → ℕ → Bool) (b : Bool) (u v x y : ℕ) → cond b (area u v) (area x y)
    ≡ is_touched area (cond b (kept u v) (kept x y))
touched_if_shifted area true u v x y = refl
touched_if_shifted area false u v x y = refl

cond_alike : (b : Bool) (u v p q : Bool) → (b ≡ true → u ≡ v) → p ≡ q → cond b u p ≡ cond b v q
cond_alike true u v p q e f = e refl
cond_alike false u v p q e f = f

pub dirtied-push : (g : Grid Bool) (es : List Effect) (e : Effect) → effect_fits g.width g.height e ≡ true
    → with_effect (dirtied g es) e ≡ dirtied g (es ++ e ∷ [])
unfolding dirtied
dirtied-push g es (over r) fits = grid_from_agree g.width g.height _ _ (λ x y across down.
    ap (λ b. has r x y || b) (value_at-grid false g.width g.height (touched (is_in g) es) x y across down)
    ∙ (touched_if_over (touched (is_in g) es) (has r x y) x y
    ∙ touched-touched (is_in g) es (over r ∷ []) x y))
dirtied-push g es (shifted m) fits = grid_from_agree g.width g.height _ _ (λ x y across down.
    let there : has m.dest x y ≡ true → is_in (dirtied g es) (source_x m x) (source_y m y)
    ≡ touched (is_in g) es (source_x m x) (source_y m y) =
    λ t. let s = source_inside m g.width g.height x y fits t in
    value_at-grid false g.width g.height (touched (is_in g) es) (source_x m x) (source_y m y) s.0 s.1 in
    cond_alike (has m.dest x y) _ _ _ _ there
    (value_at-grid false g.width g.height (touched (is_in g) es) x y across down)
    ∙ (touched_if_shifted (touched (is_in g) es) (has m.dest x y) (source_x m x) (source_y m y) x y
    ∙ touched-touched (is_in g) es (shifted m ∷ []) x y))

-- no effect touches no more
pub dirtied-none : (g : Grid Bool) → IsWhole g → g ≡ dirtied g []
unfolding dirtied
dirtied-none g whole = grid-value_at false g whole

pub whole-dirtied : (g : Grid Bool) (es : List Effect) → IsWhole (dirtied g es)
unfolding dirtied
whole-dirtied g es = length-cells g.width g.height (touched (is_in g) es)

pub whole-nowhere : (w h : ℕ) → IsWhole (nowhere w h)
whole-nowhere w h = length-cells w h (λ x y. false)

pub width-dirtied : (g : Grid Bool) (es : List Effect) → (dirtied g es).width ≡ g.width
unfolding dirtied
width-dirtied g es = refl

pub height-dirtied : (g : Grid Bool) (es : List Effect) → (dirtied g es).height ≡ g.height
unfolding dirtied
height-dirtied g es = refl
