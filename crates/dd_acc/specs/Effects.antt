-- What operations do to a point of the surface, and where a point comes from, followed backward.
use Rattle.std.specs.Prelude.{◌≡◌, ℕ, ◌+◌, ◌*◌, ◌<◌, length, Bool, true, false, ◌||◌, nat_lt, if◌then◌else◌, List, [], ◌∷◌, ◌++◌, fold}
use Rattle.std.specs.List.{flat_map, list_all, list_any}
use Rattle.dd_geom.specs.declared.rect.Rect.{Rect}
use Rattle.dd_geom.specs.declared.rect.Move.{Move}
use Rattle.dd_geom.specs.Rect.{has, source_x, source_y}
use Rattle.dd_geom.specs.Grid.{Grid, grid}
use Rattle.dd_bits.specs.Area.{is_in, nowhere, with_rect, moved_over}
use Rattle.dd_coal.specs.Power.{power, coalesced}
use Rattle.dd_ops.specs.declared.operations.Op.{Op}
use Rattle.dd_ops.specs.declared.operations.Op.TheVariants.{Fill, Blit, Cover, Scroll}
use Rattle.dd_ops.specs.Operations.{all_fit}
use Rattle.dd_acc.specs.declared.interval.TheConstants.{MAX_MOVES}

-- a rectangle is drawn afresh, or shifted to from another place
pub data Effect : Type 0 where
  over : Rect → Effect
  shifted : Move → Effect

-- what a scroll does, where so many scrolls of the interval stand before it: past the first sixteen it counts as a
-- draw of its destination
abbrev pub scroll_effect : ℕ → Move → Effect
scroll_effect n mv = if nat_lt n MAX_MOVES then shifted mv else over mv.dest

-- what an operation does
abbrev pub effect : ℕ → Op → Effect
effect n (Fill rect colour) = over rect
effect n (Blit rect colours) = over rect
effect n (Cover rect colours) = over rect
effect n (Scroll mv) = scroll_effect n mv

-- one where the operation is a scroll
abbrev pub scroll_in : Op → ℕ
scroll_in (Fill rect colour) = 0
scroll_in (Blit rect colours) = 0
scroll_in (Cover rect colours) = 0
scroll_in (Scroll mv) = 1

abbrev pub scrolls : List Op → ℕ
scrolls [] = 0
scrolls (op ∷ ops) = scroll_in op + scrolls ops

-- the effects of a present's operations, where so many scrolls of the interval stand before them
abbrev pub effects : ℕ → List Op → List Effect
effects n [] = []
effects n (op ∷ ops) = effect n op ∷ effects (n + scroll_in op) ops

-- the effects of each present of an interval, the scrolls being counted over all of them
abbrev pub each_effects : ℕ → List (List Op) → List (List Effect)
each_effects n [] = []
each_effects n (ops ∷ presents) = effects n ops ∷ each_effects (n + scrolls ops) presents

-- the effects of all presents together, in order
abbrev pub all_effects : List (List Op) → List Effect
all_effects presents = flat_map (λ es. es) (each_effects 0 presents)

-- the moves that are told: those of the shifts, in order
abbrev pub move_in : Effect → List Move
move_in (over r) = []
move_in (shifted m) = m ∷ []

abbrev pub moves_in : List Effect → List Move
moves_in es = flat_map move_in es

unfoldable pub moves : List (List Op) → List Move
moves presents = moves_in (all_effects presents)

-- where a point comes from: it was drawn, or kept from a place
pub data Origin : Type 0 where
  fresh : Origin
  kept : ℕ → ℕ → Origin

-- where a point comes from, one effect before
abbrev pub before : Effect → ℕ → ℕ → Origin
before (over r) x y = if has r x y then fresh else kept x y
before (shifted m) x y = if has m.dest x y then kept (source_x m x) (source_y m y) else kept x y

-- goes on backward from a place that was kept
abbrev pub back : Origin → (ℕ → ℕ → Origin) → Origin
back fresh earlier = fresh
back (kept x y) earlier = earlier x y

-- where a point comes from, the last effect undone first
abbrev pub origin : List Effect → ℕ → ℕ → Origin
origin [] x y = kept x y
origin (e ∷ es) x y = back (origin es x y) (before e)

abbrev pub is_touched : (ℕ → ℕ → Bool) → Origin → Bool
is_touched area fresh = true
is_touched area (kept x y) = area x y

-- the points that were drawn, or come from a point of the set
abbrev pub touched : (ℕ → ℕ → Bool) → List Effect → ℕ → ℕ → Bool
touched area es x y = is_touched area (origin es x y)

-- the points that were drawn
abbrev pub drawn_afresh : List Effect → ℕ → ℕ → Bool
drawn_afresh es = touched (λ x y. false) es

-- the points that the effects of one present more touch
unfoldable pub dirtied : Grid Bool → List Effect → Grid Bool
dirtied g es = grid g.width g.height (touched (is_in g) es)

-- the dirty points after one present more: rounded until their list is short enough
abbrev pub settled : Grid Bool → List Effect → Grid Bool
settled g es = coalesced (dirtied g es)

-- the dirty points of an interval, told by its presents
unfoldable pub dirt : ℕ → ℕ → List (List Op) → Grid Bool
dirt w h presents = fold settled (nowhere w h) (each_effects 0 presents)

-- a present's touched points have to be rounded
abbrev pub must_round : Grid Bool → List Effect → Bool
must_round g es = nat_lt 0 (power (dirtied g es))

-- those of some present had to be
abbrev pub rounds : Grid Bool → List (List Effect) → Bool
rounds g [] = false
rounds g (es ∷ ess) = must_round g es || rounds (settled g es) ess

unfoldable pub is_coalesced : ℕ → ℕ → List (List Op) → Bool
is_coalesced w h presents = rounds (nowhere w h) (each_effects 0 presents)

-- each operation of each present fits a surface
abbrev pub presents_fit : ℕ → ℕ → List (List Op) → Bool
presents_fit w h presents = list_all (λ ops. all_fit w h ops) presents

-- the points at which an operation draws: its rectangle, or its destination
abbrev pub reach : Op → Rect
reach (Fill rect colour) = rect
reach (Blit rect colours) = rect
reach (Cover rect colours) = rect
reach (Scroll mv) = mv.dest

-- whether some operation draws at a point
abbrev pub any_reaches : List (List Op) → ℕ → ℕ → Bool
any_reaches presents x y = list_any (λ ops. list_any (λ op. has (reach op) x y) ops) presents

-- What is touched after two lists of effects is what the second touches from what the first touched.
abbrev pub TouchedComposes : Type 0
TouchedComposes =
    (area : ℕ → ℕ → Bool) (a b : List Effect) (x y : ℕ)
    → touched (touched area a) b x y ≡ touched area (a ++ b) x y

-- Each point of the surface that the effects of an interval together draw afresh is dirty. Where no present had to be
-- rounded the dirty points are exactly these, and each of them lies in the rectangle or the destination of one of the
-- operations.
pub record IsHonest (w h : ℕ) (presents : List (List Op)) : Type 0 where
  pub whole :
      (x y : ℕ) → x < w → y < h → drawn_afresh (all_effects presents) x y ≡ true
      → is_in (dirt w h presents) x y ≡ true
  pub exact : is_coalesced w h presents ≡ false → dirt w h presents ≡ grid w h (drawn_afresh (all_effects presents))
  pub reached :
      is_coalesced w h presents ≡ false → (x y : ℕ) → is_in (dirt w h presents) x y ≡ true
      → any_reaches presents x y ≡ true

abbrev pub HonestDirt : Type 0
HonestDirt = (w h : ℕ) (presents : List (List Op)) → presents_fit w h presents ≡ true → IsHonest w h presents

-- the set after one effect
abbrev pub with_effect : Grid Bool → Effect → Grid Bool
with_effect g (over r) = with_rect g r
with_effect g (shifted m) = moved_over g m

-- a set with a cell for each point
abbrev pub IsWhole : Grid Bool → Type 0
IsWhole g = length g.cells ≡ g.width * g.height
