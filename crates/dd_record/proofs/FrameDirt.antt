-- The dirty rectangles of a frame: at most 64, each inside the surface, and the canonical list of their points.
use Rattle.std.proofs.Common.{◌≡◌, ℕ, ◌+◌, ◌*◌, ◌^◌, ◌≤◌, Bool, true, false, ◌||◌, cond, nat_lt, if◌then◌else◌, count_by, List, [], ◌∷◌, length, IsTrue, fold, zero-add, refl, sym, ap, ◌∙◌, arith}
use Rattle.std.specs.List.{AllByRecursion, list_any}
use Rattle.std.proofs.lemmas.Bool.{lt-ltb, leb-true}
use Rattle.std.proofs.lemmas.List.Elements.{All-weaker, recursion_from_All}
use Rattle.std.proofs.lemmas.List.Sums.{sum_by-cons}
use Rattle.dd_geom.specs.declared.rect.Rect.{Rect}
use Rattle.dd_geom.specs.declared.rect.TheConstants.{MOVE_BYTES, RECT_BYTES}
use Rattle.dd_geom.specs.Rect.{IsSize, FitsSides, has, is_inside}
use Rattle.dd_geom.specs.Grid.{Grid}
use Rattle.dd_geom.proofs.GridLemmas.{length-cells, value_at-grid, same_grids}
use Rattle.dd_bits.specs.Area.{IsArea, is_in, nowhere}
use Rattle.dd_bits.specs.CanonicalList.{canonical_list}
use Rattle.dd_bits.specs.Tiles.{tiles}
use Rattle.dd_bits.proofs.Cover.{All-canonical_list, count_by-canonical_list}
use Rattle.dd_bits.proofs.TileLemmas.{width-tiles, height-tiles, whole-tiles}
use Rattle.dd_coal.specs.declared.coalescing.TheConstants.{MAX_RECTS}
use Rattle.dd_coal.specs.Power.{power, coalesced}
use Rattle.dd_coal.proofs.Least.{least}
use Rattle.dd_ops.specs.declared.operations.Op.{Op}
use Rattle.dd_acc.specs.Effects.{Effect, each_effects, moves, dirtied, settled, dirt, is_coalesced, IsWhole}
use Rattle.dd_acc.proofs.Nowhere.{list-nowhere}
use Rattle.dd_acc.proofs.Honest.{width-dirt, height-dirt, whole-dirt}
use Rattle.dd_acc.proofs.Origins.{width-dirtied, height-dirtied, whole-dirtied, whole-nowhere}
use Rattle.dd_record.specs.Dirt.{covered_by}
use Rattle.dd_record.proofs.FrameMoves.{sides_fit}

-- ---- few

-- what a present touches, and what is rounded, are sets of the same surface
IsArea-dirtied : (g : Grid Bool) (es : List Effect) → IsArea g → IsArea (dirtied g es)
IsArea-dirtied g es area =
    record { size = rw (width-dirtied g es, height-dirtied g es) area.size; whole = whole-dirtied g es }

IsArea-tiles : (t : ℕ) (g : Grid Bool) → IsArea g → IsArea (tiles t g)
IsArea-tiles t g area = record { size = rw (width-tiles t g, height-tiles t g) area.size; whole = whole-tiles t g }

-- a list as short as a frame's
abbrev IsFew : Grid Bool → Type 0
IsFew g = length (canonical_list g) ≤ MAX_RECTS

-- after each present it is one
few_settled : (ess : List (List Effect)) (g : Grid Bool) → IsArea g → IsFew g → IsFew (fold settled g ess)
few_settled [] g area few = few
few_settled (es ∷ ess) g area few =
    let d : Grid Bool = dirtied g es in
    let now : IsArea d = IsArea-dirtied g es area in
    few_settled ess (coalesced d) (IsArea-tiles (2 ^ power d) d now)
    (leb-true (length (canonical_list (coalesced d))) MAX_RECTS (least d now).short)

pub few_rects : (w h : ℕ) (ps : List (List Op)) → IsSize w h → length (canonical_list (dirt w h ps)) ≤ MAX_RECTS
unfolding dirt
few_rects w h ps size =
    let none : length (canonical_list (nowhere w h)) ≡ 0 = ap length (list-nowhere w h) in
    few_settled (each_effects 0 ps) (nowhere w h) (record { size = size; whole = whole-nowhere w h })
    (omega (arith, none))

-- ---- inside

pub rects_inside : (w h : ℕ) (ps : List (List Op)) → IsSize w h
    → AllByRecursion (λ r. FitsSides r × IsTrue (is_inside r w h)) (canonical_list (dirt w h ps))
rects_inside w h ps size =
    let g : Grid Bool = dirt w h ps in
    let same : (r : Rect) → is_inside r g.width g.height ≡ is_inside r w h =
    λ r. ap (λ n. is_inside r n g.height) (width-dirt w h ps) ∙ ap (is_inside r w) (height-dirt w h ps) in
    recursion_from_All (λ r. FitsSides r × IsTrue (is_inside r w h)) (canonical_list g)
    (All-weaker (λ r. IsTrue (is_inside r g.width g.height)) (λ r. FitsSides r × IsTrue (is_inside r w h))
    (λ r i. (sides_fit r w h size (sym (same r) ∙ i), sym (same r) ∙ i)) (canonical_list g) (All-canonical_list g))

-- ---- the canonical list of their points

one_more : (b : Bool) (n : ℕ) → (b || nat_lt 0 n) ≡ nat_lt 0 (cond b 1 0 + n)
one_more true n = sym (lt-ltb 0 (1 + n) (omega arith))
one_more false n = ap (nat_lt 0) (sym (zero-add n))

-- a point lies in some rectangle where more than none of them has it
any_counted : (p : Rect → Bool) (rs : List Rect) → list_any p rs ≡ nat_lt 0 (count_by p rs)
any_counted p [] = refl
any_counted p (r ∷ rs) =
    ap (λ b. p r || b) (any_counted p rs) ∙ one_more (p r) (count_by p rs)
    ∙ ap (nat_lt 0) (sym (sum_by-cons (λ s. cond (p s) 1 0) r rs))

some_once : (b : Bool) → nat_lt 0 (if b then 1 else 0) ≡ b
some_once true = refl
some_once false = refl

any_listed : (g : Grid Bool) (x y : ℕ) → list_any (λ r. has r x y) (canonical_list g) ≡ is_in g x y
any_listed g x y =
    any_counted (λ r. has r x y) (canonical_list g) ∙ ap (nat_lt 0) (count_by-canonical_list g x y)
    ∙ some_once (is_in g x y)

-- the points in a set's list are the set
covered_is : (w h : ℕ) (g : Grid Bool) → g.width ≡ w → g.height ≡ h → IsWhole g → covered_by w h (canonical_list g) ≡ g
covered_is w h g wide high whole =
    let f : ℕ → ℕ → Bool = λ x y. list_any (λ r. has r x y) (canonical_list g) in
    same_grids false (covered_by w h (canonical_list g)) g (length-cells w h f) whole (sym wide) (sym high)
    (λ x y across down. value_at-grid false w h f x y across down ∙ any_listed g x y)

pub dirt_listed : (w h : ℕ) (ps : List (List Op))
    → canonical_list (dirt w h ps) ≡ canonical_list (covered_by w h (canonical_list (dirt w h ps)))
dirt_listed w h ps =
    ap canonical_list
    (sym (covered_is w h (dirt w h ps) (width-dirt w h ps) (height-dirt w h ps) (whole-dirt w h ps)))

-- ---- without presents

-- nothing had to be rounded
pub coalesced_some : (w h : ℕ) (ps : List (List Op)) → is_coalesced w h ps ≡ true → 1 ≤ length ps
unfolding is_coalesced
coalesced_some w h [] t = cc
coalesced_some w h (ops ∷ ps) t = omega arith

-- and there are no moves and no rectangles
pub news_some : (w h : ℕ) (ps : List (List Op))
    → 1 ≤ MOVE_BYTES * length (moves ps) + RECT_BYTES * length (canonical_list (dirt w h ps)) → 1 ≤ length ps
unfolding moves dirt
news_some w h [] some =
    let none : length (canonical_list (nowhere w h)) ≡ 0 = ap length (list-nowhere w h) in
    absurd (omega (arith, none, some))
news_some w h (ops ∷ ps) some = omega arith
