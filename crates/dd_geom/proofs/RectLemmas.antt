-- The points of a rectangle: on a surface, and where two of them meet.
use Rattle.std.proofs.Common.{◌≡◌, ℕ, Bool, true, false, ◌&&◌, ℤ, pos, negsuc, nat_le, nat_lt, int_le, int_lt, refl, ap, inl, inr, ◌∙◌, sym, arith, ◌≤◌, ◌+◌, ◌-◌, ◌+ℤ◌, ◌-ℤ◌, ◌≤ℤ◌}
use Rattle.std.specs.Int.{int_max, int_min}
use Rattle.std.proofs.lemmas.Bool.{and_cases, and_left, and_right, and_parts}
use Rattle.std.proofs.lemmas.Bool.Decides.{nat_tests}
use Rattle.std.proofs.lemmas.Int.{ints}
use Rattle.dd_geom.specs.Rect.{place, covers, HasIsCovers, CoversBoth, AreApart, meet_of, sides, spans_inside, is_inside, AreInside, is_move_inside, source_rect}
use Rattle.dd_geom.specs.declared.rect.Rect.{Rect}
use Rattle.dd_geom.specs.declared.rect.Move.{Move}

pub and_assoc : (a b c : Bool) → (a && b && c) ≡ (a && (b && c))
and_assoc true b c = refl
and_assoc false b c = refl

nat_le-place : (z : ℤ) (x : ℕ) → nat_le (place z) x ≡ int_le z (pos x)
nat_le-place (pos n) x = refl
nat_le-place (negsuc n) x = grind arith

nat_lt-place : (z : ℤ) (x : ℕ) → nat_lt x (place z) ≡ int_lt (pos x) z
nat_lt-place (pos n) x = refl
nat_lt-place (negsuc n) x = grind arith

pub has_is_covers : HasIsCovers
has_is_covers r x y =
    ap (λ b. b && nat_lt x (place r.right) && nat_le (place r.top) y && nat_lt y (place r.bottom))
    (nat_le-place r.left x)
    ∙ (ap (λ b. int_le r.left (pos x) && b && nat_le (place r.top) y && nat_lt y (place r.bottom))
    (nat_lt-place r.right x)
    ∙ (ap (λ b. int_le r.left (pos x) && int_lt (pos x) r.right && b && nat_lt y (place r.bottom))
    (nat_le-place r.top y)
    ∙ ap (λ b. int_le r.left (pos x) && int_lt (pos x) r.right && int_le r.top (pos y) && b) (nat_lt-place r.bottom y)))

-- at or past the later of two is at or past both; before the earlier of two is before both
pub int_le-max : (a b x : ℤ) → int_le (int_max a b) x ≡ (int_le a x && int_le b x)
int_le-max a b x = grind (arith, ints)

pub int_lt-min : (a b x : ℤ) → int_lt x (int_min a b) ≡ (int_lt x a && int_lt x b)
int_lt-min a b x = grind (arith, ints)

and_swap : (a p b q : Bool) → ((a && p) && (b && q)) ≡ ((a && b) && (p && q))
and_swap true true b q = refl
and_swap true false true q = refl
and_swap true false false q = refl
and_swap false p b q = refl

regroup : (a b c d p q r s : Bool) → ((a && p) && (b && q) && (c && r) && (d && s))
    ≡ ((a && b && c && d) && (p && q && r && s))
regroup a b c d p q r s =
    ap (λ t. t && (c && r) && (d && s)) (and_swap a p b q)
    ∙ (ap (λ t. t && (d && s)) (and_swap (a && b) (p && q) c r) ∙ and_swap (a && b && c) (p && q && r) d s)

pub CoversBoth-meet_of : (a b : Rect) → CoversBoth (meet_of a b) a b
CoversBoth-meet_of a b x y =
    ap
    (λ t. t && int_lt x (int_min a.right b.right) && int_le (int_max a.top b.top) y
    && int_lt y (int_min a.bottom b.bottom)) (int_le-max a.left b.left x)
    ∙ (ap
    (λ t. (int_le a.left x && int_le b.left x) && t && int_le (int_max a.top b.top) y
    && int_lt y (int_min a.bottom b.bottom)) (int_lt-min a.right b.right x)
    ∙ (ap
    (λ t. (int_le a.left x && int_le b.left x) && (int_lt x a.right && int_lt x b.right) && t
    && int_lt y (int_min a.bottom b.bottom)) (int_le-max a.top b.top y)
    ∙ (ap
    (λ t. (int_le a.left x && int_le b.left x) && (int_lt x a.right && int_lt x b.right)
    && (int_le a.top y && int_le b.top y) && t) (int_lt-min a.bottom b.bottom y)
    ∙ regroup (int_le a.left x) (int_lt x a.right) (int_le a.top y) (int_lt y a.bottom) (int_le b.left x)
    (int_lt x b.right) (int_le b.top y) (int_lt y b.bottom))))

-- a rectangle whose sides leave no room covers nothing
no_room : (from to x : ℤ) → int_lt from to ≡ false → (int_le from x && int_lt x to) ≡ false
no_room from to x e = grind (arith, ints)

covers_none :
    (r : Rect) (x y : ℤ) → (int_lt r.left r.right && int_lt r.top r.bottom) ≡ false → covers r x y ≡ false
covers_none r x y e =
    elim (and_cases _ _ e) [
      | inl across ↦
          and_left _ _ (and_left _ _ (no_room r.left r.right x across))
      | inr down ↦
          and_assoc (int_le r.left x && int_lt x r.right) (int_le r.top y) (int_lt y r.bottom)
          ∙ and_right _ _ (no_room r.top r.bottom y down)
    ]

pub AreApart-meet_of :
    (a b : Rect) → (int_lt (meet_of a b).left (meet_of a b).right && int_lt (meet_of a b).top (meet_of a b).bottom)
    ≡ false
    → AreApart a b
AreApart-meet_of a b e x y = sym (CoversBoth-meet_of a b x y) ∙ covers_none (meet_of a b) x y e

-- the same, of a rectangle that is known to be that one
pub CoversBoth-met : (r a b : Rect) → r ≡ meet_of a b → CoversBoth r a b
CoversBoth-met r a b e x y = ap (λ n. covers n x y) e ∙ CoversBoth-meet_of a b x y

pub AreApart-met :
    (r a b : Rect) → r ≡ meet_of a b → (int_lt r.left r.right && int_lt r.top r.bottom) ≡ false → AreApart a b
AreApart-met r a b e none =
    AreApart-meet_of a b (ap (λ (n : Rect). int_lt n.left n.right && int_lt n.top n.bottom) (sym e) ∙ none)

-- a span inside as places
span_places : (from to : ℤ) (n : ℕ) → spans_inside from to n ≡ true → (place from ≤ place to) × (place to ≤ n)
span_places (pos a) (pos b) n e = (grind (arith, nat_tests), grind (arith, nat_tests))
span_places (pos a) (negsuc b) n e = absurd (grind (arith, nat_tests))
span_places (negsuc a) to n e = absurd (grind (arith, nat_tests))

-- the sides of a rectangle that lies inside lie inside
pub AreInside-sides : (r : Rect) (w h : ℕ) → is_inside r w h ≡ true → AreInside (sides r) w h
AreInside-sides r w h e =
    let both = and_parts (spans_inside r.left r.right w) (spans_inside r.top r.bottom h) e in
    let x = span_places r.left r.right w both.0 in
    let y = span_places r.top r.bottom h both.1 in
    record { across = x.0; down = y.0; right = x.1; bottom = y.1 }

-- a span of the same length that lies inside too, from a place of its own
source_places :
    (at from to : ℤ) (n m : ℕ) → spans_inside from to n ≡ true → spans_inside at (at +ℤ (to -ℤ from)) m ≡ true
    → place at + (place to - place from) ≤ m
source_places (pos k) (pos a) (pos b) n m span e =
    let ordered : a ≤ b = (span_places (pos a) (pos b) n span).0 in
    let end = pos k +ℤ (pos b -ℤ pos a) in
    let parts = and_parts (int_le (pos 0) (pos k) && int_lt (pos k) end) (int_le end (pos m)) e in
    let within : (pos k +ℤ (pos b -ℤ pos a)) ≤ℤ pos m = grind (arith, ints) in
    let reach : k + (b - a) ≤ m = omega (arith, ints) in
    reach
source_places at (negsuc a) to n m span e = absurd (grind (arith, nat_tests))
source_places at (pos a) (negsuc b) n m span e = absurd (grind (arith, nat_tests))
source_places (negsuc k) (pos a) (pos b) n m span e = absurd (grind (arith, nat_tests))

-- a move that lies inside, as places: where it copies to, and how far its source reaches
pub record IsMoveInside (m : Move) (w h : ℕ) : Type 0 where
  pub dest : AreInside (sides m.dest) w h
  pub across : place m.source.x + (place m.dest.right - place m.dest.left) ≤ w
  pub down : place m.source.y + (place m.dest.bottom - place m.dest.top) ≤ h

pub IsMoveInside-test : (m : Move) (w h : ℕ) → is_move_inside m w h ≡ true → IsMoveInside m w h
IsMoveInside-test m w h e =
    let from = source_rect m in
    let both = and_parts (is_inside m.dest w h) (is_inside from w h) e in
    let dest = and_parts (spans_inside m.dest.left m.dest.right w) (spans_inside m.dest.top m.dest.bottom h) both.0 in
    let source = and_parts (spans_inside from.left from.right w) (spans_inside from.top from.bottom h) both.1 in
    record {
      dest = AreInside-sides m.dest w h both.0;
      across = source_places m.source.x m.dest.left m.dest.right w w dest.0 source.0;
      down = source_places m.source.y m.dest.top m.dest.bottom h h dest.1 source.1;
    }
