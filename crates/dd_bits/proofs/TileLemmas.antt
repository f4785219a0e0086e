-- What is rounded to tiles: where a tile has a point, the value at a point, and how tiles nest.
use Rattle.std.proofs.Common.{◌≡◌, ℕ, zero, suc, ◌+◌, ◌*◌, ◌/◌, ◌%◌, ◌<◌, ◌≤◌, Bool, true, false, length, refl, sym, ap, ◌∙◌, arith, inl, inr}
use Rattle.std.specs.List.{range_with_len, list_any}
use Rattle.std.proofs.Math.Nat.{div-one, div-div-eq-div-mul, div-eq_of_lt, mod-lt}
use Rattle.std.proofs.lemmas.Bool.{cases_lt, false≢true, or_cases, or_left, or_right}
use Rattle.std.proofs.lemmas.Nat.{div-add-mod', div-mul-add, mul-le}
use Rattle.dd_geom.specs.Grid.{Grid, grid}
use Rattle.dd_geom.proofs.GridLemmas.{length-cells, value_at-grid, value_at-right, value_at-below, grid_from_agree, grid-value_at}
use Rattle.dd_bits.specs.Area.{is_in}
use Rattle.dd_bits.specs.Tiles.{tile_has, tiles, TilesNest}

-- a test that holds at one of n numbers, from a on
pub record HoldsAt (f : ℕ → Bool) (a n : ℕ) : Type 0 where
  pub place : ℕ
  pub from : a ≤ place
  pub to : place < a + n
  pub holds : f place ≡ true

pub list_any-range :
    (f : ℕ → Bool) (n a k : ℕ) → a ≤ k → k < a + n → f k ≡ true → list_any f (range_with_len a n) ≡ true
list_any-range f zero a k l u e = absurd (omega arith)
list_any-range f (suc n) a k l u e =
    elim (cases_lt a k) [
      | inl b ↦ or_right (f a) _ (list_any-range f n (a + 1) k (omega arith) (omega arith) e)
      | inr b ↦ let same : a ≡ k = omega arith in or_left (f a) _ (ap f same ∙ e)
    ]

pub HoldsAt-range : (f : ℕ → Bool) (n a : ℕ) → list_any f (range_with_len a n) ≡ true → HoldsAt f a n
HoldsAt-range f zero a e = absurd (false≢true e)
HoldsAt-range f (suc n) a e =
    elim (or_cases (f a) _ e) [
      | inl h ↦ record { place = a; from = omega arith; to = omega arith; holds = h }
      | inr h ↦
          let rest = HoldsAt-range f n (a + 1) h in
          record {
            place = rest.place;
            from = omega (arith, rest.from);
            to = omega (arith, rest.to);
            holds = rest.holds;
          }
    ]

-- two tests that hold together are one
pub same_bool : (a b : Bool) → (a ≡ true → b ≡ true) → (b ≡ true → a ≡ true) → a ≡ b
same_bool true b h k = sym (h refl)
same_bool false true h k = k refl
same_bool false false h k = refl

-- a point of a set in a tile
pub record HasPoint (g : Grid Bool) (t across down : ℕ) : Type 0 where
  pub x : ℕ
  pub y : ℕ
  pub column : x / t ≡ across
  pub row : y / t ≡ down
  pub is : is_in g x y ≡ true

-- a tile has some point of the set
pub tile_has-from : (g : Grid Bool) (t i j : ℕ) → 1 ≤ t → tile_has g t i j ≡ true → HasPoint g t i j
tile_has-from g t i j some e =
    let down = HoldsAt-range (λ b. list_any (λ a. is_in g (i * t + a) (j * t + b)) (range_with_len 0 t)) t 0 e in
    let across = HoldsAt-range (λ a. is_in g (i * t + a) (j * t + down.place)) t 0 down.holds in
    record {
      x = i * t + across.place;
      y = j * t + down.place;
      column = div-mul-add i t across.place (omega (arith, across.to));
      row = div-mul-add j t down.place (omega (arith, down.to));
      is = across.holds;
    }

-- the tile of a point of the set has one
pub tile_has-to :
    (g : Grid Bool) (t i j x y : ℕ) → 1 ≤ t → x / t ≡ i → y / t ≡ j → is_in g x y ≡ true → tile_has g t i j ≡ true
tile_has-to g t i j x y some column row e =
    let a : i * t + x % t ≡ x = ap (λ n. n * t + x % t) (sym column) ∙ div-add-mod' x t in
    let b : j * t + y % t ≡ y = ap (λ n. n * t + y % t) (sym row) ∙ div-add-mod' y t in
    let u : x % t < t = mod-lt x (omega arith) in
    let v : y % t < t = mod-lt y (omega arith) in
    list_any-range (λ b. list_any (λ a. is_in g (i * t + a) (j * t + b)) (range_with_len 0 t)) t 0 (y % t)
    (omega arith) (omega arith)
    (list_any-range (λ a. is_in g (i * t + a) (j * t + y % t)) t 0 (x % t)
    (omega arith) (omega arith)
    (ap (λ n. is_in g n (j * t + y % t)) a ∙ ap (is_in g x) b ∙ e))

-- a point of a set is one of its surface
pub record IsOn (g : Grid Bool) (x y : ℕ) : Type 0 where
  pub across : x < g.width
  pub down : y < g.height

pub IsOn-from : (g : Grid Bool) (x y : ℕ) → is_in g x y ≡ true → IsOn g x y
IsOn-from g x y e =
    record {
      across = elim (cases_lt x g.width) [
        | inl a ↦ a
        | inr a ↦ absurd (false≢true (sym (value_at-right false g x y a) ∙ e))
      ];
      down = elim (cases_lt y g.height) [
        | inl a ↦ a
        | inr a ↦ absurd (false≢true (sym (value_at-below false g x y a) ∙ e))
      ];
    }

pub width-tiles : (t : ℕ) (g : Grid Bool) → (tiles t g).width ≡ g.width
unfolding tiles
width-tiles t g = refl

pub height-tiles : (t : ℕ) (g : Grid Bool) → (tiles t g).height ≡ g.height
unfolding tiles
height-tiles t g = refl

-- there are as many cells as points
pub whole-tiles : (t : ℕ) (g : Grid Bool) → length (tiles t g).cells ≡ (tiles t g).width * (tiles t g).height
unfolding tiles
whole-tiles t g = length-cells g.width g.height (λ x y. tile_has g t (x / t) (y / t))

-- a point of the surface is in the rounded set where its tile has a point
pub is_in-tiles :
    (t : ℕ) (g : Grid Bool) (x y : ℕ) → x < g.width → y < g.height
    → is_in (tiles t g) x y ≡ tile_has g t (x / t) (y / t)
unfolding tiles
is_in-tiles t g x y across down =
    value_at-grid false g.width g.height (λ x y. tile_has g t (x / t) (y / t)) x y across down

-- no point of the set is left out
pub in_tiles : (t : ℕ) (g : Grid Bool) (x y : ℕ) → 1 ≤ t → is_in g x y ≡ true → is_in (tiles t g) x y ≡ true
in_tiles t g x y some e =
    let on = IsOn-from g x y e in
    is_in-tiles t g x y on.across on.down ∙ tile_has-to g t (x / t) (y / t) x y some refl refl e

-- a point of the rounded set has a point of the set in its tile
pub tiles_has-from :
    (t : ℕ) (g : Grid Bool) (x y : ℕ) → 1 ≤ t → is_in (tiles t g) x y ≡ true → HasPoint g t (x / t) (y / t)
tiles_has-from t g x y some e =
    let on = IsOn-from (tiles t g) x y e in
    let across : x < g.width = omega (arith, on.across, width-tiles t g) in
    let down : y < g.height = omega (arith, on.down, height-tiles t g) in
    tile_has-from g t (x / t) (y / t) some (sym (is_in-tiles t g x y across down) ∙ e)

-- tiles of one point change nothing
pub tiles_one : (g : Grid Bool) → length g.cells ≡ g.width * g.height → tiles 1 g ≡ g
unfolding tiles
tiles_one g whole =
    grid_from_agree g.width g.height (λ x y. tile_has g 1 (x / 1) (y / 1)) (is_in g) (λ x y across down.
    same_bool (tile_has g 1 (x / 1) (y / 1)) (is_in g x y)
    (λ e.
    let p = tile_has-from g 1 (x / 1) (y / 1) (omega arith) e in
    let column : p.x ≡ x = sym (div-one p.x) ∙ p.column ∙ div-one x in
    let row : p.y ≡ y = sym (div-one p.y) ∙ p.row ∙ div-one y in
    ap (λ n. is_in g n y) (sym column) ∙ ap (is_in g p.x) (sym row) ∙ p.is)
    (tile_has-to g 1 (x / 1) (y / 1) x y (omega arith) refl refl))
    ∙ sym (grid-value_at false g whole)

one_tile : (x u w t : ℕ) → w ≤ t → x < w → u < w → x / t ≡ u / t
one_tile x u w t wide a b =
    let c : x < t = omega arith in
    let d : u < t = omega arith in
    div-eq_of_lt c ∙ sym (div-eq_of_lt d)

-- one tile over the whole surface: all of its points are in the rounded set, or none
pub tiles_all :
    (t : ℕ) (g : Grid Bool) (x y u v : ℕ) → g.width ≤ t → g.height ≤ t → x < g.width → y < g.height → u < g.width
    → v < g.height → is_in (tiles t g) x y ≡ is_in (tiles t g) u v
tiles_all t g x y u v wide high a b c d =
    let column : x / t ≡ u / t = one_tile x u g.width t wide a c in
    let row : y / t ≡ v / t = one_tile y v g.height t high b d in
    is_in-tiles t g x y a b ∙ ap (λ n. tile_has g t n (y / t)) column ∙ ap (tile_has g t (u / t)) row
    ∙ sym (is_in-tiles t g u v c d)

-- what lies in one small tile lies in one great tile
nested : (t n x y : ℕ) → x / t ≡ y / t → x / (t * n) ≡ y / (t * n)
nested t n x y e = sym (div-div-eq-div-mul x t n) ∙ ap (λ m. m / n) e ∙ div-div-eq-div-mul y t n

-- sets whose tiles have points alike are rounded alike
tiles_from_agree :
    (t : ℕ) (g h : Grid Bool) → h.width ≡ g.width → h.height ≡ g.height
    → ((i j : ℕ) → tile_has h t i j ≡ tile_has g t i j) → tiles t h ≡ tiles t g
unfolding tiles
tiles_from_agree t g h wide high same =
    let f : Grid Bool → ℕ → ℕ → Bool = λ g x y. tile_has g t (x / t) (y / t) in
    ap (λ n. grid n h.height (f h)) wide ∙ ap (λ n. grid g.width n (f h)) high
    ∙ grid_from_agree g.width g.height (f h) (f g) (λ x y a b. same (x / t) (y / t))

-- a great tile of a set that was rounded to small ones has a point where it has one of the set
tile_has-tiles :
    (g : Grid Bool) (t n i j : ℕ) → 1 ≤ t → 1 ≤ t * n → tile_has (tiles t g) (t * n) i j ≡ tile_has g (t * n) i j
tile_has-tiles g t n i j small great =
    same_bool (tile_has (tiles t g) (t * n) i j) (tile_has g (t * n) i j)
    (λ e.
    let p = tile_has-from (tiles t g) (t * n) i j great e in
    let q = tiles_has-from t g p.x p.y small p.is in
    tile_has-to g (t * n) i j q.x q.y great
    (nested t n q.x p.x q.column ∙ p.column)
    (nested t n q.y p.y q.row ∙ p.row)
    q.is)
    (λ e.
    let p = tile_has-from g (t * n) i j great e in
    tile_has-to (tiles t g) (t * n) i j p.x p.y great p.column p.row (in_tiles t g p.x p.y small p.is))

pub tiles-tiles : TilesNest
tiles-tiles g t n small more =
    let great : 1 ≤ t * n = omega (arith, mul-le 1 1 t n small more) in
    tiles_from_agree (t * n) g (tiles t g) (width-tiles t g) (height-tiles t g)
    (λ i j. tile_has-tiles g t n i j small great)
