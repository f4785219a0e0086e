-- The least power, found from the first on, and that 13 is always enough.
use Rattle.std.proofs.Common.{◌≡◌, ℕ, zero, suc, ◌+◌, ◌*◌, ◌/◌, ◌%◌, ◌^◌, ◌<◌, ◌≤◌, Bool, true, false, ◌&&◌, ltb, length, refl, sym, ap, ◌∙◌, if◌then◌else◌, arith, inl, inr, ◌⊎◌, ⊎_elim, add-one}
use Rattle.std.proofs.Math.Nat.{pow-suc, mod-lt}
use Rattle.std.proofs.lemmas.Nat.{div-add-mod'}
use Rattle.std.proofs.lemmas.Bool.{cases_lt, le-leb, leb-true, lt-leb, ltb-true, ltb-false, and_parts, and_cases}
use Rattle.dd_geom.specs.Grid.{Grid}
use Rattle.dd_bits.specs.Area.{is_in, IsArea}
use Rattle.dd_bits.specs.CanonicalList.{canonical_list}
use Rattle.dd_bits.specs.Tiles.{tiles}
use Rattle.dd_bits.proofs.TileLemmas.{HasPoint, in_tiles, tiles_has-from, tiles_one, tiles_all, tiles-tiles, width-tiles, height-tiles}
use Rattle.dd_coal.specs.declared.coalescing.TheConstants.{MAX_RECTS, MAX_POWER}
use Rattle.dd_coal.specs.Power.{rounded_to, is_short, least_power_from, power, LeastPower, KeepsPoints, HasNear, StaysNear}
use Rattle.dd_coal.proofs.Short.{short_list}

-- no power from j up to r - 1 is enough
abbrev pub NoneShort : Grid Bool → ℕ → ℕ → Type 0
NoneShort g j r = (i : ℕ) → j ≤ i → i < r → is_short (rounded_to i g) ≡ false

-- what the search from j on finds
record IsFound (g : Grid Bool) (j n r : ℕ) : Type 0 where
  from : j ≤ r
  bound : r ≤ j + n
  none : NoneShort g j r
  end : (r ≡ j + n) ⊎ (is_short (rounded_to r g) ≡ true)

found_here : (g : Grid Bool) (j n : ℕ) → (j ≡ j + n) ⊎ (is_short (rounded_to j g) ≡ true) → IsFound g j n j
found_here g j n end =
    record { from = omega arith; bound = omega arith; none = λ i a b. absurd (omega arith); end = end }

found_later : (g : Grid Bool) (j n r : ℕ) → is_short (rounded_to j g) ≡ false → IsFound g (j + 1) n r
    → IsFound g j (suc n) r
found_later g j n r short f = record {
  from = omega (arith, f.from);
  bound = omega (arith, f.bound);
  none = λ i a b. ⊎_elim
      (λ (later : j < i). f.none i (omega arith) b)
      (λ (here : i ≤ j). ap (λ k. is_short (rounded_to k g)) (omega (arith, a)) ∙ short)
      (cases_lt j i);
  end = ⊎_elim
      (λ (e : r ≡ j + 1 + n). inl (omega (arith, e)))
      (λ (e : is_short (rounded_to r g) ≡ true). inr e)
      f.end;
}

found : (g : Grid Bool) (n j : ℕ) → IsFound g j n (least_power_from g j n)
unfolding least_power_from
found g zero j = found_here g j 0 (inl (omega arith))
found g (suc n) j =
    let P : Bool → Type 0 = λ b. is_short (rounded_to j g) ≡ b
    → IsFound g j (suc n) (if b then j else least_power_from g (j + 1) n) in
    let cases : (b : Bool) → P b = λ b. elim b as P [
      | true ↦ λ e. found_here g j (suc n) (inr e)
      | false ↦ λ e. found_later g j n _ e (found g n (j + 1))
    ] in
    cases (is_short (rounded_to j g)) refl

-- it is the one power that is enough, or the last, with none before it
unique : (g : Grid Bool) (n r s : ℕ) → IsFound g 0 n r → s ≤ n → NoneShort g 0 s
    → (s ≡ n) ⊎ (is_short (rounded_to s g) ≡ true) → r ≡ s
unique g n r s f le none end = ⊎_elim
    (λ (a : r < s). ⊎_elim
    (λ (e : r ≡ 0 + n). absurd (omega (arith, a, e, le)))
    (λ (e : is_short (rounded_to r g) ≡ true). absurd (let u : true ≡ false = sym e ∙ none r (omega arith) a in cc))
    f.end)
    (λ (b : s ≤ r). ⊎_elim
    (λ (c : s < r). ⊎_elim
    (λ (e : s ≡ n). absurd (omega (arith, f.bound, e, c)))
    (λ (e : is_short (rounded_to s g) ≡ true). absurd (let u : true ≡ false = sym e ∙ f.none s (omega arith) c in cc))
    end)
    (λ (d : r ≤ s). omega (arith, b, d))
    (cases_lt s r))
    (cases_lt r s)

pub power_is : (g : Grid Bool) (s : ℕ) → s ≤ MAX_POWER → NoneShort g 0 s
    → (s ≡ MAX_POWER) ⊎ (is_short (rounded_to s g) ≡ true) → power g ≡ s
unfolding power
power_is g s le none end = unique g MAX_POWER (least_power_from g 0 MAX_POWER) s (found g MAX_POWER 0) le none end

-- a tile of the greatest side covers every surface
one_value : (g : Grid Bool) → IsArea g → (x y : ℕ) → x < g.width → y < g.height → is_in (rounded_to MAX_POWER g) x y
    ≡ is_in (rounded_to MAX_POWER g) 0 0
one_value g area x y a b =
    tiles_all (2 ^ MAX_POWER) g x y 0 0 area.size.width area.size.height a b area.size.wide area.size.high

pub short_at_last : (g : Grid Bool) → IsArea g → is_short (rounded_to MAX_POWER g) ≡ true
short_at_last g area =
    let r : Grid Bool = rounded_to MAX_POWER g in
    let few : length (canonical_list r) ≤ 1 = short_list r (is_in r 0 0) (λ x y a b.
    one_value g area x y (rw (← width-tiles (2 ^ MAX_POWER) g) a) (rw (← height-tiles (2 ^ MAX_POWER) g) b)) in
    le-leb _ MAX_RECTS (omega (arith, few))

pub least : LeastPower
unfolding power
least g area =
    let f : IsFound g 0 MAX_POWER (power g) = found g MAX_POWER 0 in
    record {
      short = ⊎_elim
          (λ (e : power g ≡ 0 + MAX_POWER). ap (λ n. is_short (rounded_to n g)) e ∙ short_at_last g area)
          (λ (e : is_short (rounded_to (power g) g) ≡ true). e)
          f.end;
      least = λ i l. f.none i (omega arith) l;
      bound = omega (arith, f.bound);
    }

-- a power of two is some
pub some_power : (j : ℕ) → 1 ≤ 2 ^ j
some_power zero = omega arith
some_power (suc j) = omega (arith, some_power j)

pub keeps_points : KeepsPoints
keeps_points g x y e = in_tiles (2 ^ power g) g x y (some_power (power g)) e

-- the set itself is rounded to tiles of side 1
pub first_rounded : (g : Grid Bool) → length g.cells ≡ g.width * g.height → g ≡ rounded_to 0 g
first_rounded g whole = sym (tiles_one g whole)

-- one power more
double : (j : ℕ) → 2 ^ (j + 1) ≡ 2 ^ j * 2
double j = ap (λ n. 2 ^ n) (add-one j) ∙ pow-suc 2 j

pub next_rounded : (g area : Grid Bool) (j : ℕ) → area ≡ rounded_to j g → tiles (2 ^ (j + 1)) area
    ≡ rounded_to (j + 1) g
next_rounded g area j e =
    ap (tiles (2 ^ (j + 1))) e
    ∙ (ap (λ n. tiles n (tiles (2 ^ j) g)) (double j)
    ∙ (tiles-tiles g (2 ^ j) 2 (some_power j) (omega arith)
    ∙ ap (λ n. tiles n g) (sym (double j))))

pub none_more : (g area : Grid Bool) (j : ℕ) → area ≡ rounded_to j g → MAX_RECTS < length (canonical_list area)
    → NoneShort g 0 j → NoneShort g 0 (j + 1)
none_more g area j e long none i a b = ⊎_elim
    (λ (before : i < j). none i a before)
    (λ (here : j ≤ i). ap (λ k. is_short (rounded_to k g)) (omega (arith, b))
    ∙ (ap is_short (sym e) ∙ lt-leb _ MAX_RECTS long))
    (cases_lt i j)

-- what the test of going up says: a greater power is left, and the list is too long
pub goes_on :
    (power long : ℕ) (r : Bool) → r ≡ (ltb power MAX_POWER && ltb MAX_RECTS long) → r ≡ true
    → (power < MAX_POWER) × (MAX_RECTS < long)
goes_on power long r e t =
    let both = and_parts (ltb power MAX_POWER) (ltb MAX_RECTS long) (sym e ∙ t) in
    (ltb-true power MAX_POWER both.0, ltb-true MAX_RECTS long both.1)

pub stops :
    (power long : ℕ) (r : Bool) → r ≡ (ltb power MAX_POWER && ltb MAX_RECTS long) → r ≡ false
    → (MAX_POWER ≤ power) ⊎ (long ≤ MAX_RECTS)
stops power long r e t = ⊎_elim
    (λ (last : ltb power MAX_POWER ≡ false). inl (ltb-false power MAX_POWER last))
    (λ (few : ltb MAX_RECTS long ≡ false). inr (ltb-false MAX_RECTS long few))
    (and_cases (ltb power MAX_POWER) (ltb MAX_RECTS long) (sym e ∙ t))

-- what the search ends at is the least power, and the list is short
pub record IsEnded (g area : Grid Bool) (p : ℕ) : Type 0 where
  pub power : power g ≡ p
  pub few : length (canonical_list area) ≤ MAX_RECTS

short_from : (g area : Grid Bool) (p : ℕ) → area ≡ rounded_to p g → is_short (rounded_to p g) ≡ true
    → length (canonical_list area) ≤ MAX_RECTS
short_from g area p e t = leb-true _ MAX_RECTS (ap is_short e ∙ t)

pub ended :
    (g area : Grid Bool) (p : ℕ) → IsArea g → area ≡ rounded_to p g → NoneShort g 0 p → p ≤ MAX_POWER
    → (MAX_POWER ≤ p) ⊎ (length (canonical_list area) ≤ MAX_RECTS) → IsEnded g area p
ended g area p is_area e none bound (inl last) =
    let at_last : p ≡ MAX_POWER = omega (arith, bound, last) in
    record {
      power = power_is g p bound none (inl at_last);
      few = short_from g area p e (ap (λ n. is_short (rounded_to n g)) at_last ∙ short_at_last g is_area);
    }
ended g area p is_area e none bound (inr few) =
    record {
      power = power_is g p bound none (inr (ap is_short (sym e) ∙ le-leb _ MAX_RECTS few));
      few = few;
    }

-- a point of a tile is near each other point of it
near : (x a t : ℕ) → 1 ≤ t → a / t ≡ x / t → x < a + t
near x a t some same =
    let here : x / t * t + x % t ≡ x = div-add-mod' x t in
    let there : a / t * t + a % t ≡ a = div-add-mod' a t in
    let tiles : a / t * t ≡ x / t * t = ap (λ n. n * t) same in
    let below : x % t < t = mod-lt x (omega arith) in
    omega (arith, here, there, tiles, below)

near_from : (g : Grid Bool) (t x y : ℕ) → 1 ≤ t → HasPoint g t (x / t) (y / t) → HasNear g t x y
near_from g t x y some p = record {
  a = p.x;
  b = p.y;
  within = p.is;
  right = near x p.x t some p.column;
  left = near p.x x t some (sym p.column);
  below = near y p.y t some p.row;
  above = near p.y y t some (sym p.row);
}

pub stays_near : StaysNear
stays_near g x y e =
    near_from g (2 ^ power g) x y (some_power (power g)) (tiles_has-from (2 ^ power g) g x y (some_power (power g)) e)
