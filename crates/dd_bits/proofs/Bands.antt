-- Rows that have the same points, and the bands that they make.
use Rattle.std.proofs.Common.{◌≡◌, ◌≢◌, ℕ, zero, suc, ◌+◌, ◌-◌, ◌<◌, ◌≤◌, List, [], ◌++◌, Bool, true, false, not, length, refl, sym, ap, ◌∙◌, arith, append_assoc, inl, inr}
use Rattle.std.proofs.Math.Path.{fun_ext}
use Rattle.std.proofs.lemmas.List.{append-nil, same_lists, get_or_default}
use Rattle.std.proofs.lemmas.Bool.{cases_lt, cond-true, cond-false, false≢true, lt-ltb, and_from, and_parts}
use Rattle.std.specs.List.{flat_map, range_with_len, list_all}
use Rattle.dd_geom.specs.declared.rect.Rect.{Rect}
use Rattle.dd_geom.specs.Grid.{Grid, row}
use Rattle.dd_geom.proofs.GridLemmas.{value_at-right}
use Rattle.dd_bits.specs.Area.{is_in}
use Rattle.dd_bits.specs.CanonicalList.{row_runs, is_marked, alike, same_rows, starts_band, band_end, band_at, canonical_list}
use Rattle.dd_bits.proofs.RunEnd.{IsEnd, run_end-IsEnd}
use Rattle.dd_bits.proofs.RowRuns.{not_true, row_runs-row, is_marked-row, run_end_is, run_end-stop}

alike-same : (a b : Bool) → alike a b ≡ true → a ≡ b
alike-same true b e = sym e
alike-same false true e = absurd (false≢true e)
alike-same false false e = refl

same-alike : (a b : Bool) → a ≡ b → alike a b ≡ true
same-alike true b e = sym e
same-alike false b e = ap not (sym e)

all_in_range :
    (p : ℕ → Bool) (n a x : ℕ) → list_all p (range_with_len a n) ≡ true → a ≤ x → x < a + n → p x ≡ true
all_in_range p zero a x e l u = absurd (omega arith)
all_in_range p (suc n) a x e l u =
    let parts = and_parts (p a) (list_all p (range_with_len (a + 1) n)) e in
    elim (cases_lt a x) [
      | inl b ↦ all_in_range p n (a + 1) x parts.1 (omega arith) (omega arith)
      | inr b ↦ let same : a ≡ x = omega arith in ap p (sym same) ∙ parts.0
    ]

all_from_range :
    (p : ℕ → Bool) (n a : ℕ) → ((x : ℕ) → a ≤ x → x < a + n → p x ≡ true) → list_all p (range_with_len a n) ≡ true
all_from_range p zero a h = refl
all_from_range p (suc n) a h =
    and_from (p a) (list_all p (range_with_len (a + 1) n)) (h a (omega arith) (omega arith))
    (all_from_range p n (a + 1) (λ x l u. h x (omega arith) (omega arith)))

-- rows are the same where they agree at each column
pub same_rows-at : (g : Grid Bool) (y z : ℕ) → same_rows g y z ≡ true → (x : ℕ) → is_in g x y ≡ is_in g x z
unfolding same_rows
same_rows-at g y z e x =
    elim (cases_lt x g.width) [
      | inl a ↦
          alike-same (is_in g x y) (is_in g x z)
          (all_in_range (λ c. alike (is_in g c y) (is_in g c z)) g.width 0 x e (omega arith) (omega arith))
      | inr a ↦ value_at-right false g x y a ∙ sym (value_at-right false g x z a)
    ]

pub same_rows-from :
    (g : Grid Bool) (y z : ℕ) → ((x : ℕ) → x < g.width → is_in g x y ≡ is_in g x z) → same_rows g y z ≡ true
unfolding same_rows
same_rows-from g y z h =
    all_from_range (λ c. alike (is_in g c y) (is_in g c z)) g.width 0
    (λ x l u. same-alike (is_in g x y) (is_in g x z) (h x (omega arith)))

pub same_rows-refl : (g : Grid Bool) (y : ℕ) → same_rows g y y ≡ true
same_rows-refl g y = same_rows-from g y y (λ x l. refl)

pub same_rows-sym : (g : Grid Bool) (y z : ℕ) → same_rows g y z ≡ true → same_rows g z y ≡ true
same_rows-sym g y z e = same_rows-from g z y (λ x l. sym (same_rows-at g y z e x))

pub same_rows-trans :
    (g : Grid Bool) (y z r : ℕ) → same_rows g y z ≡ true → same_rows g z r ≡ true → same_rows g y r ≡ true
same_rows-trans g y z r e f = same_rows-from g y r (λ x l. same_rows-at g y z e x ∙ same_rows-at g z r f x)

both_ways : (a b : Bool) → (a ≡ true → b ≡ true) → (b ≡ true → a ≡ true) → a ≡ b
both_ways true b h k = sym (h refl)
both_ways false true h k = k refl
both_ways false false h k = refl

-- the same rows are like the same other ones
pub same_rows-ext : (g : Grid Bool) (y z : ℕ) → same_rows g y z ≡ true → same_rows g y ≡ same_rows g z
same_rows-ext g y z e = fun_ext (λ r.
    both_ways (same_rows g y r) (same_rows g z r)
    (λ f. same_rows-trans g z y r (same_rows-sym g y z e) f)
    (λ f. same_rows-trans g y z r e f))

-- the cells of two rows, and whether they have the same points
pub record AreRows (g : Grid Bool) (y z : ℕ) (first other : List Bool) : Type 0 where
  pub upper : y < g.height
  pub lower : z < g.height
  pub first_is : first ≡ row g y
  pub other_is : other ≡ row g z
  pub first_long : length first ≡ g.width
  pub other_long : length other ≡ g.width

cells_are :
    (g : Grid Bool) (y x : ℕ) (cells : List Bool) → cells ≡ row g y → length cells ≡ g.width → y < g.height
    → is_marked cells x ≡ is_in g x y
cells_are g y x cells e long l =
    ap (λ cs. is_marked cs x) e ∙ is_marked-row g y x (sym (ap length e) ∙ long) l

pub same_rows-cells :
    (g : Grid Bool) (y z : ℕ) (first other : List Bool) → AreRows g y z first other → other ≡ first
    → same_rows g y z ≡ true
same_rows-cells g y z first other d e = same_rows-from g y z (λ x l.
    sym (cells_are g y x first d.first_is d.first_long d.upper)
    ∙ ap (λ cs. is_marked cs x) (sym e)
    ∙ cells_are g z x other d.other_is d.other_long d.lower)

same_cells :
    (g : Grid Bool) (y z : ℕ) (first other : List Bool) → AreRows g y z first other → same_rows g y z ≡ true
    → other ≡ first
same_cells g y z first other d e = same_lists other first (d.other_long ∙ sym d.first_long) (λ k c l.
    get_or_default other k c false l
    ∙ cells_are g z k other d.other_is d.other_long d.lower
    ∙ sym (same_rows-at g y z e k)
    ∙ sym (cells_are g y k first d.first_is d.first_long d.upper)
    ∙ get_or_default first k false c (omega (arith, d.first_long, d.other_long)))

pub other_rows-cells :
    (g : Grid Bool) (y z : ℕ) (first other : List Bool) → AreRows g y z first other → other ≢ first
    → same_rows g y z ≡ false
other_rows-cells g y z first other d h =
    not_true (same_rows g y z) (λ e. h (same_cells g y z first other d e))

-- a row starts no band where it is like the one above it
pub inner_band : (g : Grid Bool) (y : ℕ) → same_rows g y (y + 1) ≡ true → starts_band g (y + 1) ≡ false
inner_band g y e =
    let f : y + 1 - 1 ≡ y = omega arith in
    rw (lt-ltb 0 (y + 1) (omega arith), f, e) refl

pub next_band : (g : Grid Bool) (y : ℕ) → same_rows g y (y + 1) ≡ false → starts_band g (y + 1) ≡ true
next_band g y e =
    let f : y + 1 - 1 ≡ y = omega arith in
    rw (lt-ltb 0 (y + 1) (omega arith), f, e) refl

-- the bands that start at the rows y to y + n - 1
abbrev pub bands_from : Grid Bool → ℕ → ℕ → List Rect
bands_from g y n = flat_map (band_at g) (range_with_len y n)

-- a row that starts no band may be left out
pub bands_from-next :
    (g : Grid Bool) (y n : ℕ) → starts_band g y ≡ false → bands_from g y (suc n) ≡ bands_from g (y + 1) n
bands_from-next g y n e = ap (λ v. v ++ bands_from g (y + 1) n) (cond-false (starts_band g y) _ _ e)

-- and one that starts a band stands in front
pub bands_from-band :
    (g : Grid Bool) (y n : ℕ) → starts_band g y ≡ true
    → bands_from g y (suc n) ≡ row_runs (λ x. is_in g x y) g.width y (band_end g y) ++ bands_from g (y + 1) n
bands_from-band g y n e = ap (λ v. v ++ bands_from g (y + 1) n) (cond-true (starts_band g y) _ _ e)

-- the rows of a band below its first one start none
pub skip_band :
    (g : Grid Bool) (i k n j m : ℕ) → j ≡ k + i → n ≡ i + m
    → ((z : ℕ) → k ≤ z → z < j → starts_band g z ≡ false)
    → bands_from g k n ≡ bands_from g j m
skip_band g zero k n j m e f h =
    let a : k ≡ j = omega arith in
    let b : n ≡ m = omega arith in
    ap (λ v. bands_from g v n) a ∙ ap (bands_from g j) b
skip_band g (suc i) k zero j m e f h = absurd (omega arith)
skip_band g (suc i) k (suc n) j m e f h =
    bands_from-next g k n (h k (omega arith) (omega arith))
    ∙ skip_band g i (k + 1) n j m (omega arith) (omega arith) (λ z a b. h z (omega arith) b)

-- what the end of the band that starts at row y is
pub record IsBandEnd (g : Grid Bool) (y e : ℕ) : Type 0 where
  pub some : y < e
  pub within : e ≤ g.height
  pub same : (z : ℕ) → y ≤ z → z < e → same_rows g y z ≡ true
  pub below : e < g.height → same_rows g y e ≡ false

pub band_end-is : (g : Grid Bool) (y e : ℕ) → y < g.height → e ≡ band_end g y → IsBandEnd g y e
band_end-is g y e l h =
    let n : ℕ = g.height - (y + 1) in
    let is : IsEnd (same_rows g y) (y + 1) n (band_end g y) = run_end-IsEnd (same_rows g y) n (y + 1) in
    record {
      some = omega (arith, is.from, h);
      within = omega (arith, is.within, h);
      same = λ z a b. elim (cases_lt y z) [
        | inl c ↦ is.marked z (omega arith) (omega (arith, h))
        | inr c ↦ let s : y ≡ z = omega arith in ap (same_rows g y) (sym s) ∙ same_rows-refl g y
      ];
      below = λ c. run_end-stop (same_rows g y) n (y + 1) e (sym h) (omega arith);
    }

-- a row that ends it is its end
pub band_end-found :
    (g : Grid Bool) (y z : ℕ) → y < z → z ≤ g.height
    → ((r : ℕ) → y < r → r < z → same_rows g y r ≡ true) → (z < g.height → same_rows g y z ≡ false)
    → z ≡ band_end g y
band_end-found g y z a b same below =
    sym (run_end_is (same_rows g y) (z - (y + 1)) (g.height - (y + 1)) (y + 1) z
    (omega arith)
    (omega arith)
    (λ r c d. same r (omega arith) d)
    (λ c. below (omega arith)))

-- between the first row of a band and its end no band starts
band_goes_on :
    (g : Grid Bool) (y e z : ℕ) → IsBandEnd g y e → y < z → z < e → same_rows g (z - 1) z ≡ true
band_goes_on g y e z d a b =
    same_rows-trans g (z - 1) y z
    (same_rows-sym g y (z - 1) (d.same (z - 1) (omega arith) (omega arith)))
    (d.same z (omega arith) b)

pub no_band : (g : Grid Bool) (y e z : ℕ) → IsBandEnd g y e → y < z → z < e → starts_band g z ≡ false
no_band g y e z d a b = rw (lt-ltb 0 z (omega arith), band_goes_on g y e z d a b) refl

-- a band starts at the end of another
band_ends : (g : Grid Bool) (y e : ℕ) → IsBandEnd g y e → e < g.height → same_rows g (e - 1) e ≢ true
band_ends g y e d l same =
    let last : same_rows g y (e - 1) ≡ true = d.same (e - 1) (omega (arith, d.some)) (omega (arith, d.some)) in
    absurd (false≢true (sym (d.below l) ∙ same_rows-trans g y (e - 1) e last same))

pub band_after : (g : Grid Bool) (y e : ℕ) → IsBandEnd g y e → e < g.height → starts_band g e ≡ true
band_after g y e d l =
    let other : same_rows g (e - 1) e ≡ false = not_true (same_rows g (e - 1) e) (band_ends g y e d l) in
    rw (lt-ltb 0 e (omega (arith, d.some)), other) refl

-- the bands above row y are in the list, and no band goes on over that row
pub record IsListed (g : Grid Bool) (y : ℕ) (now : List Rect) : Type 0 where
  pub within : y ≤ g.height
  pub fresh : y < g.height → starts_band g y ≡ true
  pub so_far : now ++ bands_from g y (g.height - y) ≡ canonical_list g

pub IsListed-none : (g : Grid Bool) → IsListed g 0 []
unfolding canonical_list
IsListed-none g = record {
  within = omega arith;
  fresh = λ _. refl;
  so_far = let all : g.height - 0 ≡ g.height = omega arith in ap (bands_from g 0) all;
}

-- the band that starts at row y stands in front of what is left
first_band :
    (g : Grid Bool) (y e : ℕ) → y < g.height → starts_band g y ≡ true → e ≡ band_end g y → IsBandEnd g y e
    → bands_from g y (g.height - y)
    ≡ row_runs (λ x. is_in g x y) g.width y e ++ bands_from g e (g.height - e)
first_band g y e l s h d =
    let rest : g.height - y ≡ suc (g.height - y - 1) = omega arith in
    ap (bands_from g y) rest
    ∙ bands_from-band g y (g.height - y - 1) s
    ∙ ap (λ b. row_runs (λ x. is_in g x y) g.width y b ++ bands_from g (y + 1) (g.height - y - 1)) (sym h)
    ∙ ap (λ v. row_runs (λ x. is_in g x y) g.width y e ++ v)
    (skip_band g (e - y - 1) (y + 1) (g.height - y - 1) e (g.height - e)
    (omega (arith, d.some))
    (omega (arith, d.some, d.within))
    (λ z a b. no_band g y e z d (omega arith) b))

-- one more band
pub IsListed-more :
    (g : Grid Bool) (y e : ℕ) (cells : List Bool) (now next : List Rect)
    → next ≡ now ++ row_runs (is_marked cells) (length cells) y e → IsListed g y now → e ≡ band_end g y
    → cells ≡ row g y → length cells ≡ g.width → y < g.height → IsListed g e next
IsListed-more g y e cells now next pushed d h row_is long l =
    let is : IsBandEnd g y e = band_end-is g y e l h in
    let found : List Rect = row_runs (λ x. is_in g x y) g.width y e in
    let left : List Rect = bands_from g e (g.height - e) in
    let pushed' : next ≡ now ++ found = pushed ∙ ap (λ v. now ++ v) (row_runs-row g y y e cells row_is long l) in
    record {
      within = is.within;
      fresh = λ a. band_after g y e is a;
      so_far = ap (λ v. v ++ left) pushed'
          ∙ append_assoc now found left
          ∙ ap (λ v. now ++ v) (sym (first_band g y e l (d.fresh l) h is))
          ∙ d.so_far;
    }

-- all bands
pub IsListed-all : (g : Grid Bool) (y : ℕ) (now : List Rect) → IsListed g y now → g.height ≤ y → now ≡ canonical_list g
IsListed-all g y now d l =
    let none : g.height - y ≡ 0 = omega arith in
    sym (append-nil now) ∙ ap (λ n. now ++ bands_from g y n) (sym none) ∙ d.so_far
