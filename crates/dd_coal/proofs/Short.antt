-- A set that is all of a surface or nothing of it has a list of at most one rectangle.
use Rattle.std.proofs.Common.{◌≡◌, ℕ, zero, suc, ◌+◌, ◌-◌, ◌<◌, ◌≤◌, Bool, true, false, List, [], ◌∷◌, ◌++◌, length, refl, ap, ◌∙◌, if◌then◌else◌, arith, length-append}
use Rattle.std.specs.List.{flat_map, range_with_len, list_all}
use Rattle.std.proofs.lemmas.Bool.{and_from, lt-ltb, cond-false}
use Rattle.dd_geom.specs.declared.rect.Rect.{Rect}
use Rattle.dd_geom.specs.Grid.{Grid}
use Rattle.dd_bits.specs.Area.{is_in}
use Rattle.dd_bits.specs.CanonicalList.{starts_run, run_at, row_runs, alike, same_rows, starts_band, band_end, band_at, canonical_list}

-- nothing from a place on
all_none : (f : ℕ → List Rect) (n k m : ℕ) → k + n ≡ m → ((x : ℕ) → k ≤ x → x < m → f x ≡ [])
    → flat_map f (range_with_len k n) ≡ []
all_none f zero k m e none = refl
all_none f (suc n) k m e none =
    ap (λ ys. ys ++ flat_map f (range_with_len (k + 1) n)) (none k (omega arith) (omega arith))
    ∙ all_none f n (k + 1) m (omega arith) (λ x a b. none x (omega arith) b)

first_alone : (f : ℕ → List Rect) (n : ℕ) → length (f 0) ≤ 1 → ((x : ℕ) → 1 ≤ x → x < n → f x ≡ [])
    → length (flat_map f (range_with_len 0 n)) ≤ 1
first_alone f zero few none = omega arith
first_alone f (suc n) few none =
    let rest : flat_map f (range_with_len (0 + 1) n) ≡ [] =
    all_none f n (0 + 1) (suc n) (omega arith) (λ x a b. none x (omega arith) b) in
    let long = length-append (f 0) (flat_map f (range_with_len (0 + 1) n)) in
    let nothing : length (flat_map f (range_with_len (0 + 1) n)) ≡ 0 = ap length rest in
    omega (arith, few, long, nothing)

at_most_one : (b : Bool) (r : Rect) → length (if b then r ∷ [] else []) ≤ 1
at_most_one true r = omega arith
at_most_one false r = omega arith

-- no run starts after the first column of a row of one value
no_later_start : (p : ℕ → Bool) (c : Bool) (x : ℕ) → 0 < x → p x ≡ c → p (x - 1) ≡ c → starts_run p x ≡ false
no_later_start p true x l e f = rw (e, lt-ltb 0 x l, f) refl
no_later_start p false x l e f = rw e refl

one_run : (p : ℕ → Bool) (w top bottom : ℕ) (c : Bool) → ((x : ℕ) → x < w → p x ≡ c)
    → length (row_runs p w top bottom) ≤ 1
one_run p w top bottom c all =
    first_alone (run_at p w top bottom) w (at_most_one (starts_run p 0) _)
    (λ x a b. cond-false (starts_run p x) _ []
    (no_later_start p c x (omega arith) (all x b) (all (x - 1) (omega arith))))

alike_same : (a b c : Bool) → a ≡ c → b ≡ c → alike a b ≡ true
alike_same a b true e f = rw (e, f) refl
alike_same a b false e f = rw (e, f) refl

all_alike : (p q : ℕ → Bool) (c : Bool) (n k m : ℕ) → k + n ≡ m → ((x : ℕ) → x < m → p x ≡ c)
    → ((x : ℕ) → x < m → q x ≡ c) → list_all (λ x. alike (p x) (q x)) (range_with_len k n) ≡ true
all_alike p q c zero k m e f g = refl
all_alike p q c (suc n) k m e f g =
    and_from _ _ (alike_same (p k) (q k) c (f k (omega arith)) (g k (omega arith)))
    (all_alike p q c n (k + 1) m (omega arith) f g)

same_rows-all : (g : Grid Bool) (c : Bool) (y z : ℕ) → ((x : ℕ) → x < g.width → is_in g x y ≡ c)
    → ((x : ℕ) → x < g.width → is_in g x z ≡ c) → same_rows g y z ≡ true
unfolding same_rows
same_rows-all g c y z e f = all_alike (λ x. is_in g x y) (λ x. is_in g x z) c g.width 0 g.width (omega arith) e f

no_later_band : (g : Grid Bool) (c : Bool) (y : ℕ) → 0 < y → y < g.height
    → ((x y : ℕ) → x < g.width → y < g.height → is_in g x y ≡ c) → starts_band g y ≡ false
no_later_band g c y l down all =
    rw (lt-ltb 0 y l, same_rows-all g c (y - 1) y (λ x a. all x (y - 1) a (omega arith)) (λ x a. all x y a down)) refl

few_if : (b : Bool) (rs : List Rect) → length rs ≤ 1 → length (if b then rs else []) ≤ 1
few_if true rs e = e
few_if false rs e = omega arith

few_rows : (g : Grid Bool) (c : Bool) (h : ℕ) → h ≡ g.height
    → ((x y : ℕ) → x < g.width → y < g.height → is_in g x y ≡ c)
    → length (flat_map (band_at g) (range_with_len 0 h)) ≤ 1
few_rows g c zero e all = omega arith
few_rows g c (suc h) e all =
    first_alone (band_at g) (suc h)
    (few_if (starts_band g 0) _
    (one_run (λ x. is_in g x 0) g.width 0 (band_end g 0) c (λ x a. all x 0 a (omega arith))))
    (λ y a b. cond-false (starts_band g y) _ [] (no_later_band g c y (omega arith) (omega arith) all))

pub short_list : (g : Grid Bool) (c : Bool) → ((x y : ℕ) → x < g.width → y < g.height → is_in g x y ≡ c)
    → length (canonical_list g) ≤ 1
unfolding canonical_list
short_list g c all = few_rows g c g.height refl all
