-- Runs rounded to tiles: the columns of a run that is as wide as its tiles.
use Rattle.std.proofs.Common.{◌≡◌, ℕ, ◌+◌, ◌-◌, ◌*◌, ◌/◌, ◌<◌, ◌≤◌, min, max, List, [], ◌∷◌, Bool, true, false, ◌||◌, ◌&&◌, nat_le, nat_lt, length, get_or, take, sym, ap, ◌∙◌, refl, arith, inl, inr}
use Rattle.std.specs.List.{range_with_len, list_any}
use Rattle.std.proofs.Math.Path.{fun_ext}
use Rattle.std.proofs.Math.Nat.{mod-lt}
use Rattle.std.proofs.lemmas.Bool.{cases_lt, and_parts, and_from, and_right, leb-true, ltb-true, le-leb, lt-ltb}
use Rattle.std.proofs.lemmas.Nat.{div-add-mod', mul-le}
use Rattle.std.proofs.lemmas.List.{get_or_default}
use Rattle.std.proofs.lemmas.List.Elements.{All-weaker}
use Rattle.std.proofs.lemmas.List.Folds.{list_any_more}
use Rattle.dd_bits.proofs.TileLemmas.{HoldsAt-range, list_any-range, same_bool}
use Rattle.dd_region.specs.declared.run.Run.{Run}
use Rattle.dd_region.specs.Runs.{in_run, in_runs, IsRow, BeginBy}
use Rattle.dd_region.specs.Tiling.{tile_columns}

-- multiples of a number that differ are at least that number apart
pub multiples_apart : (i j t : ℕ) → i * t < j * t → i * t + t ≤ j * t
multiples_apart i j t l =
    elim (cases_lt i j) [
      | inl h ↦ omega (arith, mul-le (i + 1) t j t (omega arith) (omega arith))
      | inr h ↦ absurd (omega (arith, mul-le j t i t h (omega arith)))
    ]

-- where the tile of a column begins
pub record IsTileStart (t x start : ℕ) : Type 0 where
  pub from : start ≤ x
  pub to : x < start + t

pub tile_start : (t x : ℕ) → 1 ≤ t → IsTileStart t x (x / t * t)
tile_start t x some = record {
  from = omega (arith, div-add-mod' x t);
  to = omega (arith, div-add-mod' x t, mod-lt x some);
}

pub tile_order : (t a b : ℕ) → 1 ≤ t → a ≤ b → a / t * t ≤ b / t * t
tile_order t a b some l =
    let p = tile_start t a some in
    let q = tile_start t b some in
    elim (cases_lt (b / t * t) (a / t * t)) [
      | inl h ↦ absurd (omega (arith, multiples_apart (b / t) (a / t) t h, p.from, q.to))
      | inr h ↦ h
    ]

-- a column of a run in the tile of a column between the tiles of the run's first and its last one
record IsInTile (start t left right : ℕ) : Type 0 where
  pub column : ℕ
  pub from : start ≤ column
  pub to : column < start + t
  pub left_of : left ≤ column
  pub right_of : column < right

some_column :
    (t left right x : ℕ) → 1 ≤ t → left < right → left / t * t ≤ x → x < (right - 1) / t * t + t
    → IsInTile (x / t * t) t left right
some_column t left right x some l a b =
    let p = tile_start t left some in
    let q = tile_start t (right - 1) some in
    let r = tile_start t x some in
    let first : left / t * t ≤ x / t * t =
    elim (cases_lt (x / t * t) (left / t * t)) [
      | inl h ↦ absurd (omega (arith, multiples_apart (x / t) (left / t) t h, r.to))
      | inr h ↦ h
    ] in
    let last : x / t * t ≤ (right - 1) / t * t =
    elim (cases_lt ((right - 1) / t * t) (x / t * t)) [
      | inl h ↦ absurd (omega (arith, multiples_apart ((right - 1) / t) (x / t) t h, r.from))
      | inr h ↦ h
    ] in
    record {
      column = max left (x / t * t);
      from = omega arith;
      to = omega (arith, p.to, first);
      left_of = omega arith;
      right_of = omega (arith, q.from, last);
    }

between_tiles :
    (t left right x : ℕ) → 1 ≤ t → IsInTile (x / t * t) t left right
    → (left / t * t ≤ x) × (x < (right - 1) / t * t + t)
between_tiles t left right x some c =
    let p = tile_start t left some in
    let q = tile_start t (right - 1) some in
    let r = tile_start t x some in
    let first : left / t * t ≤ x / t * t =
    elim (cases_lt (x / t * t) (left / t * t)) [
      | inl h ↦ absurd (omega (arith, multiples_apart (x / t) (left / t) t h, p.from, c.to, c.left_of))
      | inr h ↦ h
    ] in
    let last : x / t * t ≤ (right - 1) / t * t =
    elim (cases_lt ((right - 1) / t * t) (x / t * t)) [
      | inl h ↦ absurd (omega (arith, multiples_apart ((right - 1) / t) (x / t) t h, q.to, c.from, c.right_of))
      | inr h ↦ h
    ] in
    (omega (arith, r.from, first), omega (arith, r.to, last))

-- a run that is as wide as its tiles has the columns whose tile has one of its columns
pub round_columns :
    (t w : ℕ) (run : Run) (m x : ℕ) → 1 ≤ t → run.left < run.right → run.right ≤ w
    → m ≡ min ((run.right - 1) / t * t + t) w
    → in_run (record { left = run.left / t * t; right = m }) x ≡ tile_columns t w (in_run run) x
round_columns t w run m x some l within e =
    let start : ℕ = x / t * t in
    let f : ℕ → Bool = λ a. in_run run (start + a) in
    same_bool _ _
    (λ h.
    let parts = and_parts (nat_le (run.left / t * t) x) (nat_lt x m) h in
    let a : run.left / t * t ≤ x = leb-true (run.left / t * t) x parts.0 in
    let b : x < m = ltb-true x m parts.1 in
    let c : IsInTile start t run.left run.right = some_column t run.left run.right x some l a (omega (arith, b, e)) in
    let k : ℕ = c.column - start in
    let at : start + k ≡ c.column = omega (arith, c.from) in
    and_from _ _ (lt-ltb x w (omega (arith, b, e)))
    (list_any-range f t 0 k (omega arith) (omega (arith, c.from, c.to))
    (ap (in_run run) at ∙ and_from _ _ (le-leb run.left c.column c.left_of) (lt-ltb c.column run.right c.right_of))))
    (λ h.
    let parts = and_parts (nat_lt x w) (list_any f (range_with_len 0 t)) h in
    let hold = HoldsAt-range f t 0 parts.1 in
    let both = and_parts (nat_le run.left (start + hold.place)) (nat_lt (start + hold.place) run.right) hold.holds in
    let c : IsInTile start t run.left run.right = record {
      column = start + hold.place;
      from = omega arith;
      to = omega (arith, hold.to);
      left_of = leb-true run.left (start + hold.place) both.0;
      right_of = ltb-true (start + hold.place) run.right both.1;
    } in
    let between = between_tiles t run.left run.right x some c in
    and_from _ _ (le-leb (run.left / t * t) x between.0)
    (lt-ltb x m (omega (arith, between.1, e, ltb-true x w parts.0))))

or_middle : (a b c d : Bool) → ((a || b) || (c || d)) ≡ ((a || c) || (b || d))
or_middle true b c d = refl
or_middle false true true d = refl
or_middle false true false d = refl
or_middle false false c d = refl

list_any_or : (p q : ℕ → Bool) (xs : List ℕ) → list_any (λ a. p a || q a) xs ≡ (list_any p xs || list_any q xs)
list_any_or p q [] = refl
list_any_or p q (x ∷ xs) =
    ap (λ b. (p x || q x) || b) (list_any_or p q xs)
    ∙ or_middle (p x) (q x) (list_any p xs) (list_any q xs)

and_or : (a b c : Bool) → (a && (b || c)) ≡ ((a && b) || (a && c))
and_or true b c = refl
and_or false b c = refl

-- the tiles of a row and one run more
tile_columns-more :
    (t w : ℕ) (rs : List Run) (i : ℕ) (d : Run) (x : ℕ) → i < length rs
    → tile_columns t w (in_runs (take (i + 1) rs)) x
    ≡ (tile_columns t w (in_runs (take i rs)) x || tile_columns t w (in_run (get_or rs i d)) x)
tile_columns-more t w rs i d x l =
    let before : ℕ → Bool = λ a. in_runs (take i rs) (x / t * t + a) in
    let last : ℕ → Bool = λ a. in_run (get_or rs i d) (x / t * t + a) in
    ap (λ (f : ℕ → Bool). nat_lt x w && list_any f (range_with_len 0 t))
    (fun_ext (λ a. list_any_more (λ r. in_run r (x / t * t + a)) rs i d l))
    ∙ ap (λ b. nat_lt x w && b) (list_any_or before last (range_with_len 0 t))
    ∙ and_or (nat_lt x w) (list_any before (range_with_len 0 t)) (list_any last (range_with_len 0 t))

-- a rounded row to which one rounded run more was added
pub rounded_more :
    (t w : ℕ) (rs now new : List Run) (run : Run) (i : ℕ) (d : Run) → i < length rs
    → ((x : ℕ) → in_runs now x ≡ tile_columns t w (in_runs (take i rs)) x)
    → ((x : ℕ) → in_runs new x ≡ (in_runs now x || in_run run x))
    → ((x : ℕ) → in_run run x ≡ tile_columns t w (in_run (get_or rs i d)) x)
    → (x : ℕ) → in_runs new x ≡ tile_columns t w (in_runs (take (i + 1) rs)) x
rounded_more t w rs now new run i d l before step is x =
    step x ∙ ap (λ b. b || in_run run x) (before x)
    ∙ ap (λ b. tile_columns t w (in_runs (take i rs)) x || b) (is x)
    ∙ sym (tile_columns-more t w rs i d x l)

-- the next run's tiles begin no further left
pub begin_later :
    (t : ℕ) (rs row : List Run) (run : Run) (i k : ℕ) (d e : Run) → 1 ≤ t → IsRow rs
    → run.left ≡ (get_or rs i d).left / t * t → BeginBy row run.left → i < k → k < length rs
    → BeginBy row ((get_or rs k e).left / t * t)
begin_later t rs row run i k d e some is at begin a b =
    let i_in : i < length rs = omega arith in
    let other : get_or rs k d ≡ get_or rs k e = get_or_default rs k d e b in
    let order : (get_or rs i d).left ≤ (get_or rs k e).left =
    omega (arith, is.some i d i_in, is.apart i k d a b, ap (λ (r : Run). r.left) other) in
    let step = tile_order t (get_or rs i d).left (get_or rs k e).left some order in
    All-weaker (λ (r : Run). r.left ≤ run.left) (λ (r : Run). r.left ≤ (get_or rs k e).left / t * t)
    (λ r h. omega (arith, h, step, at)) row begin

none_there : (xs : List ℕ) → list_any (λ a. false) xs ≡ false
none_there [] = refl
none_there (x ∷ xs) = none_there xs

-- no runs have no tiles
pub tile_columns-none : (t w x : ℕ) → false ≡ tile_columns t w (in_runs []) x
tile_columns-none t w x = sym (and_right (nat_lt x w) _ (none_there (range_with_len 0 t)))
