-- The canonical list covers each point of its set once, and no other point.
use Rattle.std.proofs.Common.{◌≡◌, ℕ, ◌⊎◌, zero, suc, ◌+◌, ◌-◌, ◌<◌, ◌≤◌, List, [], ◌∷◌, ◌++◌, Bool, true, false, ◌&&◌, nat_lt, nat_le, if◌then◌else◌, count_by, All, IsTrue, zero-add, add-zero, refl, sym, ap, ◌∙◌, arith, rules, tests, inl, inr}
use Rattle.std.proofs.lemmas.List.Sums.{sum_by-append}
use Rattle.std.proofs.lemmas.List.Elements.{All-append, All-nil, All-cons, All-same}
use Rattle.std.proofs.lemmas.Bool.{cases_lt, cond-true, cond-false, lt-ltb, le-ltb, le-leb, lt-leb, and_left, and_right}
use Rattle.dd_geom.specs.declared.rect.Rect.{Rect}
use Rattle.dd_geom.specs.Rect.{has, is_inside}
use Rattle.dd_geom.specs.Grid.{Grid}
use Rattle.dd_geom.proofs.GridLemmas.{value_at-right, value_at-below}
use Rattle.dd_bits.specs.Area.{is_in}
use Rattle.dd_bits.specs.CanonicalList.{run_end, starts_run, rect_from, run_at, row_runs, same_rows, starts_band, band_end, band_at, canonical_list, ListCovers, ListInside}
use Rattle.dd_bits.proofs.RowRuns.{runs_from, no_start}
use Rattle.dd_bits.proofs.RunEnd.{run_end-suc, run_end-here, IsEnd, end_further, run_end-IsEnd}
use Rattle.dd_bits.proofs.Bands.{bands_from, bands_from-next, bands_from-band, IsBandEnd, band_end-is, same_rows-at, same_rows-ext, inner_band, next_band}

-- how many rectangles of a list cover a point
abbrev covering : ℕ → ℕ → List Rect → ℕ
covering x y rs = count_by (λ r. has r x y) rs

abbrev once : Bool → ℕ
once b = if b then 1 else 0

-- the column before k is marked
abbrev marked_before : (ℕ → Bool) → ℕ → Bool
marked_before p k = nat_lt 0 k && p (k - 1)

covering-append : (x y : ℕ) (a b : List Rect) → covering x y (a ++ b) ≡ covering x y a + covering x y b
covering-append x y a b = sum_by-append _ a b

covering-one : (x y : ℕ) (r : Rect) → covering x y (r ∷ []) ≡ once (has r x y)
covering-one x y r = zero-add _

marked_before-next : (p : ℕ → Bool) (k : ℕ) → marked_before p (k + 1) ≡ p k
marked_before-next p k =
    let e : k + 1 - 1 ≡ k = omega arith in rw (lt-ltb 0 (k + 1) (omega arith), e) refl

-- columns that are not marked count for nothing
once-skip :
    (b : Bool) (k j x : ℕ) → k ≤ j → (k ≤ x → x < j → b ≡ false) → once (nat_le j x && b) ≡ once (nat_le k x && b)
once-skip b k j x l h =
    elim (cases_lt x k) [
      | inl a ↦ rw (lt-leb k x a, lt-leb j x (omega arith)) refl
      | inr c ↦ elim (cases_lt x j) [
        | inl d ↦ rw (h c d, lt-leb j x d, le-leb k x c) refl
        | inr d ↦ rw (le-leb j x d, le-leb k x c) refl
      ]
    ]

-- the columns of a run, and those after it
once-split :
    (b : Bool) (k top e bottom x y : ℕ) → k ≤ e → top ≤ y → y < bottom → (k ≤ x → x < e → b ≡ true)
    → once (has (rect_from k top e bottom) x y) + once (nat_le e x && b) ≡ once (nat_le k x && b)
once-split b k top e bottom x y l above under h =
    elim (cases_lt x k) [
      | inl a ↦ rw (lt-leb k x a, lt-leb e x (omega arith)) refl
      | inr c ↦ elim (cases_lt x e) [
        | inl d ↦ rw (le-leb k x c, lt-ltb x e d, le-leb top y above, lt-ltb y bottom under, lt-leb e x d, h c d) refl
        | inr d ↦ rw (le-leb k x c, le-ltb x e d, le-leb e x d) (zero-add _)
      ]
    ]

-- what the runs that start from column k on cover of their row: the marked columns from k on, but
-- those of a run that started before
record Covers (p : ℕ → Bool) (w top bottom x y n k : ℕ) : Type 0 where
  fresh : marked_before p k ≡ false → covering x y (runs_from p w top bottom k n) ≡ once (nat_le k x && p x)
  over : marked_before p k ≡ true → covering x y (runs_from p w top bottom k n) ≡ once (nat_le (run_end p k n) x && p x)

none_after : (b : Bool) (w k x : ℕ) → k ≡ w → (w ≤ x → b ≡ false) → 0 ≡ once (nat_le k x && b)
none_after b w k x e h =
    elim (cases_lt x k) [
      | inl a ↦ rw (lt-leb k x a) refl
      | inr c ↦ rw (le-leb k x c, h (omega arith)) refl
    ]

covers_none : (p : ℕ → Bool) (w top bottom x y k : ℕ) → k ≡ w → (w ≤ x → p x ≡ false) → Covers p w top bottom x y 0 k
unfolding run_end
covers_none p w top bottom x y k e h = record {
  fresh = λ _. none_after (p x) w k x e h;
  over = λ _. none_after (p x) w k x e h;
}

no_run :
    (p : ℕ → Bool) (w top bottom n k : ℕ) → starts_run p k ≡ false
    → runs_from p w top bottom k (suc n) ≡ runs_from p w top bottom (k + 1) n
no_run p w top bottom n k e = ap (λ v. v ++ runs_from p w top bottom (k + 1) n) (cond-false (starts_run p k) _ _ e)

covers_unmarked :
    (p : ℕ → Bool) (w top bottom x y n k : ℕ) → p k ≡ false → Covers p w top bottom x y n (k + 1)
    → Covers p w top bottom x y (suc n) k
covers_unmarked p w top bottom x y n k m rest =
    let skipped : runs_from p w top bottom k (suc n) ≡ runs_from p w top bottom (k + 1) n =
    no_run p w top bottom n k (no_start p k m) in
    let after : covering x y (runs_from p w top bottom k (suc n)) ≡ once (nat_le k x && p x) =
    ap (covering x y) skipped ∙ rest.fresh (marked_before-next p k ∙ m)
    ∙ once-skip (p x) k (k + 1) x (omega arith) (λ a b. let e : x ≡ k = omega arith in ap p e ∙ m) in
    record {
      fresh = λ _. after;
      over = λ _. after ∙ ap (λ e. once (nat_le e x && p x)) (sym (run_end-here p k n m));
    }

covers_marked :
    (p : ℕ → Bool) (w top bottom x y n k : ℕ) → p k ≡ true → k + suc n ≡ w → top ≤ y → y < bottom
    → Covers p w top bottom x y n (k + 1)
    → Covers p w top bottom x y (suc n) k
covers_marked p w top bottom x y n k m e above under rest =
    let end : ℕ = run_end p (k + 1) n in
    let after : List Rect = runs_from p w top bottom (k + 1) n in
    let is_end : IsEnd p k (suc n) end = end_further p k n end m (run_end-IsEnd p n (k + 1)) in
    let fuel : w - k ≡ suc n = omega arith in
    record {
      fresh = λ f.
          let start : starts_run p k ≡ true = rw (m, f) refl in
          let one : run_at p w top bottom k ≡ rect_from k top end bottom ∷ [] =
          cond-true (starts_run p k) _ _ start
          ∙ ap (λ v. rect_from k top v bottom ∷ []) (ap (run_end p k) fuel ∙ run_end-suc p k n m) in
          ap (λ v. covering x y (v ++ after)) one
          ∙ covering-append x y (rect_from k top end bottom ∷ []) after
          ∙ ap (λ v. v + covering x y after) (covering-one x y (rect_from k top end bottom))
          ∙ ap (λ v. once (has (rect_from k top end bottom) x y) + v) (rest.over (marked_before-next p k ∙ m))
          ∙ once-split (p x) k top end bottom x y is_end.from above under (λ a b. is_end.marked x a b);
      over = λ f.
          let start : starts_run p k ≡ false = rw (m, f) refl in
          ap (covering x y) (no_run p w top bottom n k start) ∙ rest.over (marked_before-next p k ∙ m)
          ∙ ap (λ v. once (nat_le v x && p x)) (sym (run_end-suc p k n m));
    }

covers_row :
    (p : ℕ → Bool) (w top bottom x y n k : ℕ) → k + n ≡ w → top ≤ y → y < bottom → (w ≤ x → p x ≡ false)
    → Covers p w top bottom x y n k
covers_row p w top bottom x y zero k e above under h = covers_none p w top bottom x y k (omega arith) h
covers_row p w top bottom x y (suc n) k e above under h =
    let rest : Covers p w top bottom x y n (k + 1) =
    covers_row p w top bottom x y n (k + 1) (omega arith) above under h in
    let P : Bool → Type 0 = λ b. p k ≡ b → Covers p w top bottom x y (suc n) k in
    let cases : (b : Bool) → P b = λ b. elim b as P [
      | true ↦ λ m. covers_marked p w top bottom x y n k m e above under rest
      | false ↦ λ m. covers_unmarked p w top bottom x y n k m rest
    ] in
    cases (p k) refl

-- a row's rectangles cover no point of other rows
has-other :
    (x y left top right bottom : ℕ) → (y < top) ⊎ (bottom ≤ y) → has (rect_from left top right bottom) x y ≡ false
has-other x y left top right bottom (inl a) = and_left _ _ (and_right _ _ (lt-leb top y a))
has-other x y left top right bottom (inr b) = and_right _ _ (le-ltb y bottom b)

covering-if : (b : Bool) (x y : ℕ) (r : Rect) → has r x y ≡ false → covering x y (if b then r ∷ [] else []) ≡ 0
covering-if true x y r h = covering-one x y r ∙ ap once h
covering-if false x y r h = refl

both_none : (x y : ℕ) (a b : List Rect) → covering x y a ≡ 0 → covering x y b ≡ 0 → covering x y (a ++ b) ≡ 0
both_none x y a b e f = covering-append x y a b ∙ ap (λ v. v + covering x y b) e ∙ ap (λ v. 0 + v) f

other_rows :
    (p : ℕ → Bool) (w top bottom x y n k : ℕ) → (y < top) ⊎ (bottom ≤ y)
    → covering x y (runs_from p w top bottom k n) ≡ 0
other_rows p w top bottom x y zero k other = refl
other_rows p w top bottom x y (suc n) k other =
    both_none x y (run_at p w top bottom k) _
    (covering-if (starts_run p k) x y _ (has-other x y k top _ bottom other))
    (other_rows p w top bottom x y n (k + 1) other)

-- in its own rows a band covers the columns that its first row marks
band_covers :
    (g : Grid Bool) (x y top bottom : ℕ) → top ≤ y → y < bottom
    → covering x y (row_runs (λ c. is_in g c top) g.width top bottom) ≡ once (is_in g x top)
band_covers g x y top bottom above under =
    let p : ℕ → Bool = λ c. is_in g c top in
    let row : Covers p g.width top bottom x y g.width 0 =
    covers_row p g.width top bottom x y g.width 0 (zero-add _) above under (λ l. value_at-right false g x top l) in
    row.fresh refl ∙ ap (λ b. once (b && is_in g x top)) (le-leb 0 x (omega arith))

-- the points of a band, and those of the rows below it
band_and_rest :
    (g : Grid Bool) (x y k e : ℕ) → IsBandEnd g k e
    → covering x y (row_runs (λ c. is_in g c k) g.width k e) + once (nat_le e y && is_in g x y)
    ≡ once (nat_le k y && is_in g x y)
band_and_rest g x y k e d =
    let p : ℕ → Bool = λ c. is_in g c k in
    let mine : ℕ = covering x y (row_runs p g.width k e) in
    elim (cases_lt y k) [
      | inl a ↦
          ap (λ v. v + once (nat_le e y && is_in g x y)) (other_rows p g.width k e x y g.width 0 (inl a))
          ∙ rw (lt-leb k y a, lt-leb e y (omega (arith, d.some))) refl
      | inr a ↦ elim (cases_lt y e) [
        | inl b ↦
            let same : is_in g x k ≡ is_in g x y = same_rows-at g k y (d.same y a b) x in
            ap (λ v. v + once (nat_le e y && is_in g x y)) (band_covers g x y k e a b ∙ ap once same)
            ∙ rw (le-leb k y a, lt-leb e y b) (add-zero _)
        | inr b ↦
            ap (λ v. v + once (nat_le e y && is_in g x y)) (other_rows p g.width k e x y g.width 0 (inr b))
            ∙ rw (le-leb k y a, le-leb e y b) (zero-add _)
      ]
    ]

-- what the bands that start below row k cover: the points from the end of that row's band on
Below : Grid Bool → ℕ → ℕ → ℕ → ℕ → Type 0
Below g x y n k =
    covering x y (bands_from g (k + 1) n) ≡ once (nat_le (run_end (same_rows g k) (k + 1) n) y && is_in g x y)

first_covers :
    (g : Grid Bool) (x y n k : ℕ) → k + suc n ≡ g.height → starts_band g k ≡ true → Below g x y n k
    → covering x y (bands_from g k (suc n)) ≡ once (nat_le k y && is_in g x y)
unfolding Below
first_covers g x y n k e start below =
    let rows : List Rect = row_runs (λ c. is_in g c k) g.width k (band_end g k) in
    let fuel : n ≡ g.height - (k + 1) = omega arith in
    let is : IsBandEnd g k (band_end g k) = band_end-is g k (band_end g k) (omega arith) refl in
    ap (covering x y) (bands_from-band g k n start)
    ∙ covering-append x y rows (bands_from g (k + 1) n)
    ∙ ap (λ v. covering x y rows + v)
    (below ∙ ap (λ m. once (nat_le (run_end (same_rows g k) (k + 1) m) y && is_in g x y)) fuel)
    ∙ band_and_rest g x y k (band_end g k) is

-- the next row goes on with the band of row k, or starts one
below_same :
    (g : Grid Bool) (x y n k : ℕ) → same_rows g k (k + 1) ≡ true → Below g x y n (k + 1) → Below g x y (suc n) k
unfolding Below
below_same g x y n k m rest =
    let end : run_end (same_rows g (k + 1)) (k + 1 + 1) n ≡ run_end (same_rows g k) (k + 1) (suc n) =
    ap (λ p. run_end p (k + 1 + 1) n) (sym (same_rows-ext g k (k + 1) m))
    ∙ sym (run_end-suc (same_rows g k) (k + 1) n m) in
    ap (covering x y) (bands_from-next g (k + 1) n (inner_band g k m))
    ∙ rest
    ∙ ap (λ e. once (nat_le e y && is_in g x y)) end

below_other :
    (g : Grid Bool) (x y n k : ℕ) → k + 1 + suc n ≡ g.height → same_rows g k (k + 1) ≡ false → Below g x y n (k + 1)
    → Below g x y (suc n) k
unfolding Below
below_other g x y n k e m rest =
    first_covers g x y n (k + 1) e (next_band g k m) rest
    ∙ ap (λ v. once (nat_le v y && is_in g x y)) (sym (run_end-here (same_rows g k) (k + 1) n m))

below_covers : (g : Grid Bool) (x y n k : ℕ) → k + 1 + n ≡ g.height → Below g x y n k
unfolding Below run_end
below_covers g x y zero k e =
    none_after (is_in g x y) g.height (k + 1) y (omega arith) (λ l. value_at-below false g x y l)
below_covers g x y (suc n) k e =
    let rest : Below g x y n (k + 1) = below_covers g x y n (k + 1) (omega arith) in
    let P : Bool → Type 0 = λ b. same_rows g k (k + 1) ≡ b → Below g x y (suc n) k in
    let cases : (b : Bool) → P b = λ b. elim b as P [
      | true ↦ λ m. below_same g x y n k m rest
      | false ↦ λ m. below_other g x y n k (omega arith) m rest
    ] in
    cases (same_rows g k (k + 1)) refl

-- each point of the set lies in one rectangle of the list, and no other point in any
rows_cover : (g : Grid Bool) (x y n : ℕ) → n ≡ g.height → covering x y (bands_from g 0 n) ≡ once (is_in g x y)
rows_cover g x y zero e = sym (ap once (value_at-below false g x y (omega arith)))
rows_cover g x y (suc n) e =
    first_covers g x y n 0 (omega arith) refl (below_covers g x y n 0 (omega arith))
    ∙ ap (λ b. once (b && is_in g x y)) (le-leb 0 y (omega arith))

pub count_by-canonical_list : ListCovers
unfolding canonical_list
count_by-canonical_list g x y = rows_cover g x y g.height refl

-- a rectangle lies inside a surface of w by h points
abbrev Inside : ℕ → ℕ → Rect → Type 0
Inside w h r = IsTrue (is_inside r w h)

inside_rect :
    (w h left top right bottom : ℕ) → left < right → right ≤ w → top < bottom → bottom ≤ h
    → Inside w h (rect_from left top right bottom)
inside_rect w h left top right bottom a b c d = search (rules, tests)

-- what holds of the rectangles that a test lets through
pub All-if_one : (P : Rect → Type 0) (b : Bool) (r : Rect) → P r → All P (if b then r ∷ [] else [])
All-if_one P true r h = All-cons P r [] h (All-nil P)
All-if_one P false r h = All-nil P

pub All-if_list : (P : Rect → Type 0) (b : Bool) (rs : List Rect) → All P rs → All P (if b then rs else [])
All-if_list P true rs h = h
All-if_list P false rs h = All-nil P

inside_run :
    (p : ℕ → Bool) (w h top bottom k : ℕ) → top < bottom → bottom ≤ h → k < w
    → All (Inside w h) (run_at p w top bottom k)
inside_run p w h top bottom k some down across =
    let P : Bool → Type 0 = λ b. p k ≡ b → All (Inside w h) (run_at p w top bottom k) in
    let cases : (b : Bool) → P b = λ b. elim b as P [
      | true ↦ λ m.
          let fuel : w - k ≡ suc (w - k - 1) = omega arith in
          let end : run_end p k (w - k) ≡ run_end p (k + 1) (w - k - 1) =
          ap (run_end p k) fuel ∙ run_end-suc p k (w - k - 1) m in
          let is_end : IsEnd p (k + 1) (w - k - 1) (run_end p (k + 1) (w - k - 1)) =
          run_end-IsEnd p (w - k - 1) (k + 1) in
          All-if_one (Inside w h) (starts_run p k) _
          (inside_rect w h k top _ bottom
          (omega (arith, end, is_end.from))
          (omega (arith, end, is_end.within))
          some down)
      | false ↦ λ m.
          let none : run_at p w top bottom k ≡ [] = cond-false (starts_run p k) _ _ (no_start p k m) in
          All-same (Inside w h) (run_at p w top bottom k) [] none (All-nil (Inside w h))
    ] in
    cases (p k) refl

inside_row :
    (p : ℕ → Bool) (w h top bottom n k : ℕ) → top < bottom → bottom ≤ h → k + n ≡ w
    → All (Inside w h) (runs_from p w top bottom k n)
inside_row p w h top bottom zero k some down e = All-nil (Inside w h)
inside_row p w h top bottom (suc n) k some down e =
    All-append (Inside w h) (run_at p w top bottom k) _
    (inside_run p w h top bottom k some down (omega arith))
    (inside_row p w h top bottom n (k + 1) some down (omega arith))

inside_band : (g : Grid Bool) (y : ℕ) → y < g.height → All (Inside g.width g.height) (band_at g y)
inside_band g y l =
    let w : ℕ = g.width in
    let h : ℕ = g.height in
    let is : IsBandEnd g y (band_end g y) = band_end-is g y (band_end g y) l refl in
    All-if_list (Inside w h) (starts_band g y) (row_runs (λ x. is_in g x y) w y (band_end g y))
    (inside_row (λ x. is_in g x y) w h y (band_end g y) w 0 is.some is.within (zero-add w))

inside_bands : (g : Grid Bool) (n y : ℕ) → y + n ≤ g.height → All (Inside g.width g.height) (bands_from g y n)
inside_bands g zero y l = All-nil (Inside g.width g.height)
inside_bands g (suc n) y l =
    All-append (Inside g.width g.height) (band_at g y) _
    (inside_band g y (omega arith))
    (inside_bands g n (y + 1) (omega arith))

-- each rectangle lies inside
pub All-canonical_list : ListInside
unfolding canonical_list
All-canonical_list g = inside_bands g g.height 0 (omega arith)
