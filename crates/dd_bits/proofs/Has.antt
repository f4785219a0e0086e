-- A rectangle is in the canonical list exactly where it is a maximal run of a band.
use Rattle.std.proofs.Common.{◌≡◌, ℕ, zero, suc, ◌+◌, ◌-◌, ◌<◌, ◌≤◌, List, [], ◌∷◌, Bool, true, false, not, ◌&&◌, nat_lt, if◌then◌else◌, refl, sym, ap, subst, ◌∙◌, arith, inl, inr}
use Rattle.std.specs.List.{flat_map, range_with_len, Contains}
use Rattle.std.proofs.lemmas.Bool.{cases_lt, cond-true, false≢true, lt-ltb, and_parts, not-true}
use Rattle.std.proofs.lemmas.List.Elements.{Contains-append_left, Contains-append_right, Contains-append_cases, Contains-push, Contains-push_cases}
use Rattle.dd_geom.specs.declared.rect.Rect.{Rect}
use Rattle.dd_geom.specs.Rect.{place}
use Rattle.dd_geom.specs.Grid.{Grid}
use Rattle.dd_geom.proofs.GridLemmas.{value_at-right}
use Rattle.dd_bits.specs.Area.{is_in}
use Rattle.dd_bits.specs.CanonicalList.{run_end, starts_run, rect_from, run_at, row_runs, same_rows, starts_band, band_end, band_at, canonical_list, IsMaximalRun, IsBand, ListHas}
use Rattle.dd_bits.proofs.RunEnd.{run_end-suc, IsEnd, run_end-IsEnd}
use Rattle.dd_bits.proofs.RowRuns.{first_start, one_run, run_end-stop}
use Rattle.dd_bits.proofs.Bands.{IsBandEnd, band_end-is, band_end-found}

-- a member of one of the lists of the numbers from a to a + n - 1
record Among {X : Type 0} (f : ℕ → List X) (a n : ℕ) (x : X) : Type 0 where
  place_of : ℕ
  from : a ≤ place_of
  below : place_of < a + n
  here : Contains (f place_of) x

none_in : {X : Type 0} {P : Type 0} (x : X) → Contains [] x → P
none_in x (k, l, e) = absurd (omega (arith, l))

-- a member of a joined list is a member of one of its parts
member_in :
    {X : Type 0} (f : ℕ → List X) (n a : ℕ) (x : X) → Contains (flat_map f (range_with_len a n)) x → Among f a n x
member_in f zero a x h = none_in x h
member_in f (suc n) a x h =
    elim (Contains-append_cases (f a) (flat_map f (range_with_len (a + 1) n)) x h) [
      | inl c ↦ record { place_of = a; from = omega arith; below = omega arith; here = c }
      | inr c ↦
          let r : Among f (a + 1) n x = member_in f n (a + 1) x c in
          record {
            place_of = r.place_of;
            from = omega (arith, r.from);
            below = omega (arith, r.below);
            here = r.here;
          }
    ]

-- and a member of a part is one of the joined list
in_member :
    {X : Type 0} (f : ℕ → List X) (n a k : ℕ) (x : X) → a ≤ k → k < a + n → Contains (f k) x
    → Contains (flat_map f (range_with_len a n)) x
in_member f zero a k x l u h = absurd (omega arith)
in_member f (suc n) a k x l u h =
    elim (cases_lt a k) [
      | inl b ↦
          Contains-append_right (f a) (flat_map f (range_with_len (a + 1) n)) x
          (in_member f n (a + 1) k x (omega arith) (omega arith) h)
      | inr b ↦
          let same : k ≡ a = omega arith in
          Contains-append_left (f a) (flat_map f (range_with_len (a + 1) n)) x
          (subst (λ j. Contains (f j) x) same h)
    ]

in_if : {X : Type 0} (b : Bool) (xs : List X) (x : X) → Contains (if b then xs else []) x → (b ≡ true) × Contains xs x
in_if true xs x h = (refl, h)
in_if false xs x h = none_in x h

in_one : {X : Type 0} (y x : X) → Contains (y ∷ []) x → y ≡ x
in_one y x h = elim (Contains-push_cases [] y x h) [ inl n ↦ none_in x n | inr e ↦ e ]

not_first : (a b : Bool) → a ≡ true → not (a && b) ≡ true → b ≡ false
not_first true b e h = not-true b h
not_first false b e h = absurd (false≢true e)

-- a run that starts in a row of a set is a maximal one
start_is_maximal :
    (g : Grid Bool) (y x : ℕ) → x < g.width → starts_run (λ c. is_in g c y) x ≡ true
    → IsMaximalRun g y x (run_end (λ c. is_in g c y) x (g.width - x))
start_is_maximal g y x l start =
    let p : ℕ → Bool = λ c. is_in g c y in
    let w : ℕ = g.width in
    let end : ℕ = run_end p x (w - x) in
    let parts : (p x ≡ true) × (not (nat_lt 0 x && p (x - 1)) ≡ true) = and_parts (p x) _ start in
    let fuel : w - x ≡ suc (w - x - 1) = omega arith in
    let further : end ≡ run_end p (x + 1) (w - x - 1) =
    ap (run_end p x) fuel ∙ run_end-suc p x (w - x - 1) parts.0 in
    let later : IsEnd p (x + 1) (w - x - 1) (run_end p (x + 1) (w - x - 1)) =
    run_end-IsEnd p (w - x - 1) (x + 1) in
    let all : IsEnd p x (w - x) end = run_end-IsEnd p (w - x) x in
    record {
      run = record {
        some = omega (arith, further, later.from);
        marked = all.marked;
        end = elim (cases_lt end w) [
          | inl a ↦ run_end-stop p (w - x) x end refl (omega arith)
          | inr a ↦ value_at-right false g end y a
        ];
      };
      before = λ a. not_first (nat_lt 0 x) (p (x - 1)) (lt-ltb 0 x a) parts.1;
    }

-- the rows from a row that starts a band to its end are a band
start_is_band : (g : Grid Bool) (y : ℕ) → y < g.height → starts_band g y ≡ true → IsBand g y (band_end g y)
start_is_band g y l start =
    let is : IsBandEnd g y (band_end g y) = band_end-is g y (band_end g y) l refl in
    record {
      some = is.some;
      within = is.within;
      same = is.same;
      above = λ a. not_first (nat_lt 0 y) (same_rows g (y - 1) y) (lt-ltb 0 y a) start;
      below = is.below;
    }

-- what is said of a rectangle in the list
MaximalRect : Grid Bool → Rect → Type 0
MaximalRect g r =
    IsMaximalRun g (place r.top) (place r.left) (place r.right) × IsBand g (place r.top) (place r.bottom)

listed_is_maximal : (g : Grid Bool) (r : Rect) → Contains (canonical_list g) r → MaximalRect g r
unfolding canonical_list MaximalRect
listed_is_maximal g r h =
    let band : Among (band_at g) 0 g.height r = member_in (band_at g) g.height 0 r h in
    let y : ℕ = band.place_of in
    let p : ℕ → Bool = λ x. is_in g x y in
    let starts : (starts_band g y ≡ true) × Contains (row_runs p g.width y (band_end g y)) r =
    in_if (starts_band g y) (row_runs p g.width y (band_end g y)) r band.here in
    let run : Among (run_at p g.width y (band_end g y)) 0 g.width r =
    member_in (run_at p g.width y (band_end g y)) g.width 0 r starts.1 in
    let x : ℕ = run.place_of in
    let found : Rect = rect_from x y (run_end p x (g.width - x)) (band_end g y) in
    let one : (starts_run p x ≡ true) × Contains (found ∷ []) r = in_if (starts_run p x) (found ∷ []) r run.here in
    subst (MaximalRect g) (in_one found r one.1)
    (start_is_maximal g y x (omega (arith, run.below)) one.0, start_is_band g y (omega (arith, band.below)) starts.0)

marked_inside : (g : Grid Bool) (x y : ℕ) → is_in g x y ≡ true → x < g.width
marked_inside g x y m =
    elim (cases_lt x g.width) [
      | inl a ↦ a
      | inr a ↦ absurd (false≢true (sym (value_at-right false g x y a) ∙ m))
    ]

band_starts : (g : Grid Bool) (y : ℕ) → (0 < y → same_rows g (y - 1) y ≡ false) → starts_band g y ≡ true
band_starts g zero h = refl
band_starts g (suc y) h = rw (lt-ltb 0 (suc y) (omega arith), h (omega arith)) refl

-- a maximal run of a band is in the list
maximal_is_listed :
    (g : Grid Bool) (left top right bottom : ℕ) → IsMaximalRun g top left right → IsBand g top bottom
    → Contains (canonical_list g) (rect_from left top right bottom)
unfolding canonical_list
maximal_is_listed g left top right bottom r b =
    let p : ℕ → Bool = λ x. is_in g x top in
    let rect : Rect = rect_from left top right bottom in
    let some : left < right = r.run.some in
    let last : right - 1 < g.width =
    marked_inside g (right - 1) top (r.run.marked (right - 1) (omega arith) (omega arith)) in
    let start : starts_run p left ≡ true = first_start p left (r.run.marked left (omega arith) some) r.before in
    let run : run_at p g.width top bottom left ≡ rect ∷ [] =
    one_run p g.width top bottom left right start r.run (omega arith) in
    let in_row : Contains (row_runs p g.width top bottom) rect =
    in_member (run_at p g.width top bottom) g.width 0 left rect (omega arith) (omega arith)
    (subst (λ rs. Contains rs rect) (sym run) (Contains-push [] rect)) in
    let end : bottom ≡ band_end g top =
    band_end-found g top bottom b.some b.within (λ y c d. b.same y (omega arith) d) b.below in
    let band : band_at g top ≡ row_runs p g.width top bottom =
    cond-true (starts_band g top) _ _ (band_starts g top b.above) ∙ ap (row_runs p g.width top) (sym end) in
    in_member (band_at g) g.height 0 top rect (omega arith) (omega (arith, b.some, b.within))
    (subst (λ rs. Contains rs rect) (sym band) in_row)

pub canonical_list-has : ListHas
unfolding MaximalRect
canonical_list-has g left top right bottom = (
  λ h. listed_is_maximal g (rect_from left top right bottom) h,
  λ d. maximal_is_listed g left top right bottom d.0 d.1,
)
