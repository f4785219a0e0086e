-- Bands: the one that a row lies in, and one band more.
use Rattle.std.proofs.Common.{◌≡◌, ℕ, zero, suc, ◌+◌, ◌-◌, ◌<◌, ◌≤◌, max, List, [], ◌∷◌, ◌++◌, nat_lt, if◌then◌else◌, length, get_or, set, take, drop, sym, ap, ◌∙◌, refl, subst, arith, inl, inr, length-append, length-drop}
use Rattle.std.specs.Prelude.{All}
use Rattle.std.specs.List.{AllWithin}
use Rattle.std.proofs.lemmas.Bool.{cases_lt, lt-ltb, le-ltb, cond-true, cond-false}
use Rattle.std.proofs.lemmas.List.{take-append-le, drop-append-le, drop_at, take_all, take_more, take_more_set, length-set, get_or_read}
use Rattle.std.proofs.lemmas.List.Elements.{All-head, All-tail, All-push, All-set, All-weaker}
use Rattle.dd_region.specs.declared.run.Run.{Run}
use Rattle.dd_region.specs.declared.rows.Band.{Band}
use Rattle.dd_region.specs.declared.rows.Rows.{Rows}
use Rattle.dd_region.specs.Runs.{IsRow}
use Rattle.dd_region.specs.Rows.{band_runs, runs_at, row_at, bands_depth, depth, IsBand, AreRows, ArePassed, HasBandMore}

-- the first band that ends below a row has it
pub runs_at-found :
    (runs : List Run) (bs : List Band) (k y : ℕ) (d : Band) → k < length bs → AllWithin (λ b. b.bottom ≤ y) bs 0 k
    → y < (get_or bs k d).bottom → runs_at runs bs y ≡ band_runs runs (get_or bs k d)
runs_at-found runs [] k y d l passed found = absurd (omega arith)
runs_at-found runs (b ∷ bs) zero y d l passed found = cond-true _ _ _ (lt-ltb y b.bottom found)
runs_at-found runs (b ∷ bs) (suc k) y d l passed found =
    cond-false _ _ _ (le-ltb y b.bottom (passed 0 d (omega arith) (omega arith)))
    ∙ runs_at-found runs bs k y d (omega arith) (λ j e p q. passed (suc j) e (omega arith) (omega arith)) found

-- no band ends below the rows that they cover
pub All-depth : (bs : List Band) → All (λ b. b.bottom ≤ bands_depth bs) bs
All-depth [] k d l = absurd (omega arith)
All-depth (b ∷ bs) zero d l = omega arith
All-depth (b ∷ bs) (suc k) d l = omega (arith, All-depth bs k d (omega arith))

pub depth-within : (bs : List Band) (y : ℕ) → All (λ b. b.bottom ≤ y) bs → bands_depth bs ≤ y
depth-within [] y h = omega arith
depth-within (b ∷ bs) y h =
    omega (arith, All-head (λ c. c.bottom ≤ y) b bs h, depth-within bs y (All-tail (λ c. c.bottom ≤ y) b bs h))

pub depth-append : (bs more : List Band) → bands_depth (bs ++ more) ≡ max (bands_depth bs) (bands_depth more)
depth-append [] more = omega arith
depth-append (b ∷ bs) more = omega (arith, depth-append bs more)

depth-push : (bs : List Band) (b : Band) → bands_depth (bs ++ b ∷ []) ≡ max (bands_depth bs) b.bottom
depth-push bs b = omega (arith, depth-append bs (b ∷ []))

-- further bands: above them is what was
pub runs_at-above :
    (runs : List Run) (bs more : List Band) (y : ℕ) → y < bands_depth bs
    → runs_at runs (bs ++ more) y ≡ runs_at runs bs y
runs_at-above runs [] more y l = absurd (omega arith)
runs_at-above runs (c ∷ bs) more y l =
    elim (cases_lt y c.bottom) [
      | inl h ↦ cond-true _ _ _ (lt-ltb y c.bottom h) ∙ sym (cond-true _ _ _ (lt-ltb y c.bottom h))
      | inr h ↦ cond-false _ _ _ (le-ltb y c.bottom h) ∙ runs_at-above runs bs more y (omega arith)
          ∙ sym (cond-false _ _ _ (le-ltb y c.bottom h))
    ]

-- and below what was are theirs
pub runs_at-below :
    (runs : List Run) (bs more : List Band) (y : ℕ) → bands_depth bs ≤ y
    → runs_at runs (bs ++ more) y ≡ runs_at runs more y
runs_at-below runs [] more y l = refl
runs_at-below runs (c ∷ bs) more y l =
    cond-false _ _ _ (le-ltb y c.bottom (omega arith)) ∙ runs_at-below runs bs more y (omega arith)

runs_at-last :
    (runs : List Run) (bs : List Band) (b : Band) (y : ℕ) → bands_depth bs ≤ y → y < b.bottom
    → runs_at runs (bs ++ b ∷ []) y ≡ band_runs runs b
runs_at-last runs bs b y l u =
    runs_at-below runs bs (b ∷ []) y l ∙ cond-true _ _ _ (lt-ltb y b.bottom u)

-- further runs change no band
band_runs-longer : (runs more : List Run) (b : Band) → IsBand runs b → band_runs (runs ++ more) b ≡ band_runs runs b
band_runs-longer runs more b is =
    ap (take (b.end - b.start)) (drop-append-le b.start runs more (omega (arith, is.order, is.within)))
    ∙ take-append-le (b.end - b.start) (drop b.start runs) more
    (omega (arith, is.order, is.within, length-drop b.start runs))

pub IsBand-longer : (runs more : List Run) (b : Band) → IsBand runs b → IsBand (runs ++ more) b
IsBand-longer runs more b is = record {
  order = is.order;
  within = omega (arith, is.within, length-append runs more);
  row = subst IsRow (sym (band_runs-longer runs more b is)) is.row;
}

pub runs_at-longer :
    (runs more : List Run) (bs : List Band) (y : ℕ) → All (IsBand runs) bs
    → runs_at (runs ++ more) bs y ≡ runs_at runs bs y
runs_at-longer runs more [] y h = refl
runs_at-longer runs more (b ∷ bs) y h =
    ap (λ r. if nat_lt y b.bottom then r else runs_at (runs ++ more) bs y)
    (band_runs-longer runs more b (All-head (IsBand runs) b bs h))
    ∙ ap (λ r. if nat_lt y b.bottom then band_runs runs b else r)
    (runs_at-longer runs more bs y (All-tail (IsBand runs) b bs h))

-- the runs at the end are those of a new band
new_runs :
    (runs row : List Run) (b : Band) → b.start ≡ length runs → b.end ≡ length (runs ++ row)
    → band_runs (runs ++ row) b ≡ row
new_runs runs row b e f =
    ap (take (b.end - b.start)) (drop_at runs row b.start (sym e))
    ∙ take_all (b.end - b.start) row (omega (arith, e, f, length-append runs row))

-- what a band more makes of rows
pub HasBandMore-push :
    (old new : Rows) (row : List Run) (b : Band) → AreRows old → IsRow row → depth old ≤ b.bottom
    → new.runs.items ≡ old.runs.items ++ row → new.bands.items ≡ old.bands.items ++ b ∷ []
    → b.start ≡ length old.runs.items → b.end ≡ length new.runs.items → HasBandMore old row b.bottom new
HasBandMore-push old new row b is row_is deep runs_is bands_is start end =
    let runs = old.runs.items in
    let bands = old.bands.items in
    let band : band_runs (runs ++ row) b ≡ row = new_runs runs row b start (end ∙ ap length runs_is) in
    let more : All (IsBand (runs ++ row)) (bands ++ b ∷ []) =
    All-push (IsBand (runs ++ row)) bands b
    (All-weaker (IsBand runs) (IsBand (runs ++ row)) (IsBand-longer runs row) bands is)
    (record {
      order = omega (arith, start, end, ap length runs_is, length-append runs row);
      within = omega (arith, end, ap length runs_is);
      row = subst IsRow (sym band) row_is;
    }) in
    let same : (y : ℕ) → row_at new y ≡ runs_at (runs ++ row) (bands ++ b ∷ []) y =
    λ y. ap (λ r. runs_at r new.bands.items y) runs_is ∙ ap (λ bs. runs_at (runs ++ row) bs y) bands_is in
    record {
      rows = subst (λ r. All (IsBand r) new.bands.items) (sym runs_is)
          (subst (All (IsBand (runs ++ row))) (sym bands_is) more);
      deep = ap bands_depth bands_is ∙ omega (arith, depth-push bands b, deep);
      above = λ y l. same y ∙ runs_at-above (runs ++ row) bands (b ∷ []) y l ∙ runs_at-longer runs row bands y is;
      last = λ y l u. same y ∙ runs_at-last (runs ++ row) bands b y l u ∙ band;
    }

-- where all of the first bands are passed, there is one more
pub passed_within :
    (bs : List Band) (n y : ℕ) → AllWithin (λ b. b.bottom ≤ y) bs 0 n → y < bands_depth bs → n < length bs
passed_within bs n y passed deep =
    elim (cases_lt n (length bs)) [
      | inl l ↦ l
      | inr l ↦ absurd (omega (arith, depth-within bs y (λ k d a. passed k d (omega arith) (omega arith))))
    ]

-- one band more is passed
pub passed_more :
    (bs : List Band) (n y : ℕ) (b : Band) → AllWithin (λ b. b.bottom ≤ y) bs 0 n → n < length bs
    → b ≡ get_or bs n b → b.bottom ≤ y → AllWithin (λ b. b.bottom ≤ y) bs 0 (n + 1)
passed_more bs n y b passed l e h k d p q =
    elim (cases_lt k n) [
      | inl a ↦ passed k d p a
      | inr a ↦
          let at : n ≡ k = omega arith in
          let same : b ≡ get_or bs k d = get_or_read bs n b l e d ∙ ap (λ i. get_or bs i d) at in
          subst (λ (v : Band). v.bottom ≤ y) same h
    ]

-- the rows of the first band that isn't passed have its runs
pub row_at-band :
    (s : Rows) (k y z : ℕ) (b : Band) → k < length s.bands.items → ArePassed s k y → b ≡ get_or s.bands.items k b
    → y ≤ z → z < b.bottom → row_at s z ≡ band_runs s.runs.items b
row_at-band s k y z b l passed e p q =
    runs_at-found s.runs.items s.bands.items k z b l (λ j d r t. omega (arith, passed j d r t))
    (subst (λ (v : Band). z < v.bottom) e q)
    ∙ ap (band_runs s.runs.items) (sym e)

pub bottom_within :
    (bs : List Band) (k : ℕ) (b : Band) → k < length bs → b ≡ get_or bs k b → b.bottom ≤ bands_depth bs
bottom_within bs k b l e = subst (λ (v : Band). v.bottom ≤ bands_depth bs) (sym e) (All-depth bs k b l)

IsRow-runs_at : (runs : List Run) (bs : List Band) (y : ℕ) → All (IsBand runs) bs → IsRow (runs_at runs bs y)
IsRow-runs_at runs [] y h = record { some = λ k d l. absurd (omega arith); apart = λ i j d a b. absurd (omega arith) }
IsRow-runs_at runs (b ∷ bs) y h =
    elim (cases_lt y b.bottom) [
      | inl a ↦ subst IsRow (sym (cond-true _ _ _ (lt-ltb y b.bottom a))) (All-head (IsBand runs) b bs h).row
      | inr a ↦ subst IsRow (sym (cond-false _ _ _ (le-ltb y b.bottom a)))
          (IsRow-runs_at runs bs y (All-tail (IsBand runs) b bs h))
    ]

-- each row is a row
pub IsRow-at : (s : Rows) (y : ℕ) → AreRows s → IsRow (row_at s y)
IsRow-at s y is = IsRow-runs_at s.runs.items s.bands.items y is

-- the last band made longer
pub HasBandMore-longer :
    (old new : Rows) (i j bottom : ℕ) (d k : Band) → AreRows old → i + 1 ≡ length old.bands.items → i ≡ j
    → k ≡ get_or old.bands.items i k → depth old ≤ bottom → new.runs.items ≡ old.runs.items
    → new.bands.items ≡ set old.bands.items i (record k { bottom = bottom })
    → HasBandMore old (band_runs old.runs.items (get_or old.bands.items j d)) bottom new
HasBandMore-longer old new i j bottom d k is n at e deep runs_is bands_is =
    let runs = old.runs.items in
    let bands = old.bands.items in
    let above : List Band = take i bands in
    let longer : Band = record k { bottom = bottom } in
    let row : List Run = band_runs runs k in
    let row_is : row ≡ band_runs runs (get_or bands j d) =
    ap (band_runs runs) (get_or_read bands i k (omega arith) e d ∙ ap (λ m. get_or bands m d) at) in
    let before : bands ≡ above ++ k ∷ [] =
    sym (take_all (i + 1) bands (omega arith)) ∙ take_more bands i k (omega arith)
    ∙ ap (λ v. above ++ v ∷ []) (sym e) in
    let after : set bands i longer ≡ above ++ longer ∷ [] =
    sym (take_all (i + 1) (set bands i longer) (omega (arith, length-set bands i longer)))
    ∙ take_more_set bands i longer (omega arith) in
    let k_is : IsBand runs k = subst (IsBand runs) (sym e) (is i k (omega arith)) in
    let deep_was : depth old ≡ max (bands_depth above) k.bottom = ap bands_depth before ∙ depth-push above k in
    let same : (y : ℕ) → row_at new y ≡ runs_at runs (above ++ longer ∷ []) y =
    λ y. ap (λ r. runs_at r new.bands.items y) runs_is ∙ ap (λ bs. runs_at runs bs y) (bands_is ∙ after) in
    let was : (y : ℕ) → row_at old y ≡ runs_at runs (above ++ k ∷ []) y = λ y. ap (λ bs. runs_at runs bs y) before in
    record {
      rows = subst (λ r. All (IsBand r) new.bands.items) (sym runs_is)
          (subst (All (IsBand runs)) (sym bands_is)
          (All-set (IsBand runs) bands i longer
          (record { order = k_is.order; within = k_is.within; row = k_is.row }) is));
      deep = ap bands_depth (bands_is ∙ after) ∙ omega (arith, depth-push above longer, deep_was, deep);
      above = λ y l. elim (cases_lt y (bands_depth above)) [
        | inl a ↦ same y ∙ runs_at-above runs above (longer ∷ []) y a
            ∙ sym (runs_at-above runs above (k ∷ []) y a) ∙ sym (was y)
        | inr a ↦ same y ∙ runs_at-last runs above longer y a (omega (arith, deep_was, deep, l))
            ∙ sym (runs_at-last runs above k y a (omega (arith, deep_was, l))) ∙ sym (was y)
      ];
      last = λ y l u. same y ∙ runs_at-last runs above longer y (omega (arith, deep_was, l)) u ∙ row_is;
    }
