-- Bands whose runs were copied together.
use Rattle.std.proofs.Common.{◌≡◌, ℕ, zero, suc, ◌+◌, ◌-◌, ◌<◌, ◌≤◌, List, [], ◌∷◌, ◌++◌, nat_lt, if◌then◌else◌, length, map, get_or, take, drop, sym, ap, ◌∙◌, refl, subst, arith, length-append, length-drop}
use Rattle.std.specs.Prelude.{All}
use Rattle.std.specs.List.{AllWithin, slice_range}
use Rattle.std.proofs.Math.Seq.{drop-append-add}
use Rattle.std.proofs.lemmas.Bool.{lt-ltb, le-ltb, cond-true, cond-false}
use Rattle.std.proofs.lemmas.List.{get_or-take, get_or-drop, drop-drop, drop-take, take-take, length-take}
use Rattle.std.proofs.lemmas.List.Elements.{All-append, All-push, All-map, All-weaker}
use Rattle.dd_region.specs.declared.run.Run.{Run}
use Rattle.dd_region.specs.declared.rows.Band.{Band}
use Rattle.dd_region.specs.declared.rows.Rows.{Rows}
use Rattle.dd_region.specs.declared.carry.Span.{Span}
use Rattle.dd_region.specs.Runs.{IsRow}
use Rattle.dd_region.specs.Rows.{band_runs, runs_at, row_at, bands_depth, depth, IsBand, AreRows, ArePassed}
use Rattle.dd_region.specs.Carry.{IsInSpan, moved_band}
use Rattle.dd_region.specs.Sweep.{HasRowsOf}
use Rattle.dd_region.proofs.BandLemmas.{depth-append, depth-within, runs_at-above, runs_at-below, runs_at-longer, IsBand-longer}

-- what holds from one place to another holds of that slice
pub All-slice :
    {X : Type 0} (P : X → Type 0) (xs : List X) (a b : ℕ) → AllWithin P xs a b → All P (slice_range xs a b)
All-slice P xs a b h k d l =
    let short : k < b - a = omega (arith, l, length-take (b - a) (drop a xs)) in
    subst P (sym (get_or-take (b - a) (drop a xs) k d short ∙ get_or-drop a xs k d))
    (h (a + k) d (omega arith) (omega (arith, short)))

-- a band whose runs lie in a span of some runs
pub record IsBandIn (runs : List Run) (s : Span) (b : Band) : Type 0 where
  pub band : IsBand runs b
  pub inside : IsInSpan s b
  pub within : s.end ≤ length runs

-- once the span is copied, the moved band has the same runs
pub moved_runs :
    (before runs : List Run) (s : Span) (base : ℕ) (b : Band) → base ≡ length before → IsBandIn runs s b
    → band_runs (before ++ slice_range runs s.start s.end) (moved_band s.start base b) ≡ band_runs runs b
moved_runs before runs s base b at is =
    let k : ℕ = b.start - s.start in
    let part : List Run = slice_range runs s.start s.end in
    let rest : drop k part ≡ take (s.end - b.start) (drop b.start runs) =
    ap (λ n. drop k (take n (drop s.start runs)))
    (omega (arith, is.inside.from, is.inside.to, is.band.order))
    ∙ drop-take k (s.end - b.start) (drop s.start runs)
    ∙ ap (take (s.end - b.start))
    (drop-drop k s.start runs ∙ ap (λ n. drop n runs) (omega (arith, is.inside.from))) in
    ap (λ n. take n (drop (b.start - s.start + base) (before ++ part)))
    (omega (arith, is.inside.from, is.band.order))
    ∙ ap (λ n. take (b.end - b.start) (drop n (before ++ part))) (omega (arith, at))
    ∙ ap (take (b.end - b.start)) (drop-append-add before part k ∙ rest)
    ∙ take-take (b.end - b.start) (s.end - b.start) (drop b.start runs) (omega (arith, is.inside.to))

pub IsBand-moved :
    (before runs : List Run) (s : Span) (base : ℕ) (b : Band) → base ≡ length before → IsBandIn runs s b
    → IsBand (before ++ slice_range runs s.start s.end) (moved_band s.start base b)
IsBand-moved before runs s base b at is =
    let part : List Run = slice_range runs s.start s.end in
    record {
      order = omega (arith, is.band.order);
      within = omega (
        arith,
        at,
        length-append before part,
        length-take (s.end - s.start) (drop s.start runs),
        length-drop s.start runs,
        is.within,
        is.inside.from,
        is.inside.to,
        is.band.order,
      );
      row = subst IsRow (sym (moved_runs before runs s base b at is)) is.band.row;
    }

-- bands that end above a row don't count for it
runs_at-drop :
    (runs : List Run) (bs : List Band) (n y : ℕ) → AllWithin (λ b. b.bottom ≤ y) bs 0 n
    → runs_at runs bs y ≡ runs_at runs (drop n bs) y
runs_at-drop runs bs zero y passed = refl
runs_at-drop runs [] (suc n) y passed = refl
runs_at-drop runs (b ∷ bs) (suc n) y passed =
    cond-false _ _ _ (le-ltb y b.bottom (passed 0 b (omega arith) (omega arith)))
    ∙ runs_at-drop runs bs n y (λ k d p q. passed (suc k) d (omega arith) (omega arith))

-- the first bands moved, and the next one cut: the rows that they have are the same
runs_at-moved :
    (all runs : List Run) (bs : List Band) (n from to y : ℕ) (cut d : Band) → n < length bs
    → AllWithin (λ b. band_runs all (moved_band from to b) ≡ band_runs runs b) bs 0 n
    → band_runs all cut ≡ band_runs runs (get_or bs n d) → y < cut.bottom → y < (get_or bs n d).bottom
    → runs_at all (map (moved_band from to) (take n bs) ++ cut ∷ []) y ≡ runs_at runs bs y
runs_at-moved all runs [] n from to y cut d l same last p q = absurd (omega arith)
runs_at-moved all runs (b ∷ bs) zero from to y cut d l same last p q =
    cond-true _ _ _ (lt-ltb y cut.bottom p) ∙ last ∙ sym (cond-true _ _ _ (lt-ltb y b.bottom q))
runs_at-moved all runs (b ∷ bs) (suc n) from to y cut d l same last p q =
    ap (λ r. if nat_lt y b.bottom then r else runs_at all (map (moved_band from to) (take n bs) ++ cut ∷ []) y)
    (same 0 b (omega arith) (omega arith))
    ∙ ap (λ r. if nat_lt y b.bottom then band_runs runs b else r)
    (runs_at-moved all runs bs n from to y cut d (omega arith)
    (λ k e a c. same (suc k) e (omega arith) (omega arith)) last p q)

-- a band down to another row
abbrev cut_band : ℕ → Band → Band
cut_band to b = record { bottom = to; start = b.start; end = b.end }

-- what is added for the bands from the first to the last one, which is b
abbrev carried : List Band → Span → ℕ → ℕ → ℕ → ℕ → Band → List Band
carried bands s base first last to b =
    map (moved_band s.start base) (slice_range bands first last) ++ moved_band s.start base (cut_band to b) ∷ []

-- rows to which the bands from the first to the last one of other rows were added, with the runs of a span
pub record IsCarried (old was now : Rows) (s : Span) (base first last to : ℕ) (b : Band) : Type 0 where
  pub rows : AreRows old
  pub before : AreRows was
  pub deep : depth was < to
  pub above : ArePassed old first (depth was)
  pub order : first ≤ last
  pub inside : last < length old.bands.items
  pub passed : ArePassed old last (to - 1)
  pub found : (d : Band) → to - 1 < (get_or old.bands.items last d).bottom
  pub is_last : b ≡ get_or old.bands.items last b
  pub within : s.end ≤ length old.runs.items
  pub all : AllWithin (IsInSpan s) old.bands.items first (last + 1)
  pub base_is : base ≡ length was.runs.items
  pub runs_are : now.runs.items ≡ was.runs.items ++ slice_range old.runs.items s.start s.end
  pub bands_are : now.bands.items ≡ was.bands.items ++ carried old.bands.items s base first last to b

-- each of the bands lies in the span, and the cut one too
each_in :
    (old was now : Rows) (s : Span) (base first last to : ℕ) (b : Band) → IsCarried old was now s base first last to b
    → AllWithin (IsBandIn old.runs.items s) old.bands.items first (last + 1)
each_in old was now s base first last to b c k d p q =
    record { band = c.rows k d (omega (arith, c.inside)); inside = c.all k d p q; within = c.within }

cut_in :
    (old was now : Rows) (s : Span) (base first last to : ℕ) (b : Band) → IsCarried old was now s base first last to b
    → IsBandIn old.runs.items s (cut_band to b)
cut_in old was now s base first last to b c =
    let is : IsBandIn old.runs.items s b =
    subst (IsBandIn old.runs.items s) (sym c.is_last)
    (each_in old was now s base first last to b c last b c.order (omega arith)) in
    record {
      band = record { order = is.band.order; within = is.band.within; row = is.band.row };
      inside = record { from = is.inside.from; to = is.inside.to };
      within = is.within;
    }

-- what is added are bands
carried_are :
    (old was now : Rows) (s : Span) (base first last to : ℕ) (b : Band) → IsCarried old was now s base first last to b
    → All (IsBand (was.runs.items ++ slice_range old.runs.items s.start s.end))
    (carried old.bands.items s base first last to b)
carried_are old was now s base first last to b c =
    let some : List Band = slice_range old.bands.items first last in
    let is : Band → Type 0 = IsBand (was.runs.items ++ slice_range old.runs.items s.start s.end) in
    All-push is (map (moved_band s.start base) some) (moved_band s.start base (cut_band to b))
    (All-map is (moved_band s.start base) some
    (All-weaker (IsBandIn old.runs.items s) (λ v. is (moved_band s.start base v))
    (λ v h. IsBand-moved was.runs.items old.runs.items s base v c.base_is h) some
    (All-slice (IsBandIn old.runs.items s) old.bands.items first last
    (λ k d p q. each_in old was now s base first last to b c k d p (omega (arith, q))))))
    (IsBand-moved was.runs.items old.runs.items s base (cut_band to b) c.base_is
    (cut_in old was now s base first last to b c))

-- they reach down to where the last one was cut
carried_deep :
    (old was now : Rows) (s : Span) (base first last to : ℕ) (b : Band) → IsCarried old was now s base first last to b
    → bands_depth (carried old.bands.items s base first last to b) ≡ to
carried_deep old was now s base first last to b c =
    let some : List Band = slice_range old.bands.items first last in
    let short : bands_depth (map (moved_band s.start base) some) ≤ to =
    depth-within (map (moved_band s.start base) some) to
    (All-map (λ v. v.bottom ≤ to) (moved_band s.start base) some
    (All-slice (λ v. v.bottom ≤ to) old.bands.items first last
    (λ k d p q. omega (arith, c.passed k d (omega arith) q)))) in
    omega (
      arith,
      depth-append (map (moved_band s.start base) some) (moved_band s.start base (cut_band to b) ∷ []),
      short,
    )

-- and have the rows of the other rows
carried_rows :
    (old was now : Rows) (s : Span) (base first last to : ℕ) (b : Band) → IsCarried old was now s base first last to b
    → (y : ℕ) → depth was ≤ y → y < to
    → runs_at (was.runs.items ++ slice_range old.runs.items s.start s.end)
    (carried old.bands.items s base first last to b) y
    ≡ row_at old y
carried_rows old was now s base first last to b c y p q =
    let bands = old.bands.items in
    let runs : List Run = was.runs.items ++ slice_range old.runs.items s.start s.end in
    let at : get_or (drop first bands) (last - first) b ≡ get_or bands last b =
    get_or-drop first bands (last - first) b ∙ ap (λ n. get_or bands n b) (omega (arith, c.order)) in
    runs_at-moved runs old.runs.items (drop first bands) (last - first) s.start base y
    (moved_band s.start base (cut_band to b)) b (omega (arith, c.inside, c.order, length-drop first bands))
    (λ k d u v. subst (λ e. band_runs runs (moved_band s.start base e) ≡ band_runs old.runs.items e)
    (sym (get_or-drop first bands k d))
    (moved_runs was.runs.items old.runs.items s base (get_or bands (first + k) d) c.base_is
    (each_in old was now s base first last to b c (first + k) d (omega arith) (omega (arith, v)))))
    (moved_runs was.runs.items old.runs.items s base (cut_band to b) c.base_is
    (cut_in old was now s base first last to b c)
    ∙ ap (band_runs old.runs.items) (c.is_last ∙ sym at))
    q
    (subst (λ (e : Band). y < e.bottom) (sym at) (omega (arith, q, c.found b)))
    ∙ sym (runs_at-drop old.runs.items bands first y (λ k d u v. omega (arith, c.above k d u v, p)))

pub HasRowsOf-carried :
    (old was now : Rows) (s : Span) (base first last to : ℕ) (b : Band) → IsCarried old was now s base first last to b
    → HasRowsOf old was to now
HasRowsOf-carried old was now s base first last to b c =
    let part : List Run = slice_range old.runs.items s.start s.end in
    let runs : List Run = was.runs.items ++ part in
    let more : List Band = carried old.bands.items s base first last to b in
    let same : (y : ℕ) → row_at now y ≡ runs_at runs (was.bands.items ++ more) y =
    λ y. ap (λ r. runs_at r now.bands.items y) c.runs_are ∙ ap (λ bs. runs_at runs bs y) c.bands_are in
    let bands : All (IsBand runs) (was.bands.items ++ more) =
    All-append (IsBand runs) was.bands.items more
    (All-weaker (IsBand was.runs.items) (IsBand runs) (IsBand-longer was.runs.items part) was.bands.items c.before)
    (carried_are old was now s base first last to b c) in
    record {
      rows = subst (λ r. All (IsBand r) now.bands.items) (sym c.runs_are)
          (subst (All (IsBand runs)) (sym c.bands_are) bands);
      deep = ap bands_depth c.bands_are
          ∙ omega (
            arith,
            depth-append was.bands.items more,
            carried_deep old was now s base first last to b c,
            c.deep,
          );
      above = λ y p. same y ∙ runs_at-above runs was.bands.items more y p
          ∙ runs_at-longer was.runs.items part was.bands.items y c.before;
      added = λ y p q. same y ∙ runs_at-below runs was.bands.items more y p
          ∙ carried_rows old was now s base first last to b c y p q;
    }
