-- The runs of a row are its maximal runs, so the bands give the canonical list.
use Rattle.std.proofs.Common.{◌≡◌, ℕ, suc, ◌-◌, ◌<◌, ◌≤◌, List, [], ◌∷◌, ◌++◌, Bool, true, false, ◌||◌, map, get_or, sym, ap, ◌∙◌, refl, arith, inl, inr, append_assoc}
use Rattle.std.proofs.Math.Path.{fun_ext}
use Rattle.std.specs.Prelude.{All}
use Rattle.std.proofs.lemmas.Bool.{cases_lt, false≢true, or_left, or_from, and_from, and_left, and_right, lt-ltb, le-ltb, le-leb, lt-leb}
use Rattle.std.proofs.lemmas.List.{append-nil}
use Rattle.std.proofs.lemmas.List.Elements.{All-tail, All-weaker}
use Rattle.std.proofs.lemmas.List.Folds.{list_any_none, list_any_at}
use Rattle.dd_geom.specs.declared.rect.Rect.{Rect}
use Rattle.dd_geom.specs.Rect.{place}
use Rattle.dd_bits.specs.CanonicalList.{row_runs, HasNone, IsRun}
use Rattle.dd_bits.proofs.RowRuns.{runs_from, IsDone, IsDone-more, IsDone-all}
use Rattle.dd_region.specs.declared.run.Run.{Run}
use Rattle.dd_region.specs.Runs.{in_run, in_runs, IsRow}
use Rattle.dd_region.specs.Listing.{run_rect}

in_run-inside : (r : Run) (x : ℕ) → r.left ≤ x → x < r.right → in_run r x ≡ true
in_run-inside r x a b = and_from _ _ (le-leb r.left x a) (lt-ltb x r.right b)

in_run-before : (r : Run) (x : ℕ) → x < r.left → in_run r x ≡ false
in_run-before r x a = and_left _ _ (lt-leb r.left x a)

in_run-after : (r : Run) (x : ℕ) → r.right ≤ x → in_run r x ≡ false
in_run-after r x a = and_right _ _ (le-ltb x r.right a)

-- no run has a column before all of them
in_runs-before : (rs : List Run) (x : ℕ) → All (λ r. x < r.left) rs → in_runs rs x ≡ false
in_runs-before rs x h =
    list_any_none (λ r. in_run r x) rs
    (All-weaker (λ (r : Run). x < r.left) (λ (r : Run). in_run r x ≡ false) (λ r a. in_run-before r x a) rs h)

-- a row without its first run
IsRow-tail : (r : Run) (rs : List Run) → IsRow (r ∷ rs) → IsRow rs
IsRow-tail r rs is = record {
  some = All-tail (λ (s : Run). s.left < s.right) r rs is.some;
  apart = λ i j d a b. is.apart (suc i) (suc j) d (omega arith) (omega arith);
}

apart_first : (r : Run) (rs : List Run) → IsRow (r ∷ rs) → All (λ s. r.right < s.left) rs
apart_first r rs is k d l = is.apart 0 (suc k) d (omega arith) (omega arith)

-- no run ends past a column from which on a row has none
pub ends_within :
    (rs : List Run) (w : ℕ) → IsRow rs → ((x : ℕ) → w ≤ x → in_runs rs x ≡ false) → All (λ r. r.right ≤ w) rs
ends_within rs w is none k d l =
    elim (cases_lt w (get_or rs k d).right) [
      | inl a ↦
          let r : Run = get_or rs k d in
          let some : r.left < r.right = is.some k d l in
          let last : in_run r (r.right - 1) ≡ true = in_run-inside r (r.right - 1) (omega arith) (omega arith) in
          let there : in_runs rs (r.right - 1) ≡ true = list_any_at (λ s. in_run s (r.right - 1)) rs k d l last in
          absurd (false≢true (sym (none (r.right - 1) (omega arith)) ∙ there))
      | inr a ↦ a
    ]

-- the runs that are left to find are those of the rest of a row
runs_found :
    (p : ℕ → Bool) (w top bottom from : ℕ) (rs : List Run) (before now : List Rect)
    → IsDone p w top bottom from before now → IsRow rs → All (λ r. r.right ≤ w) rs → All (λ r. from ≤ r.left) rs
    → ((x : ℕ) → from ≤ x → p x ≡ in_runs rs x)
    → now ++ map (run_rect top bottom) rs ≡ before ++ row_runs p w top bottom
runs_found p w top bottom from [] before now done is within after same =
    append-nil now
    ∙ IsDone-all p w top bottom from before now done (λ x a b e. absurd (false≢true (sym (same x a) ∙ e)))
runs_found p w top bottom from (r ∷ rs) before now done is within after same =
    let some : r.left < r.right = is.some 0 r (omega arith) in
    let apart : All (λ s. r.right < s.left) rs = apart_first r rs is in
    let begin : from ≤ r.left = after 0 r (omega arith) in
    let none : HasNone p true from r.left = λ x a b e. absurd (false≢true (sym (same x a
    ∙ or_from _ _ (in_run-before r x b) (in_runs-before rs x (All-weaker (λ (s : Run). r.right < s.left)
    (λ (s : Run). x < s.left) (λ s l. omega arith) rs apart))) ∙ e)) in
    let run : IsRun p r.left r.right = record {
      some = some;
      marked = λ x a b. same x (omega arith) ∙ or_left _ _ (in_run-inside r x a b);
      end = same r.right (omega arith)
          ∙ or_from _ _ (in_run-after r r.right (omega arith)) (in_runs-before rs r.right apart);
    } in
    let next : List Rect = now ++ run_rect top bottom r ∷ [] in
    let more : IsDone p w top bottom r.right before next =
    IsDone-more p w top bottom from r.left r.right before now next done none run begin
    (within 0 r (omega arith)) refl in
    sym (append_assoc now (run_rect top bottom r ∷ []) (map (run_rect top bottom) rs))
    ∙ runs_found p w top bottom r.right rs before next more (IsRow-tail r rs is)
    (All-tail (λ (s : Run). s.right ≤ w) r rs within)
    (All-weaker (λ (s : Run). r.right < s.left) (λ (s : Run). r.right ≤ s.left) (λ s l. omega (arith, l)) rs apart)
    (λ x a. same x (omega arith) ∙ ap (λ b. b || in_runs rs x) (in_run-after r x a))

-- the maximal runs of a row's columns are its runs
pub runs_of_row :
    (rs : List Run) (w top bottom : ℕ) → IsRow rs → All (λ r. r.right ≤ w) rs
    → row_runs (in_runs rs) w top bottom ≡ map (run_rect top bottom) rs
runs_of_row rs w top bottom is within =
    let all : w - 0 ≡ w = omega arith in
    let start : IsDone (in_runs rs) w top bottom 0 [] [] = record {
      within = omega arith;
      fresh = λ l. absurd (omega arith);
      so_far = ap (runs_from (in_runs rs) w top bottom 0) all;
    } in
    sym (runs_found (in_runs rs) w top bottom 0 rs [] [] start is within (λ k d l. omega arith) (λ x a. refl))

same_run : (top bottom : ℕ) (r s : Run) → run_rect top bottom r ≡ run_rect top bottom s → r ≡ s
same_run top bottom r s e =
    let left : r.left ≡ s.left = ap (λ (t : Rect). place t.left) e in
    let right : r.right ≡ s.right = ap (λ (t : Rect). place t.right) e in
    let first : r ≡ record { left = s.left; right = r.right } = ap (λ n. record { left = n; right = r.right }) left in
    first ∙ ap (λ n. record { left = s.left; right = n }) right

same_maps :
    (top bottom : ℕ) (rs ss : List Run) → map (run_rect top bottom) rs ≡ map (run_rect top bottom) ss → rs ≡ ss
same_maps top bottom [] [] e = refl
same_maps top bottom [] (s ∷ ss) e = cc
same_maps top bottom (r ∷ rs) [] e = cc
same_maps top bottom (r ∷ rs) (s ∷ ss) e =
    let f : Run → Rect = run_rect top bottom in
    let head : f r ≡ f s = cc in
    let tail : map f rs ≡ map f ss = cc in
    let first : r ≡ s = same_run top bottom r s head in
    let rest : rs ≡ ss = same_maps top bottom rs ss tail in
    ap (λ v. v ∷ rs) first ∙ ap (λ v. s ∷ v) rest

-- rows that have the same columns have the same runs
pub rows_tell :
    (rs ss : List Run) (w : ℕ) → IsRow rs → IsRow ss → All (λ r. r.right ≤ w) rs → All (λ r. r.right ≤ w) ss
    → ((x : ℕ) → in_runs rs x ≡ in_runs ss x) → rs ≡ ss
rows_tell rs ss w a b within_a within_b same =
    same_maps 0 0 rs ss
    (sym (runs_of_row rs w 0 0 a within_a) ∙ ap (λ p. row_runs p w 0 0) (fun_ext same)
    ∙ runs_of_row ss w 0 0 b within_b)
