-- A row made of two, run by run.
use Rattle.std.proofs.Common.{◌≡◌, ℕ, ◌+◌, ◌<◌, ◌≤◌, List, Bool, true, false, ◌||◌, length, get_or, take, sym, ap, ◌∙◌, refl, arith, inl, inr}
use Rattle.std.proofs.lemmas.Bool.{cases_lt}
use Rattle.std.proofs.lemmas.List.{get_or_default}
use Rattle.std.proofs.lemmas.List.Elements.{All-weaker}
use Rattle.std.proofs.lemmas.List.Folds.{list_any_more}
use Rattle.dd_region.specs.declared.run.Run.{Run}
use Rattle.dd_region.specs.Runs.{in_run, in_runs, IsRow, BeginBy}
use Rattle.dd_region.specs.Tiling.{IsUnited}

-- the runs of a row begin from left to right
pub begin_order :
    (rs : List Run) (i k : ℕ) (d : Run) → IsRow rs → i ≤ k → k < length rs → (get_or rs i d).left ≤ (get_or rs k d).left
begin_order rs i k d is a b =
    elim (cases_lt i k) [
      | inl l ↦ omega (arith, is.some i d (omega arith), is.apart i k d l b)
      | inr l ↦ let e : i ≡ k = omega arith in omega (arith, ap (λ n. (get_or rs n d).left) e)
    ]

pub begin_weaker : (row : List Run) (a b : ℕ) → a ≤ b → BeginBy row a → BeginBy row b
begin_weaker row a b l begin =
    All-weaker (λ (r : Run). r.left ≤ a) (λ (r : Run). r.left ≤ b) (λ r h. omega (arith, h, l)) row begin

-- two rows can change places
or_turn : (a b : Bool) → (a || b) ≡ (b || a)
or_turn true true = refl
or_turn true false = refl
or_turn false true = refl
or_turn false false = refl

pub IsUnited-turned :
    (first second : List Run) (i j : ℕ) (row : List Run) → IsUnited first second i j row → IsUnited second first j i row
IsUnited-turned first second i j row is = record {
  columns = λ x. is.columns x ∙ or_turn (in_runs (take i first) x) (in_runs (take j second) x);
  row = is.row;
  within_first = is.within_second;
  within_second = is.within_first;
  first = is.second;
  second = is.first;
}

or_last : (a b c : Bool) → ((a || b) || c) ≡ ((a || c) || b)
or_last true b c = refl
or_last false true true = refl
or_last false true false = refl
or_last false false true = refl
or_last false false false = refl

-- the next run of the first row is added
pub IsUnited-more :
    (first second : List Run) (i j : ℕ) (row new : List Run) (e : Run) → IsUnited first second i j row → IsRow first
    → IsRow second → i < length first
    → (j < length second → (d : Run) → (get_or first i d).left ≤ (get_or second j d).left)
    → ((x : ℕ) → in_runs new x ≡ (in_runs row x || in_run (get_or first i e) x)) → IsRow new
    → BeginBy new (get_or first i e).left → IsUnited first second (i + 1) j new
IsUnited-more first second i j row new e is first_is second_is l before columns new_is begin =
    let run : Run = get_or first i e in
    let left : (d : Run) → run.left ≡ (get_or first i d).left =
    λ d. ap (λ (r : Run). r.left) (get_or_default first i e d l) in
    record {
      columns = λ x. columns x ∙ ap (λ b. b || in_run run x) (is.columns x)
          ∙ or_last (in_runs (take i first) x) (in_runs (take j second) x) (in_run run x)
          ∙ ap (λ b. b || in_runs (take j second) x) (sym (list_any_more (λ r. in_run r x) first i e l));
      row = new_is;
      within_first = omega arith;
      within_second = is.within_second;
      first = λ k d a b. begin_weaker new run.left (get_or first k d).left
          (omega (arith, left d, begin_order first i k d first_is (omega arith) b)) begin;
      second = λ k d a b. begin_weaker new run.left (get_or second k d).left
          (omega (arith, left d, before (omega arith) d, begin_order second j k d second_is a b)) begin;
    }
