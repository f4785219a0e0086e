-- The runs of a row, found one after another: what is left to find from a column on.
use Rattle.std.proofs.Common.{◌≡◌, ◌≢◌, ℕ, zero, suc, ◌+◌, ◌-◌, ◌<◌, ◌≤◌, List, [], ◌∷◌, ◌++◌, Bool, true, false, not, ◌&&◌, nat_lt, refl, sym, ap, ◌∙◌, arith, append_assoc, length, ◌*◌, rules, tests, inl, inr}
use Rattle.std.proofs.Math.Path.{fun_ext}
use Rattle.std.proofs.lemmas.List.{append-nil, get_or-take, get_or-drop, get_or_past}
use Rattle.std.proofs.lemmas.Bool.{cases_lt, cond-true, cond-false, false≢true}
use Rattle.std.specs.List.{flat_map, range_with_len}
use Rattle.dd_geom.specs.declared.rect.Rect.{Rect}
use Rattle.dd_bits.proofs.RunEnd.{run_end-suc, run_end-here}
use Rattle.dd_geom.specs.Grid.{Grid, row}
use Rattle.dd_geom.proofs.GridLemmas.{value_at-place, value_at-right}
use Rattle.dd_bits.specs.Area.{is_in}
use Rattle.dd_bits.specs.CanonicalList.{run_end, starts_run, rect_from, run_at, row_runs, is_marked, HasNone, IsRun}

-- the runs that start at the columns k to k + n - 1
abbrev pub runs_from : (ℕ → Bool) → ℕ → ℕ → ℕ → ℕ → ℕ → List Rect
runs_from p w top bottom k n = flat_map (run_at p w top bottom) (range_with_len k n)

-- the columns before k are done with, and no run goes on over k
pub record IsDone (p : ℕ → Bool) (w top bottom k : ℕ) (before now : List Rect) : Type 0 where
  pub within : k ≤ w
  pub fresh : 0 < k → p k ≡ false
  pub so_far : now ++ runs_from p w top bottom k (w - k) ≡ before ++ row_runs p w top bottom

-- what is not true is false
pub not_true : (b : Bool) → b ≢ true → b ≡ false
not_true true h = absurd (h refl)
not_true false h = refl

pub no_start : (p : ℕ → Bool) (x : ℕ) → p x ≡ false → starts_run p x ≡ false
no_start p x e = rw e refl

no_starts :
    (p : ℕ → Bool) (from to : ℕ) → HasNone p true from to
    → (x : ℕ) → from ≤ x → x < to → starts_run p x ≡ false
no_starts p from to none x a b = no_start p x (not_true (p x) (none x a b))

-- no run starts just after a marked column
inner_start : (p : ℕ → Bool) (x : ℕ) → 0 < x → p (x - 1) ≡ true → starts_run p x ≡ false
inner_start p x l e =
    let t : nat_lt 0 x ≡ true = search (rules, tests) in
    elim (p x) as (λ b. (b && not (nat_lt 0 x && p (x - 1))) ≡ false) [ true ↦ rw (t, e) refl | false ↦ refl ]

-- and where a marked column has none before it, a run starts
pub first_start : (p : ℕ → Bool) (x : ℕ) → p x ≡ true → (0 < x → p (x - 1) ≡ false) → starts_run p x ≡ true
first_start p zero e h = rw e refl
first_start p (suc x) e h = rw (e, h (omega arith)) (search (rules, tests))

-- columns at which no run starts may be left out
skip :
    (p : ℕ → Bool) (w top bottom i k n j m : ℕ) → j ≡ k + i → n ≡ i + m
    → ((x : ℕ) → k ≤ x → x < j → starts_run p x ≡ false)
    → runs_from p w top bottom k n ≡ runs_from p w top bottom j m
skip p w top bottom zero k n j m e f h =
    let a : k ≡ j = omega arith in
    let b : n ≡ m = omega arith in
    ap (λ v. runs_from p w top bottom v n) a ∙ ap (runs_from p w top bottom j) b
skip p w top bottom (suc i) k zero j m e f h = absurd (omega arith)
skip p w top bottom (suc i) k (suc n) j m e f h =
    ap (λ v. v ++ runs_from p w top bottom (k + 1) n)
    (cond-false (starts_run p k) _ _ (h k (omega arith) (omega arith)))
    ∙ skip p w top bottom i (k + 1) n j m (omega arith) (omega arith) (λ x a b. h x (omega arith) b)

-- a run ends where its columns do, or where its row does
pub run_end_is :
    (p : ℕ → Bool) (i n k j : ℕ) → j ≡ k + i → i ≤ n → ((x : ℕ) → k ≤ x → x < j → p x ≡ true)
    → (i < n → p j ≡ false) → run_end p k n ≡ j
unfolding run_end
run_end_is p zero zero k j e l h f = omega arith
run_end_is p zero (suc n) k j e l h f =
    let a : k ≡ j = omega arith in run_end-here p k n (ap p a ∙ f (omega arith)) ∙ a
run_end_is p (suc i) zero k j e l h f = absurd (omega arith)
run_end_is p (suc i) (suc n) k j e l h f =
    run_end-suc p k n (h k (omega arith) (omega arith))
    ∙ run_end_is p i n (k + 1) j (omega arith) (omega arith) (λ x a b. h x (omega arith) b) (λ m. f (omega arith))

-- a run that ends before its row does ends at an unmarked column
pub run_end-stop :
    (p : ℕ → Bool) (n k e : ℕ) → run_end p k n ≡ e → e < k + n → p e ≡ false
unfolding run_end
run_end-stop p zero k e h l = absurd (omega (arith, h))
run_end-stop p (suc n) k e h l =
    let P : Bool → Type 0 = λ b. p k ≡ b → p e ≡ false in
    let cases : (b : Bool) → P b = λ b. elim b as P [
      | true ↦ λ m. run_end-stop p n (k + 1) e (sym (run_end-suc p k n m) ∙ h) (omega arith)
      | false ↦ λ m. ap p (sym h ∙ run_end-here p k n m) ∙ m
    ] in
    cases (p k) refl

-- a run that starts at its left column gives one rectangle
pub one_run :
    (p : ℕ → Bool) (w top bottom left right : ℕ) → starts_run p left ≡ true → IsRun p left right → right ≤ w
    → run_at p w top bottom left ≡ rect_from left top right bottom ∷ []
one_run p w top bottom left right s r l =
    let a : run_end p left (w - left) ≡ right =
    run_end_is p (right - left) (w - left) left right (omega arith) (omega arith) r.marked (λ _. r.end) in
    cond-true (starts_run p left) _ _ s ∙ ap (λ e. rect_from left top e bottom ∷ []) a

unmarked_before :
    (p : ℕ → Bool) (from left : ℕ) → (0 < from → p from ≡ false) → HasNone p true from left → from ≤ left
    → p left ≡ true → 0 < left → p (left - 1) ≡ false
unmarked_before p from left fresh none l at_left h =
    elim (cases_lt from left) [
      | inl a ↦ not_true (p (left - 1)) (none (left - 1) (omega arith) (omega arith))
      | inr b ↦
          let same : from ≡ left = omega arith in
          let no : p from ≡ false = fresh (omega arith) in
          absurd (false≢true (sym no ∙ ap p same ∙ at_left))
    ]

-- what is left to find begins with the first run
first_run :
    (p : ℕ → Bool) (w top bottom from left right : ℕ) → (0 < from → p from ≡ false) → HasNone p true from left
    → IsRun p left right → from ≤ left → right ≤ w
    → runs_from p w top bottom from (w - from)
    ≡ rect_from left top right bottom ∷ runs_from p w top bottom right (w - right)
first_run p w top bottom from left right fresh none r l u =
    let at_left : p left ≡ true = r.marked left (omega arith) (omega (arith, r.some)) in
    let above : 0 < left → p (left - 1) ≡ false = unmarked_before p from left fresh none l at_left in
    let start : starts_run p left ≡ true = first_start p left at_left above in
    let rest : w - left ≡ suc (w - left - 1) = omega (arith, r.some) in
    skip p w top bottom (left - from) from (w - from) left (w - left)
    (omega arith)
    (omega (arith, r.some))
    (no_starts p from left none)
    ∙ ap (runs_from p w top bottom left) rest
    ∙ ap (λ v. v ++ runs_from p w top bottom (left + 1) (w - left - 1)) (one_run p w top bottom left right start r u)
    ∙ ap (λ v. rect_from left top right bottom ∷ v)
    (skip p w top bottom (right - left - 1) (left + 1) (w - left - 1) right (w - right)
    (omega (arith, r.some))
    (omega (arith, r.some))
    (λ x a b. inner_start p x (omega arith) (r.marked (x - 1) (omega arith) (omega arith))))

-- one more run is found
pub IsDone-more :
    (p : ℕ → Bool) (w top bottom from left right : ℕ) (before now next : List Rect)
    → IsDone p w top bottom from before now
    → HasNone p true from left → IsRun p left right → from ≤ left → right ≤ w
    → next ≡ now ++ rect_from left top right bottom ∷ [] → IsDone p w top bottom right before next
IsDone-more p w top bottom from left right before now next d none r l u e = record {
  within = u;
  fresh = λ _. r.end;
  so_far = ap (λ v. v ++ runs_from p w top bottom right (w - right)) e
      ∙ append_assoc now (rect_from left top right bottom ∷ []) (runs_from p w top bottom right (w - right))
      ∙ ap (λ v. now ++ v) (sym (first_run p w top bottom from left right d.fresh none r l u)) ∙ d.so_far;
}

-- no run is left
pub IsDone-all :
    (p : ℕ → Bool) (w top bottom from : ℕ) (before now : List Rect)
    → IsDone p w top bottom from before now → HasNone p true from w
    → now ≡ before ++ row_runs p w top bottom
IsDone-all p w top bottom from before now d none =
    sym (append-nil now)
    ∙ ap (λ v. now ++ v)
    (sym (skip p w top bottom (w - from) from (w - from) w 0
    (omega (arith, d.within))
    (omega arith)
    (no_starts p from w none)))
    ∙ d.so_far

-- a blank row has no run
pub row_runs-blank :
    (p : ℕ → Bool) (w top bottom : ℕ) (now : List Rect) → HasNone p true 0 w
    → now ≡ now ++ row_runs p w top bottom
row_runs-blank p w top bottom now none =
    let all : w - 0 ≡ w = omega arith in
    let start : IsDone p w top bottom 0 now now = record {
      within = omega arith;
      fresh = λ l. absurd (omega arith);
      so_far = ap (λ n. now ++ runs_from p w top bottom 0 n) all;
    } in
    IsDone-all p w top bottom 0 now now start none

-- the cells of a row are the set along it
pub is_marked-row :
    (g : Grid Bool) (y x : ℕ) → length (row g y) ≡ g.width → y < g.height → is_marked (row g y) x ≡ is_in g x y
is_marked-row g y x long down =
    elim (cases_lt x g.width) [
      | inl a ↦ get_or-take g.width _ x false a ∙ get_or-drop (y * g.width) g.cells x false
          ∙ sym (value_at-place false g.width g.height g.cells x y a down)
      | inr b ↦ get_or_past (row g y) x false (omega arith) ∙ sym (value_at-right false g x y b)
    ]

-- the runs of a row's cells are the set's runs in that row
pub row_runs-row :
    (g : Grid Bool) (y top bottom : ℕ) (cells : List Bool) → cells ≡ row g y → length cells ≡ g.width → y < g.height
    → row_runs (is_marked cells) (length cells) top bottom ≡ row_runs (λ x. is_in g x y) g.width top bottom
row_runs-row g y top bottom cells e long down =
    ap (λ n. row_runs (is_marked cells) n top bottom) long
    ∙ ap (λ cs. row_runs (is_marked cs) g.width top bottom) e
    ∙ ap (λ p. row_runs p g.width top bottom) (fun_ext (λ x. is_marked-row g y x (sym (ap length e) ∙ long) down))
