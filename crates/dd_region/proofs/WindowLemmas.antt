-- What a window shows of a row, run by run.
use Rattle.std.proofs.Common.{◌≡◌, ℕ, ◌+◌, ◌-◌, ◌<◌, ◌≤◌, List, Bool, true, false, ◌||◌, ◌&&◌, nat_le, nat_lt, length, get_or, take, sym, ap, ◌∙◌, refl, arith}
use Rattle.std.proofs.lemmas.List.{get_or_default}
use Rattle.std.proofs.lemmas.List.Folds.{list_any_more}
use Rattle.std.proofs.lemmas.List.Elements.{All-weaker}
use Rattle.dd_region.specs.declared.run.Run.{Run}
use Rattle.dd_region.specs.declared.run.Window.{Window}
use Rattle.dd_region.specs.Runs.{in_run, in_runs, IsRow, BeginBy, in_window, landing}
use Rattle.dd_region.proofs.RowLemmas.{or_assoc}

and_or : (a b c d : Bool) → (a && b && (c || d)) ≡ ((a && b && c) || (a && b && d))
and_or true true c d = refl
and_or true false c d = refl
and_or false b c d = refl

-- one run more
in_window-more :
    (w : Window) (rs : List Run) (i : ℕ) (d : Run) (x : ℕ) → i < length rs
    → in_window w (in_runs (take (i + 1) rs)) x
    ≡ (in_window w (in_runs (take i rs)) x || in_window w (in_run (get_or rs i d)) x)
in_window-more w rs i d x l =
    let z = x + w.left - w.to in
    ap (λ b. nat_le w.to x && nat_lt x (w.to + (w.right - w.left)) && b) (list_any_more (λ r. in_run r z) rs i d l)
    ∙ and_or (nat_le w.to x) (nat_lt x (w.to + (w.right - w.left))) (in_runs (take i rs) z) (in_run (get_or rs i d) z)

-- a row to which the window's part of one run more was added
pub copied_more :
    (w : Window) (rs old now new : List Run) (i : ℕ) (d : Run) → i < length rs
    → ((x : ℕ) → in_runs now x ≡ (in_runs old x || in_window w (in_runs (take i rs)) x))
    → ((x : ℕ) → in_runs new x ≡ (in_runs now x || in_window w (in_run (get_or rs i d)) x))
    → (x : ℕ) → in_runs new x ≡ (in_runs old x || in_window w (in_runs (take (i + 1) rs)) x)
copied_more w rs old now new i d l before step x =
    step x ∙ ap (λ b. b || in_window w (in_run (get_or rs i d)) x) (before x)
    ∙ sym (or_assoc (in_runs old x) (in_window w (in_runs (take i rs)) x) (in_window w (in_run (get_or rs i d)) x))
    ∙ ap (λ b. in_runs old x || b) (sym (in_window-more w rs i d x l))

landing-order : (w : Window) (a b : ℕ) → a ≤ b → landing w a ≤ landing w b
landing-order w a b l = omega arith

-- the next run begins further right
pub begin_more :
    (w : Window) (rs row : List Run) (i k : ℕ) (d e : Run) → IsRow rs → BeginBy row (landing w (get_or rs i d).left)
    → i < k → k < length rs → BeginBy row (landing w (get_or rs k e).left)
begin_more w rs row i k d e is begin a b =
    let i_in : i < length rs = omega arith in
    let other : get_or rs k d ≡ get_or rs k e = get_or_default rs k d e b in
    let order : (get_or rs i d).left ≤ (get_or rs k e).left =
    omega (arith, is.some i d i_in, is.apart i k d a b, ap (λ (r : Run). r.left) other) in
    let step : landing w (get_or rs i d).left ≤ landing w (get_or rs k e).left =
    landing-order w (get_or rs i d).left (get_or rs k e).left order in
    All-weaker (λ (r : Run). r.left ≤ landing w (get_or rs i d).left)
    (λ (r : Run). r.left ≤ landing w (get_or rs k e).left)
    (λ r h. omega (arith, h, step)) row begin

-- no column is put to the right of the window's right side
pub begin_within :
    (w : Window) (x : ℕ) (row : List Run) → w.left ≤ w.right → BeginBy row (landing w x)
    → BeginBy row (w.to + (w.right - w.left))
begin_within w x row order begin =
    let step : landing w x ≤ w.to + (w.right - w.left) = omega arith in
    All-weaker (λ (r : Run). r.left ≤ landing w x) (λ (r : Run). r.left ≤ w.to + (w.right - w.left))
    (λ r h. omega (arith, h, step)) row begin
