-- Rows as lists of runs: one run more at the right end.
use Rattle.std.proofs.Common.{◌≡◌, ℕ, ◌+◌, ◌-◌, ◌<◌, ◌≤◌, max, List, [], ◌∷◌, ◌++◌, Bool, true, false, ◌||◌, ◌&&◌, nat_le, nat_lt, length, get_or, set, take, sym, ap, ◌∙◌, refl, arith, inl, inr}
use Rattle.std.proofs.lemmas.Bool.{cases_lt}
use Rattle.std.proofs.lemmas.Bool.Decides.{nat_tests}
use Rattle.std.proofs.lemmas.List.{take_more, take_more_set, take_all, length-set, get_or_read}
use Rattle.std.proofs.lemmas.List.Elements.{All-push}
use Rattle.std.proofs.lemmas.List.Folds.{list_any-append}
use Rattle.std.proofs.lemmas.List.Quantifiers.{all_pairs_push}
use Rattle.dd_region.specs.declared.run.Run.{Run}
use Rattle.dd_region.specs.Runs.{in_run, in_runs, IsRow}

-- the columns of a row and one run more
pub in_runs-push : (rs : List Run) (r : Run) (x : ℕ) → in_runs (rs ++ r ∷ []) x ≡ (in_runs rs x || in_run r x)
in_runs-push rs r x =
    list_any-append (λ s. in_run s x) rs (r ∷ []) ∙ grind (arith, nat_tests)

-- two runs that touch or overlap have the columns of the one that spans both
spans_both :
    (a b c d m x : ℕ) → a ≤ b → b ≤ c → b < d → m ≡ max c d
    → (nat_le a x && nat_lt x m) ≡ ((nat_le a x && nat_lt x c) || (nat_le b x && nat_lt x d))
spans_both a b c d m x p q r e = grind (arith, nat_tests)

pub or_assoc : (a b c : Bool) → (a || (b || c)) ≡ ((a || b) || c)
or_assoc true b c = refl
or_assoc false b c = refl

-- the last run of a row, made longer by one that touches it
pub in_runs-joined :
    (rs : List Run) (i m : ℕ) (last k run : Run) → i + 1 ≡ length rs → last ≡ get_or rs i last → k ≡ get_or rs i k
    → last.left ≤ run.left → run.left ≤ last.right → run.left < run.right → m ≡ max last.right run.right
    → (x : ℕ) → in_runs (set rs i (record { left = k.left; right = m })) x ≡ (in_runs rs x || in_run run x)
in_runs-joined rs i m last k run n e f a b c h x =
    let new : Run = record { left = k.left; right = m } in
    let same : k ≡ last = get_or_read rs i k (omega arith) f last ∙ sym e in
    let before : rs ≡ take i rs ++ last ∷ [] =
    sym (take_all (i + 1) rs (omega arith)) ∙ take_more rs i last (omega arith)
    ∙ ap (λ v. take i rs ++ v ∷ []) (sym e) in
    let after : set rs i new ≡ take i rs ++ new ∷ [] =
    sym (take_all (i + 1) (set rs i new) (omega (arith, length-set rs i new)))
    ∙ take_more_set rs i new (omega arith) in
    ap (λ v. in_runs v x) after ∙ in_runs-push (take i rs) (record { left = k.left; right = m }) x
    ∙ ap (λ b. in_runs (take i rs) x || b) (ap (λ (v : Run). nat_le v.left x && nat_lt x m) same
    ∙ spans_both last.left run.left last.right run.right m x a b c h)
    ∙ or_assoc (in_runs (take i rs) x) (in_run last x) (in_run run x)
    ∙ ap (λ b. b || in_run run x) (sym (ap (λ v. in_runs v x) before ∙ in_runs-push (take i rs) last x))

-- one run more, which begins to the right of the last one's end
pub IsRow-push :
    (rs : List Run) (r : Run) → IsRow rs → r.left < r.right
    → ((k : ℕ) (d : Run) → k + 1 ≡ length rs → (get_or rs k d).right < r.left) → IsRow (rs ++ r ∷ [])
IsRow-push rs r row some apart = record {
  some = All-push (λ r. r.left < r.right) rs r row.some some;
  apart = all_pairs_push (λ r s. r.right < s.left) rs r row.apart (λ k d l.
      elim (cases_lt (k + 1) (length rs)) [
        | inl a ↦
            let n : length rs - 1 + 1 ≡ length rs = omega arith in
            omega (
              arith,
              row.apart k (length rs - 1) d (omega arith) (omega arith),
              row.some (length rs - 1) d (omega arith),
              apart (length rs - 1) d n,
            )
        | inr a ↦ apart k d (omega arith)
      ]);
}
