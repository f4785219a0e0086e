-- Where a run ends.
use Rattle.std.proofs.Common.{◌≡◌, ℕ, zero, suc, ◌+◌, ◌<◌, ◌≤◌, Bool, true, false, if◌then◌else◌, refl, ◌∙◌, ap, sym, arith, inl, inr}
use Rattle.std.proofs.lemmas.Bool.{cases_lt, cond-true, cond-false}
use Rattle.dd_bits.specs.CanonicalList.{run_end}

-- one marked column further
pub run_end-suc : (p : ℕ → Bool) (k n : ℕ) → p k ≡ true → run_end p k (suc n) ≡ run_end p (k + 1) n
unfolding run_end
run_end-suc p k n e = cond-true (p k) _ _ e

-- at an unmarked column
pub run_end-here : (p : ℕ → Bool) (k n : ℕ) → p k ≡ false → run_end p k (suc n) ≡ k
unfolding run_end
run_end-here p k n e = cond-false (p k) _ _ e

pub record IsEnd (p : ℕ → Bool) (k n e : ℕ) : Type 0 where
  pub from : k ≤ e
  pub within : e ≤ k + n
  pub marked : (x : ℕ) → k ≤ x → x < e → p x ≡ true

end_here : (p : ℕ → Bool) (k n e : ℕ) → e ≡ k → IsEnd p k n e
end_here p k n e h = record { from = omega arith; within = omega arith; marked = λ x a b. absurd (omega arith) }

-- one marked column further in front
pub end_further : (p : ℕ → Bool) (k n e : ℕ) → p k ≡ true → IsEnd p (k + 1) n e → IsEnd p k (suc n) e
end_further p k n e m d = record {
  from = omega (arith, d.from);
  within = omega (arith, d.within);
  marked = λ x a b. elim (cases_lt k x) [
    | inl l ↦ d.marked x (omega arith) b
    | inr l ↦ let s : k ≡ x = omega arith in ap p (sym s) ∙ m
  ];
}

-- the columns up to the end are marked
pub run_end-IsEnd : (p : ℕ → Bool) (n k : ℕ) → IsEnd p k n (run_end p k n)
unfolding run_end
run_end-IsEnd p zero k = end_here p k 0 k refl
run_end-IsEnd p (suc n) k =
    let P : Bool → Type 0 = λ b. p k ≡ b → IsEnd p k (suc n) (if b then run_end p (k + 1) n else k) in
    let cases : (b : Bool) → P b = λ b. elim b as P [
      | true ↦ λ m. end_further p k n _ m (run_end-IsEnd p n (k + 1))
      | false ↦ λ m. end_here p k (suc n) k refl
    ] in
    cases (p k) refl
