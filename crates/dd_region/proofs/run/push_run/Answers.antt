use Rattle.std.proofs.Common.{◌≡◌, ◌+◌, ◌-◌, ◌≤◌, ◌<◌, ℕ, length, get_or, arith, ap, sym, ◌∙◌, subst}
use Rattle.std.proofs.lemmas.List.{get_or_read}
use Rattle.dd_region.specs.declared.run.Run.{Run}
use Rattle.dd_region.specs.Runs.{IsRow}
use Rattle.dd_region.proofs.RowLemmas.{in_runs-joined, IsRow-push}
use Rattle.dd_region.proofs.run.push_run.Goals.{then-count-gt0+else-run-last, else-count-gt0}
use Rattle.dd_region.proofs.run.push_run.Goals as goal

pub returns-then-run-last-clause-columns : goal.returns-then-run-last-clause-columns
returns-then-run-last-clause-columns c =
    let last = c.index-last.result.now in
    let begin : last.left ≤ c.args.run.left =
    subst (λ (v : Run). v.left ≤ c.args.run.left) (sym c.index-last.ensures) (c.requires.begin _ _ (omega arith)) in
    in_runs-joined c.args.row.now.items (c.len-count.result - 1) c.max.result last c.index_mut.result.now c.args.run
    (omega arith) c.index-last.ensures c.index_mut.ensures.value begin (omega arith) c.requires.some c.max.ensures

pub returns-clause-row : goal.returns-clause-row
returns-clause-row c =
    let rs = c.args.row.now.items in
    let apart : (k : ℕ) (d : Run) → k + 1 ≡ length rs → (get_or rs k d).right < c.args.run.left =
    λ k d n. elim c.if-count-gt0.branch [
      | then-count-gt0+else-run-last w ↦
          let at : k ≡ c.len-count.result - 1 = omega (arith, n) in
          let e = get_or_read rs _ w.index-last.result.now (omega arith) w.index-last.ensures d in
          let same : get_or rs k d ≡ w.index-last.result.now = ap (λ i. get_or rs i d) at ∙ sym e in
          omega (arith, ap (λ (v : Run). v.right) same, w.if-run-last.false)
      | else-count-gt0 w ↦ absurd (omega (arith, n, w.if-count-gt0.false))
    ] in
    subst IsRow (sym (c.in_ok-push.ensures.items)) (IsRow-push rs c.args.run c.requires.row c.requires.some apart)
