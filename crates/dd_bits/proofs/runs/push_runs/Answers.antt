use Rattle.std.proofs.Common.{◌∷◌, [], ◌++◌, ap, ◌∙◌}
use Rattle.dd_bits.proofs.RowRuns.{IsDone-more, IsDone-all, row_runs-blank}
use Rattle.dd_bits.proofs.runs.push_runs.Goals as goal

pub loop-run-preserved : goal.loop-run-preserved
loop-run-preserved c =
    let found = c.in-Some.ensures in
    IsDone-more _ _ _ _ _ _ _ _ _ _
    c.loop-run.invariant found.first found.run found.from found.within
    (c.in_ok-push.ensures.items ∙ ap (λ r. c.loop-run.out.items ++ r ∷ []) c.in_rows.ensures)

pub returns : goal.returns
returns c = IsDone-all _ _ _ _ _ _ _ c.loop-run.invariant c.in_default.ensures.none

pub returns-then-is_blank : goal.returns-then-is_blank
returns-then-is_blank c = row_runs-blank _ _ _ _ _ c.if-is_blank.ensures
