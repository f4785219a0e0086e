use Rattle.dd_region.proofs.WindowLemmas.{copied_more, begin_more, begin_within}
use Rattle.dd_region.proofs.run.copy_runs.Goals as goal
use Rattle.std.proofs.Common.{arith, ◌<◌, length}

pub loop-run-preserved : goal.loop-run-preserved
loop-run-preserved c =
    let more = c.in_ok-push_part.ensures in
    let rs = c.args.runs.now in
    let i = c.loop-run.run-index in
    let l : i < length rs = c.loop-run-test.true in
    record {
      columns = copied_more c.args.window rs _ c.loop-run.row.items _ i (record { left = 0; right = 0 }) l
          c.loop-run.invariant.columns more.columns;
      row = more.row;
      begin = λ k d a b. begin_more c.args.window rs _ i k (record { left = 0; right = 0 }) d c.requires.runs more.begin
          (omega arith) b;
      end = begin_within c.args.window _ _ c.requires.order more.begin;
    }
