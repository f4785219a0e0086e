use Rattle.std.proofs.Common.{arith, rules, ◌<◌, length, ap, ◌∙◌}
use Rattle.std.proofs.lemmas.List.{take_all}
use Rattle.dd_region.specs.Runs.{in_runs}
use Rattle.dd_region.specs.Tiling.{tile_columns}
use Rattle.dd_region.proofs.TileRuns.{tile_columns-none, rounded_more, begin_later}
use Rattle.dd_region.proofs.tiling.round_runs.Goals as goal

pub loop-run-init : goal.loop-run-init
loop-run-init c =
    let none = c.clear.ensures.items in
    record {
      columns = λ x. ap (λ rs. in_runs rs x) none ∙ tile_columns-none c.args.side c.args.width x;
      row = search rules;
      begin = search rules;
    }

pub returns-clause-columns : goal.returns-clause-columns
returns-clause-columns c x =
    let rs = c.args.runs.now in
    c.loop-run.invariant.columns x
    ∙ ap (λ v. tile_columns c.args.side c.args.width (in_runs v) x) (take_all c.loop-run.run-index rs (omega arith))

pub loop-run-preserved : goal.loop-run-preserved
loop-run-preserved c =
    let more = c.in_ok-push_run.ensures in
    let rs = c.args.runs.now in
    let i = c.loop-run.run-index in
    let l : i < length rs = c.loop-run-test.true in
    record {
      columns = rounded_more c.args.side c.args.width rs c.loop-run.row.items _ c.round.result i
          (record { left = 0; right = 0 }) l c.loop-run.invariant.columns more.columns c.round.ensures.columns;
      row = more.row;
      begin = λ k d a b. begin_later c.args.side rs _ c.round.result i k (record { left = 0; right = 0 }) d
          c.requires.side c.requires.runs c.round.ensures.left more.begin (omega arith) b;
    }
