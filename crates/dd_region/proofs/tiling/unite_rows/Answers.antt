use Rattle.std.proofs.Common.{◌≡◌, ap, ◌∙◌, arith, subst, sym}
use Rattle.dd_region.specs.Runs.{in_runs, IsRow}
use Rattle.dd_region.proofs.TileRows.{united_more}
use Rattle.dd_region.proofs.tiling.unite_rows.Goals as goal

pub loop-y-preserved : goal.loop-y-preserved
loop-y-preserved c =
    let own = c.at-own.ensures in
    let y = c.loop-y.y in
    let made : c.swap.new.x.items ≡ c.unite.new.row.items = cc in
    record {
      from = omega (arith, own.below, c.loop-y.invariant.from);
      within = omega arith;
      columns = λ x. ap (λ rs. in_runs rs x) made
          ∙ united_more c.args.old.now c.args.top y c.min-y.result c.loop-y.row.items c.deref.result.now
          c.at-own.result.runs.now c.unite.new.row.items c.loop-y.invariant.from (omega (arith, own.below))
          (λ z a b. own.same z a (omega arith)) c.deref.ensures.value c.loop-y.invariant.columns own.runs
          c.in_ok-unite.ensures.columns x;
      row = subst IsRow (sym made) c.in_ok-unite.ensures.row;
      passed = λ k d a b. omega (arith, own.passed k d a b, own.below);
    }
