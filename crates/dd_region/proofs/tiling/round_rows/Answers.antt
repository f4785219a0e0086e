use Rattle.std.proofs.Common.{◌≡◌, ◌≤◌, false, ℕ, ap, ◌∙◌, arith, subst, sym}
use Rattle.dd_region.specs.Runs.{in_runs, IsRow}
use Rattle.dd_region.proofs.ListLemmas.{ends_within}
use Rattle.dd_region.proofs.TileRows.{columns_between-within, HasTiles-more}
use Rattle.dd_region.proofs.tiling.round_rows.Goals as goal

pub round_runs-requires-clause-within : goal.round_runs-requires-clause-within
round_runs-requires-clause-within c =
    let row = c.unite_rows.new.row.items in
    let united = c.in_ok-unite_rows.ensures in
    let e : c.deref.result.now ≡ row = c.deref.ensures.value in
    let none : (x : ℕ) → c.args.tiles.width ≤ x → in_runs c.deref.result.now x ≡ false =
    λ x a. ap (λ rs. in_runs rs x) e ∙ united.columns x
    ∙ columns_between-within c.args.old.now c.args.tiles.width c.loop-y.y c.tiles_end-end.result x c.requires.within
    (omega (arith, c.tiles_end-end.ensures.within, c.requires.height)) a in
    ends_within c.deref.result.now c.args.tiles.width (subst IsRow (sym e) united.row) none

pub loop-y-preserved : goal.loop-y-preserved
loop-y-preserved c =
    let t = c.args.tiles in
    let own = c.at-own.ensures in
    let is = c.tiles_end-end.ensures in
    let united = c.in_ok-unite_rows.ensures in
    record {
      within = is.within;
      start = is.whole;
      rounded = HasTiles-more t.side t.width t.height c.args.old.now c.loop-y.new c.close.new.self c.loop-y.y
          c.at-own.result.bottom c.tiles_end-end.result c.deref.result.now c.deref-in-loop-y.result.now c.requires.side
          (sym c.requires.height) c.requires.within c.loop-y.invariant.rounded
          (c.loop-y.invariant.start (omega (arith, c.loop-y-test.true))) is own.same
          (λ x. ap (λ rs. in_runs rs x) c.deref.ensures.value ∙ united.columns x)
          (λ x. ap (λ rs. in_runs rs x) c.deref-in-loop-y.ensures.value ∙ c.in_ok-round_runs.ensures.columns x)
          c.in_ok-close.ensures;
      passed = λ k d a b. omega (arith, own.passed k d a b, is.some);
    }
