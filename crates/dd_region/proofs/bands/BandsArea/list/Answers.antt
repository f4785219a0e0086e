use Rattle.std.proofs.Common.{◌<◌, ◌++◌, Bool, ap, ◌∙◌, sym, subst, arith, map}
use Rattle.dd_geom.specs.Grid.{Grid}
use Rattle.dd_bits.proofs.Bands.{IsListed, IsListed-none}
use Rattle.dd_region.specs.Listing.{run_rect}
use Rattle.dd_region.proofs.BandList.{AreRowsOf, AreRowsOf-from, IsArea-kept, ends_short, listed_more}
use Rattle.dd_region.proofs.bands.BandsArea.list.Goals as goal

pub loop-y-init : goal.loop-y-init
loop-y-init c = record {
  listed = subst (IsListed c.args.self.now 0) (sym c.new-out.ensures.items) (IsListed-none c.args.self.now);
  passed = λ k d a b. absurd (omega arith);
}

pub push_rects-requires-clause-right : goal.push_rects-requires-clause-right
push_rects-requires-clause-right c =
    let b = c.self.inside in
    let g : Grid Bool = c.args.self.now in
    let of : AreRowsOf g b.rows = AreRowsOf-from b.width b.height b.rows g c.self.invariant c.self.view_is in
    let y_in : c.loop-y.y < g.height = omega (arith, ap (λ (v : Grid Bool). v.height) c.self.view_is) in
    ends_short g b.rows c.loop-y.y c.at-row.result.runs.now of y_in c.at-row.ensures.runs

pub returns-in_err-push_rects-clause-area : goal.returns-in_err-push_rects-clause-area
returns-in_err-push_rects-clause-area c =
    let b = c.self.inside in
    let g : Grid Bool = c.args.self.now in
    IsArea-kept g b.rows (AreRowsOf-from b.width b.height b.rows g c.self.invariant c.self.view_is)

pub returns-clause-area : goal.returns-clause-area
returns-clause-area c =
    let b = c.self.inside in
    let g : Grid Bool = c.args.self.now in
    IsArea-kept g b.rows (AreRowsOf-from b.width b.height b.rows g c.self.invariant c.self.view_is)

pub loop-y-preserved : goal.loop-y-preserved
loop-y-preserved c =
    let b = c.self.inside in
    let g : Grid Bool = c.args.self.now in
    let of : AreRowsOf g b.rows = AreRowsOf-from b.width b.height b.rows g c.self.invariant c.self.view_is in
    let y = c.loop-y.y in
    let end = c.same_to-end.result in
    let is = c.same_to-end.ensures in
    record {
      listed = listed_more g b.rows y end c.loop-y.out.items c.push_rects.new.out.items of is
          (c.in_ok-push_rects.ensures ∙ ap (λ rs. c.loop-y.out.items ++ map (run_rect y end) rs) c.at-row.ensures.runs)
          c.loop-y.invariant.listed;
      passed = λ k d p q. omega (arith, c.at-row.ensures.passed k d p q, is.some);
    }
