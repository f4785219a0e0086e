use Rattle.std.proofs.Common.{◌≡◌, ◌<◌, ◌≤◌, ◌∙◌, Bool, ap, sym, subst, arith}
use Rattle.dd_geom.specs.Grid.{Grid}
use Rattle.dd_bits.proofs.Bands.{IsListed, IsListed-none, IsListed-more, IsListed-all, IsBandEnd, band_end-is}
use Rattle.dd_bits.proofs.plane.PlaneArea.list.Goals as goal

pub loop-y-init : goal.loop-y-init
loop-y-init c = subst (IsListed c.args.self.now 0) (sym c.new-out.ensures.items) (IsListed-none c.args.self.now)

pub push_runs-requires-clause-bottom : goal.push_runs-requires-clause-bottom
push_runs-requires-clause-bottom c =
    let g : Grid Bool = c.args.self.now in
    let high : c.self.inside.height ≡ g.height = ap (λ (v : Grid Bool). v.height) c.self.view_is in
    let is : IsBandEnd g c.loop-y.y c.band_end-end.result =
    band_end-is g c.loop-y.y c.band_end-end.result (omega arith) c.band_end-end.ensures in
    omega (arith, is.within, c.self.invariant.size.height)

pub loop-y-preserved : goal.loop-y-preserved
loop-y-preserved c =
    let g : Grid Bool = c.args.self.now in
    let down : c.loop-y.y < g.height = omega (arith, ap (λ (v : Grid Bool). v.height) c.self.view_is) in
    IsListed-more g c.loop-y.y c.band_end-end.result c.row.result.now c.loop-y.out.items _
    c.in_ok-push_runs.ensures c.loop-y.invariant c.band_end-end.ensures c.row.ensures.cells c.row.ensures.width down

pub loop-y-smaller : goal.loop-y-smaller
loop-y-smaller c =
    let g : Grid Bool = c.args.self.now in
    let high : c.self.inside.height ≡ g.height = ap (λ (v : Grid Bool). v.height) c.self.view_is in
    let is : IsBandEnd g c.loop-y.y c.band_end-end.result =
    band_end-is g c.loop-y.y c.band_end-end.result (omega arith) c.band_end-end.ensures in
    omega (arith, is.some, is.within)

pub returns-clause-list : goal.returns-clause-list
returns-clause-list c =
    let g : Grid Bool = c.args.self.now in
    let last : g.height ≤ c.loop-y.y = omega (arith, ap (λ (v : Grid Bool). v.height) c.self.view_is) in
    c.from_vec.ensures ∙ IsListed-all g c.loop-y.y c.loop-y.out.items c.loop-y.invariant last
