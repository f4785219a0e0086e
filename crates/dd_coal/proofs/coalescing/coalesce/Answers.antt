-- Each turn rounds to tiles of twice the side, and the loop ends at the least power.
use Rattle.std.proofs.Common.{◌<◌, Bool, ◌&&◌, ltb, List, length, sym, ap, ◌∙◌, arith}
use Rattle.dd_geom.specs.declared.rect.Rect.{Rect}
use Rattle.dd_geom.specs.Grid.{Grid}
use Rattle.dd_bits.specs.CanonicalList.{canonical_list}
use Rattle.dd_coal.specs.declared.coalescing.TheConstants.{MAX_RECTS, MAX_POWER}
use Rattle.dd_coal.specs.Power.{rounded_to}
use Rattle.dd_coal.proofs.Least.{IsEnded, first_rounded, next_rounded, none_more, goes_on, stops, ended}
use Rattle.dd_coal.proofs.coalescing.coalesce.Given.{Over}
use Rattle.dd_coal.proofs.coalescing.coalesce.Goals.{After-loop-power}
use Rattle.dd_coal.proofs.coalescing.coalesce.Goals as goal

pub loop-power-init : goal.loop-power-init
loop-power-init g c =
    record {
      area = first_rounded (g.A.Area.points c.args.area) c.in_ok-rects.ensures.area.whole;
      rects = c.in_ok-rects.ensures.list;
      none = λ i a b. absurd (omega arith);
      bound = omega arith;
    }

pub loop-power-preserved : goal.loop-power-preserved
loop-power-preserved g c =
    let start : Grid Bool = g.A.Area.points c.args.area in
    let area : Grid Bool = g.A.Area.points c.loop-power.area in
    let on =
    goes_on c.loop-power.power (length c.loop-power.rects) c.must_go_up.result c.must_go_up.ensures
    c.loop-power-test.true in
    let long : MAX_RECTS < length (canonical_list area) = omega (arith, on.1, ap length c.loop-power.invariant.rects) in
    record {
      area = c.in_ok-round_by.ensures ∙ next_rounded start area c.loop-power.power c.loop-power.invariant.area;
      rects = c.in_ok-rects-2.ensures.list;
      none = none_more start area c.loop-power.power c.loop-power.invariant.area long c.loop-power.invariant.none;
      bound = omega (arith, on.0);
    }

-- how the loop ends
ends :
    (g : Over) (c : After-loop-power g)
    → IsEnded (g.A.Area.points c.args.area) (g.A.Area.points c.loop-power.area) c.loop-power.power
ends g c =
    let start : Grid Bool = g.A.Area.points c.args.area in
    let area : Grid Bool = g.A.Area.points c.loop-power.area in
    let last =
    stops c.loop-power.power (length (canonical_list area)) c.must_go_up.result
    (c.must_go_up.ensures
    ∙ ap (λ (rs : List Rect). ltb c.loop-power.power MAX_POWER && ltb MAX_RECTS (length rs))
    c.loop-power.invariant.rects) c.loop-power-test.false in
    ended start area c.loop-power.power c.in_ok-rects.ensures.area c.loop-power.invariant.area
    c.loop-power.invariant.none c.loop-power.invariant.bound last

pub returns-clause-power : goal.returns-clause-power
returns-clause-power g c = sym (ends g c).power

pub returns-clause-area : goal.returns-clause-area
returns-clause-area g c =
    c.loop-power.invariant.area ∙ ap (λ n. rounded_to n (g.A.Area.points c.args.area)) (sym (ends g c).power)

pub returns-clause-rects : goal.returns-clause-rects
returns-clause-rects g c =
    c.loop-power.invariant.rects
    ∙ ap canonical_list
    (c.loop-power.invariant.area ∙ ap (λ n. rounded_to n (g.A.Area.points c.args.area)) (sym (ends g c).power))

pub returns-clause-few : goal.returns-clause-few
returns-clause-few g c = omega (arith, (ends g c).few, ap length c.loop-power.invariant.rects)
