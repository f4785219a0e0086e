-- The set is rounded to tiles, so it is whole, and the rectangles are its list.
use Rattle.std.proofs.Common.{Bool, ◌^◌, sym, subst, ap, ◌∙◌}
use Rattle.dd_geom.specs.Grid.{Grid}
use Rattle.dd_bits.specs.CanonicalList.{canonical_list}
use Rattle.dd_bits.proofs.TileLemmas.{whole-tiles}
use Rattle.dd_coal.specs.Power.{power}
use Rattle.dd_acc.specs.Effects.{IsWhole}
use Rattle.dd_acc.proofs.interval.Acc.add.Goals as goal

pub invariant_of-result : goal.invariant_of-result
invariant_of-result g c =
    let p : Grid Bool = g.A.Area.points c.add_effects.new.area in
    let e = c.in_ok-area.ensures in (
      c.from_slice.ensures ∙ (c.as_slice-2.ensures ∙ (e.rects ∙ ap canonical_list (sym e.area))),
      subst (λ (s : Grid Bool). IsWhole s) (sym e.area) (whole-tiles (2 ^ power p) p),
    )
