-- Nothing is dirty, and the list is empty.
use Rattle.std.proofs.Common.{Bool, ◌∙◌, sym, ap, subst}
use Rattle.dd_geom.specs.Grid.{Grid}
use Rattle.dd_bits.specs.CanonicalList.{canonical_list}
use Rattle.dd_acc.specs.Effects.{IsWhole}
use Rattle.dd_acc.proofs.Nowhere.{list-nowhere}
use Rattle.dd_acc.proofs.Origins.{whole-nowhere}
use Rattle.dd_acc.proofs.interval.Acc.start.Goals as goal

pub invariant_of-result : goal.invariant_of-result
invariant_of-result g c = (
  c.new.ensures ∙ (sym (list-nowhere c.args.w c.args.h) ∙ ap canonical_list (sym c.in_ok-area.ensures)),
  subst (λ (s : Grid Bool). IsWhole s) (sym c.in_ok-area.ensures) (whole-nowhere c.args.w c.args.h),
)
