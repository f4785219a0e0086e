-- The list is compared with the one of the area that the rectangles make.
use Rattle.std.proofs.Common.{ap, ◌∙◌}
use Rattle.dd_bits.specs.CanonicalList.{canonical_list}
use Rattle.dd_record.specs.Dirt.{same_rects, is_canonical}
use Rattle.dd_record.proofs.rectangles.is_canonical.Goals as goal

pub returns : goal.returns
unfolding is_canonical
returns c =
    let list = c.as_slice.ensures ∙ c.in_ok-list.ensures.list ∙ ap canonical_list c.in_ok-area.ensures in
    c.eq.ensures ∙ ap (same_rects c.args.rects.now) list
