use Rattle.std.proofs.Common.{◌≡◌, Bool, pos, take, get_or, ap, ◌∙◌}
use Rattle.std.proofs.lemmas.List.{take_all}
use Rattle.dd_geom.specs.declared.rect.Rect.{Rect}
use Rattle.dd_geom.specs.Grid.{Grid}
use Rattle.dd_bits.specs.Area.{with_rect}
use Rattle.dd_record.specs.Dirt.{covered_by}
use Rattle.dd_record.proofs.Covering.{covered_more}
use Rattle.dd_record.proofs.rectangles.area_of.Goals as goal

pub loop-rect-preserved : goal.loop-rect-preserved
loop-rect-preserved c =
    let old = c.loop-rect.invariant in
    let size = c.add.ensures.size in
    let mode = c.args.mode in
    let point : Rect = record { left = pos 0; top = pos 0; right = pos 0; bottom = pos 0 } in
    let r : Rect = get_or c.args.rects.now c.loop-rect.rect-index point in
    record {
      so_far =
          c.in_ok-add.ensures.ok ∙ ap (λ (g : Grid Bool). with_rect g r) old.so_far
          ∙ covered_more mode.width mode.height c.args.rects.now c.loop-rect.rect-index _ c.loop-rect-test.true;
      width = size.width ∙ old.width;
      height = size.height ∙ old.height;
    }

pub returns : goal.returns
returns c =
    let all : take c.loop-rect.rect-index c.args.rects.now ≡ c.args.rects.now =
    take_all _ c.args.rects.now c.loop-rect-test.false in
    c.loop-rect.invariant.so_far ∙ ap (covered_by c.args.mode.width c.args.mode.height) all
