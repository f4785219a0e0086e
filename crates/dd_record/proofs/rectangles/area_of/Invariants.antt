-- The set is the points of the rectangles so far, and of the surface's size.
use Rattle.std.proofs.Common.{◌≡◌, take}
use Rattle.dd_record.specs.Dirt.{covered_by}
use Rattle.dd_record.proofs.rectangles.area_of.Given as goal

abbrev pub invariant-loop-rect : goal.invariant-loop-rect
invariant-loop-rect l = record {
  so_far : l.area ≡ covered_by l.fn.mode.width l.fn.mode.height (take l.rect-index l.rects);
  width : l.area.width ≡ l.fn.mode.width;
  height : l.area.height ≡ l.fn.mode.height;
}
