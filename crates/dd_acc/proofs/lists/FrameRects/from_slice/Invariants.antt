use Rattle.std.proofs.Common.{◌≡◌, take}
use Rattle.dd_acc.proofs.lists.FrameRects.from_slice.Given as goal

abbrev pub invariant-loop-rect : goal.invariant-loop-rect
invariant-loop-rect l = l.items.items ≡ take l.rect-index l.rects
