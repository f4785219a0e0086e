-- The rectangles so far were written or are kept, and those from this one on are still to come.
use Rattle.std.proofs.Common.{drop}
use Rattle.std.specs.List.{flat_map}
use Rattle.dd_geom.specs.Rect.{sides}
use Rattle.dd_record.specs.Pages.{block_bytes}
use Rattle.dd_record.specs.Sinks.{change}
use Rattle.dd_record.proofs.Written.{SoFar}
use Rattle.dd_record.proofs.pages.put_blocks.Given as goal

abbrev pub invariant-loop-rect : goal.invariant-loop-rect
invariant-loop-rect g l =
    SoFar (change g.K.Sink.held g.K.Sink.faults l.fn.k l.k) l.fn.kept.items l.kept.items
    (flat_map (λ r. block_bytes l.surface (sides r)) (drop l.rect-index l.rects))
    (flat_map (λ r. block_bytes l.surface (sides r)) l.rects)
