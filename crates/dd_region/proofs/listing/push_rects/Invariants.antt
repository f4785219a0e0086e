use Rattle.std.proofs.Common.{◌≡◌, ◌++◌, map, take}
use Rattle.dd_region.specs.Listing.{run_rect}
use Rattle.dd_region.proofs.listing.push_rects.Given as goal

abbrev pub invariant-loop-run : goal.invariant-loop-run
invariant-loop-run l =
    l.out.items ≡ l.initial.out.items ++ map (run_rect l.top l.bottom) (take l.run-index l.runs)
