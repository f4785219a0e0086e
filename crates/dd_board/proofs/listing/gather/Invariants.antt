-- What was gathered so far.
use Rattle.dd_board.proofs.Gathering.{Gathered}
use Rattle.dd_board.proofs.listing.gather.Given as goal

abbrev pub invariant-loop-seat : goal.invariant-loop-seat
invariant-loop-seat g l = Gathered l.fn.seats.items l.seats.items l.share.parts l.share.amount l.told

abbrev pub decreases-loop-seat : goal.decreases-loop-seat
decreases-loop-seat g l = goal.left-loop-seat g l
