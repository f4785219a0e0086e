use Rattle.dd_board.proofs.Gathering.{gathered_more}
use Rattle.dd_board.proofs.listing.gather.Goals as goal

pub loop-seat-preserved : goal.loop-seat-preserved
loop-seat-preserved g c =
    gathered_more {L = g.row.L.Denot} c.args.seats.items c.loop-seat.seats.items c.pop-in-loop-seat.new.self.items
    c.in-Some.seat c.loop-seat.share.parts c.loop-seat.share.amount c.apart-own.result.0.parts
    c.apart-own.result.0.amount c.merge.new.self.parts c.merge.new.self.amount c.loop-seat.told c.apart-own.result.1
    c.longer-told.result c.loop-seat.invariant c.in-Some.ensures.items c.apart-own.ensures.parts
    c.apart-own.ensures.amount c.apart-own.ensures.view c.merge.ensures.parts c.merge.ensures.amount
    c.longer-told.ensures.this c.longer-told.ensures.that
