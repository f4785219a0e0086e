-- Nothing was fed yet; the piece that goes past the limit; and a player takes what is within it.
use Rattle.std.proofs.Common.{[], sym, ◌∙◌, arith}
use Rattle.std.proofs.KnownBytes.{Consumes-nil}
use Rattle.dd_io.specs.declared.transfer.TheConstants.{CHUNK}
use Rattle.dd_prog.specs.declared.reading.TheConstants.{MAX_RECORD_BYTES}
use Rattle.dd_prog.proofs.Pieces.{none_fed, fed_few, gives_more}
use Rattle.dd_prog.proofs.viewing.feed_all.Goals as goal

pub loop-piece-init : goal.loop-piece-init
loop-piece-init g c = record {
  bytes = [];
  came = Consumes-nil (g.S.Source.left c.args.source.now);
  size = omega arith;
  within = omega arith;
  fed = c.requires.new ∙ sym (none_fed c.args.player.now.asked);
  later = omega arith;
}

pub returns-then-size-more-clause-fed : goal.returns-then-size-more-clause-fed
returns-then-size-more-clause-fed g c =
    let so = c.loop-piece.invariant in
    let read = rw c.in-Some.is at c.in_ok-piece.ensures.gives in
    gives_more _ _ _ so.bytes c.in-Some.piece.now MAX_RECORD_BYTES CHUNK so.came read.0
    (omega (arith, so.size, so.within)) (omega (arith, so.size, read.2))
    (omega (arith, so.size, c.if-size-more.true))

pub feed_next-fault-requires : goal.feed_next-fault-requires
feed_next-fault-requires g c = λ none.
    let so = c.loop-piece.invariant in
    let asked = c.args.player.now.asked in
    let few = fed_few c.loop-piece.fault asked so.bytes c.loop-piece.player c.requires.asked so.fed none in
    omega (arith, few, so.size, so.within, c.if-size-more.false)
