-- A line that is written after those that were kept.
use Rattle.std.proofs.Common.{◌≡◌, subst}
use Rattle.dd_prog.specs.Exchange.{side}
use Rattle.dd_prog.specs.Keeping.{Adds}
use Rattle.dd_prog.proofs.Kept.{then_line}
use Rattle.dd_prog.proofs.keeping.put_line.Goals as goal

pub returns-clause-adds : goal.returns-clause-adds
returns-clause-adds g c =
    let same : c.keep.new.kept.items ≡ c.args.kept.now.items = rw c.if-keep.false at c.keep.ensures in
    let sides = side g.K.Sink.held g.K.Sink.faults c.args.sink.now c.write_bytes.new.sink in
    subst (λ kept. Adds sides kept c.write_kept.new.kept.items c.args.line.now c.write_bytes.result) same
    (then_line c.write_bytes.result g.K.Sink.held g.K.Sink.faults c.args.sink.now c.write_kept.new.sink
    c.write_bytes.new.sink c.keep.new.kept.items c.write_kept.new.kept.items c.args.line.now
    c.in_ok-write_kept.ensures.wrote c.in_ok-write_kept.ensures.none c.write_kept.ensures.later
    c.write_bytes.ensures.wrote)
