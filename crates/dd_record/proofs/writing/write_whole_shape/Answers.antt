-- The shape's bytes are written after those before them.
use Rattle.std.proofs.Common.{subst}
use Rattle.dd_record.specs.Sinks.{change, Writes}
use Rattle.dd_record.proofs.Written.{then_others}
use Rattle.dd_record.proofs.writing.write_whole_shape.Goals as goal

pub returns : goal.returns
returns g c =
    let r = c.write_bytes.result in
    let sink = change g.K.Sink.held g.K.Sink.faults c.write_shape_head.new.k c.write_bytes.new.k in
    then_others r _ _ _ _ _ _ _ _ c.in_ok-write_shape_head.ensures
    (subst (λ bs. Writes sink bs r) c.bytes.ensures.value c.write_bytes.ensures)
