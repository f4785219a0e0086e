use Rattle.dd_dup.proofs.Buffers.{rects_enough}
use Rattle.dd_dup.proofs.duplicator.Dup.dirty.Goals as goal

pub returns-clause-enough : goal.returns-clause-enough
returns-clause-enough c long =
    rects_enough c.dirt_list.result.now c.args.buffer.now c.put_rects.new.buffer c.put_rects.result c.told.result
    c.dirt_list.ensures.few long c.put_rects.ensures c.told.ensures
