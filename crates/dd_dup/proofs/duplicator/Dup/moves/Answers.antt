use Rattle.dd_dup.proofs.Buffers.{moves_enough}
use Rattle.dd_dup.proofs.duplicator.Dup.moves.Goals as goal

pub returns-clause-enough : goal.returns-clause-enough
returns-clause-enough c long =
    moves_enough c.move_list.result.now c.args.buffer.now c.put_moves.new.buffer c.put_moves.result c.told.result
    c.move_list.ensures.few long c.put_moves.ensures c.told.ensures
