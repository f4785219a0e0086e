use Rattle.dd_board.proofs.Standing.{acquired_opened}
use Rattle.dd_board.proofs.looking.ask.Goals as goal

pub returns-in-Acquire-clause-place : goal.returns-in-Acquire-clause-place
returns-in-Acquire-clause-place c =
    acquired_opened _ c.args.dup.now.memory c.acquire.new.dup.memory c.args.log.now c.acquire.ensures.answer
