-- What a duplicator answered, as a look's answer. No public clause names it.
use Rattle.std.specs.Prelude.{Option, Some, None}
use Rattle.dd_calls.specs.declared.answers.FrameInfo.{FrameInfo}
use Rattle.dd_dup.specs.News.{held_info}
use Rattle.dd_dup.specs.Reply.{Memory}
use Rattle.dd_board.specs.declared.looking.Asked.{Asked}
use Rattle.dd_board.specs.declared.looking.Asked.TheVariants as asked
use Rattle.dd_board.specs.declared.looking.LookAnswer.{LookAnswer}
use Rattle.dd_board.specs.declared.looking.LookAnswer.TheVariants as looks

-- the info of the frame that a duplicator's memory holds, if it holds one
abbrev pub dup_info : Option Memory → Option FrameInfo
dup_info None = None
dup_info (Some m) = held_info m.held

-- that info as an answer; after an acquire that gave a frame there is one
abbrev pub frame_answer : Option FrameInfo → LookAnswer
frame_answer None = looks.NoDuplicator
frame_answer (Some info) = looks.Frame info

-- what was answered, where the memory then holds a frame of this info
abbrev pub look_answer : Asked → Option FrameInfo → LookAnswer
look_answer asked.Acquired info = frame_answer info
look_answer asked.Released info = looks.Released
look_answer (asked.Size size) info = looks.Size size
look_answer (asked.Refused cause) info = looks.Refused cause
look_answer asked.NoDuplicator info = looks.NoDuplicator
