-- What a look answers.
use Rattle.std.specs.Prelude.{◌≡◌, ℕ, ◌+◌, ◌-◌, ◌^◌, min, List, Option, Some, None, Result, Ok, Err, IsOk}
use Rattle.dd_calls.specs.declared.answers.FrameInfo.{FrameInfo}
use Rattle.dd_calls.specs.declared.answers.DupRefusal.{DupRefusal}
use Rattle.dd_calls.specs.declared.answers.DupRefusal.TheVariants.{OutOfMemory}
use Rattle.dd_log.specs.History.{History}
use Rattle.dd_dup.specs.Reply.{Memory, told_info, acquire_reply, acquire_memory, release_reply, release_memory, moves_reply, dirty_reply, shape_reply, held_memory}
use Rattle.dd_board.specs.declared.looking.Call.{Call}
use Rattle.dd_board.specs.declared.looking.Call.TheVariants.{Acquire, Release, Moves, Dirty, Shape}
use Rattle.dd_board.specs.declared.looking.LookAnswer.{LookAnswer}
use Rattle.dd_board.specs.declared.looking.LookAnswer.TheVariants.{Frame, Released, Size, Refused, NoDuplicator}

-- a frame, a release and a buffer as answers
abbrev pub frame_look : Result FrameInfo DupRefusal → LookAnswer
frame_look (Ok info) = Frame info
frame_look (Err cause) = Refused cause

abbrev pub release_look : Result (Unit {0}) DupRefusal → LookAnswer
release_look (Ok x) = Released
release_look (Err cause) = Refused cause

abbrev pub buffer_look : Result ℕ DupRefusal → LookAnswer
buffer_look (Ok size) = Size size
buffer_look (Err cause) = Refused cause

-- the answer, the memory after it, and the buffer then
abbrev pub look_reply : Call → Memory → History → List ℕ → LookAnswer × Memory × List ℕ
look_reply Acquire m h b = (frame_look (told_info (acquire_reply m h)), acquire_memory m h, b)
look_reply Release m h b = (release_look (release_reply m h), release_memory m h, b)
look_reply Moves m h b = (buffer_look (moves_reply m h b).0, held_memory m h, (moves_reply m h b).1)
look_reply Dirty m h b = (buffer_look (dirty_reply m h b).0, held_memory m h, (dirty_reply m h b).1)
look_reply Shape m h b = (buffer_look (shape_reply m h b).0, held_memory m h, (shape_reply m h b).1)

-- An acquire is answered by the reply. Or memory is wanting, for a frame that is granted, and nothing changed.
abbrev pub IsAcquired : LookAnswer → Memory → Memory → History → Type 0
IsAcquired (Refused OutOfMemory) old new h = IsOk (acquire_reply old h) × (new ≡ old)
IsAcquired answer old new h = (answer ≡ frame_look (told_info (acquire_reply old h))) × (new ≡ acquire_memory old h)

-- A look is answered by the reply. Or memory is wanting, for a frame that is granted, and nothing changed.
abbrev pub IsReply : LookAnswer → Call → Memory → Memory → History → List ℕ → List ℕ → Type 0
IsReply (Refused OutOfMemory) call old new h b c =
    (call ≡ Acquire) × IsOk (acquire_reply old h) × (new ≡ old) × (c ≡ b)
IsReply answer call old new h b c = (answer, new, c) ≡ look_reply call old h b

-- and that of a client without a duplicator says so
abbrev pub IsLook : LookAnswer → Call → Option Memory → Option Memory → History → List ℕ → List ℕ → Type 0
IsLook answer call (Some old) (Some new) h b c = IsReply answer call old new h b c
IsLook answer call None None h b c = (answer ≡ NoDuplicator) × (c ≡ b)
IsLook answer call old new h b c = ⊥

-- a count of refusals after one more; at its last value it can't rise
abbrev pub one_refused : ℕ → ℕ
one_refused count = min (count + 1) (2 ^ 64 - 1)
