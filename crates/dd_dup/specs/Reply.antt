-- What one duplicator answers, told by its memory and the list.
use Rattle.std.specs.Prelude.{◌≡◌, ℕ, ◌+◌, ◌^◌, ◌≤◌, ◌<◌, nat_lt, Bool, true, false, ◌||◌, if◌then◌else◌, List, length, drop, replicate, Option, Some, None, is_some, option_map, Result, Ok, Err, is_ok, IsOk}
use Rattle.dd_geom.specs.Grid.{rows}
use Rattle.dd_pointer.specs.declared.shape.ShapeInfo.{ShapeInfo}
use Rattle.dd_pointer.specs.Shape.{info_of}
use Rattle.dd_coal.specs.declared.coalescing.TheConstants.{MAX_RECTS}
use Rattle.dd_acc.specs.declared.interval.TheConstants.{MAX_MOVES}
use Rattle.dd_meta.specs.Buffer.{bytes_of_moves, bytes_of_rects, put}
use Rattle.dd_calls.specs.declared.answers.Answer.{Answer}
use Rattle.dd_calls.specs.declared.answers.Answer.TheVariants as answers
use Rattle.dd_calls.specs.declared.answers.FrameInfo.{FrameInfo}
use Rattle.dd_calls.specs.declared.answers.DupRefusal.{DupRefusal}
use Rattle.dd_calls.specs.declared.answers.DupRefusal.TheVariants.{AccessLost, InvalidCall, WaitTimeout, MoreData, OutOfMemory}
use Rattle.dd_modes.specs.declared.modes.Mode.{Mode}
use Rattle.dd_log.specs.History.{History, desk, desk_mode, first_entries, any_cuts_off, any_presents, any_points}
use Rattle.dd_log.specs.Picture.{view}
use Rattle.dd_log.specs.Slots.{slot_at}
use Rattle.dd_dup.specs.declared.calls.TheConstants.{FILL}
use Rattle.dd_calls.specs.declared.dup_call.DupCall.{DupCall}
use Rattle.dd_calls.specs.declared.dup_call.DupCall.TheVariants as calls
use Rattle.dd_dup.specs.declared.frame.Frame.{Frame}
use Rattle.dd_dup.specs.News.{news, frame, held_moves, held_dirt, held_shape, shape_bytes}

-- What a duplicator remembers: its opening place, its picture mark and its pointer mark, the frame that it holds, and
-- whether it is lost.
pub record Memory : Type 0 where
  pub opened : ℕ
  pub mark : ℕ
  pub pointer_mark : ℕ
  pub held : Option Frame
  pub lost : Bool

-- of a duplicator opened at a place: its mark is where the desk's picture begins, and all of the pointer is new
abbrev pub fresh_memory : History → ℕ → Memory
fresh_memory h place =
    record { opened = place; mark = (desk h).picture_start; pointer_mark = 0; held = None; lost = false }

-- The mode changed, the desktop was switched or the session was disconnected after the opening.
abbrev pub is_lost : Memory → History → Bool
is_lost m h = m.lost || any_cuts_off (drop (m.opened + 1) h.entries)

-- it is lost for good, and its frame is gone
abbrev pub lost_memory : Memory → Memory
lost_memory m = record m { held = None; lost = true }

-- with a frame of all entries up to a mark, and without a frame
abbrev pub with_frame : Memory → ℕ → Frame → Memory
with_frame m mark f = record m { mark = mark; pointer_mark = mark; held = Some f }

abbrev pub without_frame : Memory → Memory
without_frame m = record m { held = None }

-- there is a present from the picture mark on, or the pointer or its shape was set from the pointer mark on
abbrev pub is_new : Memory → History → Bool
is_new m h = any_presents (news h m.mark) || any_points (news h m.pointer_mark)

-- what is given where something is new
abbrev pub given_news : {A : Type 0} → Memory → History → A → Result A DupRefusal
given_news m h given = if is_new m h then Ok given else Err WaitTimeout

-- the first cause that refuses an acquire, or what it is given
abbrev pub granted : {A : Type 0} → Memory → History → A → Result A DupRefusal
granted m h given =
    if is_lost m h then Err AccessLost else if is_some m.held then Err InvalidCall else given_news m h given

-- the answer to an acquire
abbrev pub acquire_reply : Memory → History → Result Frame DupRefusal
acquire_reply m h = granted m h (frame h m.mark m.pointer_mark)

-- the memory after an answer that names no loss
abbrev pub memory_after : Memory → History → Result Frame DupRefusal → Memory
memory_after m h (Ok f) = with_frame m (length h.entries) f
memory_after m h (Err cause) = m

-- and after any
abbrev pub acquire_memory : Memory → History → Memory
acquire_memory m h = if is_lost m h then lost_memory m else memory_after m h (acquire_reply m h)

-- why a call that is about the held frame is refused, where it is
abbrev pub held_reply : Memory → History → Result (Unit {0}) DupRefusal
held_reply m h = if is_lost m h then Err AccessLost else if is_some m.held then Ok tt else Err InvalidCall

-- the memory after a call that only looks at the held frame
abbrev pub held_memory : Memory → History → Memory
held_memory m h = if is_lost m h then lost_memory m else m

-- the answer to a release: after it no frame is held
abbrev pub release_reply : Memory → History → Result (Unit {0}) DupRefusal
release_reply m h = held_reply m h

abbrev pub release_memory : Memory → History → Memory
release_memory m h = if is_lost m h then lost_memory m else without_frame m

-- bytes put into a buffer, where nothing refuses it: their number and the buffer, or the number that is required
abbrev pub put_answer : Result ℕ ℕ → Result ℕ DupRefusal
put_answer (Ok size) = Ok size
put_answer (Err required) = Err (MoreData required)

abbrev pub as_reply : Result ℕ ℕ × List ℕ → Result ℕ DupRefusal × List ℕ
as_reply p = (put_answer p.0, p.1)

abbrev pub unless_refused : Result (Unit {0}) DupRefusal → List ℕ → List ℕ → Result ℕ DupRefusal × List ℕ
unless_refused (Ok x) bytes buffer = as_reply (put bytes buffer)
unless_refused (Err cause) bytes buffer = (Err cause, buffer)

-- the answers to the calls that put a part of the held frame into a buffer, and the buffer then
abbrev pub moves_reply : Memory → History → List ℕ → Result ℕ DupRefusal × List ℕ
moves_reply m h buffer = unless_refused (held_reply m h) (bytes_of_moves (held_moves m.held)) buffer

abbrev pub dirty_reply : Memory → History → List ℕ → Result ℕ DupRefusal × List ℕ
dirty_reply m h buffer = unless_refused (held_reply m h) (bytes_of_rects (held_dirt m.held)) buffer

abbrev pub shape_reply : Memory → History → List ℕ → Result ℕ DupRefusal × List ℕ
shape_reply m h buffer = unless_refused (held_reply m h) (shape_bytes (held_shape m.held)) buffer

-- the rows of the acquired surface
abbrev pub surface_reply : Memory → History → Option (List (List ℕ))
surface_reply m h = option_map (λ f. rows (view (first_entries m.mark h))) m.held

-- the mode at the opening
abbrev pub desc_reply : Memory → History → Mode
desc_reply m h = desk_mode (first_entries m.opened h)

-- the info of a frame
abbrev pub told_info : Result Frame DupRefusal → Result FrameInfo DupRefusal
told_info (Ok f) = Ok f.info
told_info (Err cause) = Err cause

-- a frame, a release and a buffer as answers
abbrev pub acquire_answer : Result Frame DupRefusal → Answer
acquire_answer (Ok f) = answers.Frame f.info f.moves f.dirt
acquire_answer (Err cause) = answers.Refused cause None

abbrev pub release_answer : Result (Unit {0}) DupRefusal → Answer
release_answer (Ok x) = answers.Released
release_answer (Err cause) = answers.Refused cause None

abbrev pub buffer_answer : Result ℕ DupRefusal → List ℕ → Answer
buffer_answer (Ok size) buffer = answers.Buffer size buffer
buffer_answer (Err cause) buffer = answers.Refused cause (Some buffer)

abbrev pub shape_answer : Option ShapeInfo → Result ℕ DupRefusal → List ℕ → Answer
shape_answer shape (Ok size) buffer = answers.ShapeBuffer size buffer shape
shape_answer shape (Err cause) buffer = answers.Refused cause (Some buffer)

abbrev pub in_buffer : (Result ℕ DupRefusal → List ℕ → Answer) → Result ℕ DupRefusal × List ℕ → Answer
in_buffer answer r = answer r.0 r.1

-- what is told of the held frame's new shape
abbrev pub held_shape_info : Option Frame → Option ShapeInfo
held_shape_info held = option_map info_of (held_shape held)

-- a buffer of this many bytes, before a call
abbrev pub filled_buffer : ℕ → List ℕ
filled_buffer size = replicate size FILL

-- the answer to a call, and the memory after it
abbrev pub reply : DupCall → Memory → History → Answer × Memory
reply calls.Acquire m h = (acquire_answer (acquire_reply m h), acquire_memory m h)
reply calls.Release m h = (release_answer (release_reply m h), release_memory m h)
reply (calls.Moves buffer) m h = (in_buffer buffer_answer (moves_reply m h (filled_buffer buffer)), held_memory m h)
reply (calls.Dirty buffer) m h = (in_buffer buffer_answer (dirty_reply m h (filled_buffer buffer)), held_memory m h)
reply (calls.Shape buffer) m h = (
  in_buffer (shape_answer (held_shape_info m.held)) (shape_reply m h (filled_buffer buffer)),
  held_memory m h,
)
reply calls.Surface m h = (answers.Surface (surface_reply m h), m)
reply calls.Desc m h = (answers.Desc (desc_reply m h), m)

-- whether a call takes memory: for a frame that is granted, for a buffer of at least one byte, and for rows
abbrev pub call_takes_memory : DupCall → Memory → History → Bool
call_takes_memory calls.Acquire m h = is_ok (acquire_reply m h)
call_takes_memory calls.Release m h = false
call_takes_memory (calls.Moves buffer) m h = nat_lt 0 buffer
call_takes_memory (calls.Dirty buffer) m h = nat_lt 0 buffer
call_takes_memory (calls.Shape buffer) m h = nat_lt 0 buffer
call_takes_memory calls.Surface m h = is_some m.held
call_takes_memory calls.Desc m h = false

-- The answer to an acquire and the memory after it are those of the reply. Or memory is wanting, for a frame that is
-- granted, and nothing changed.
abbrev pub Answers : Result FrameInfo DupRefusal → Memory → Memory → History → Type 0
Answers (Err OutOfMemory) old new h = IsOk (acquire_reply old h)
Answers answer old new h = (answer ≡ told_info (acquire_reply old h)) × (new ≡ acquire_memory old h)

-- the buffer wasn't too short
abbrev pub IsNotShort : Result ℕ DupRefusal → Type 0
IsNotShort (Err (MoreData required)) = ⊥
IsNotShort answer = Unit {0}

-- a frame has at most 16 moves and 64 dirty rectangles, and its presents are a number of 32 bits
abbrev pub IsBounded : Answer → Type 0
IsBounded (answers.Frame info moves dirt) =
    (length moves ≤ MAX_MOVES) × (length dirt ≤ MAX_RECTS) × (info.accumulated < 2 ^ 32)
IsBounded _ = Unit {0}

-- the slot of a client's duplicator, where it has one: that of its opening
abbrev pub slot_of : Option Memory → History → Option ℕ
slot_of None h = None
slot_of (Some m) h = slot_at h m.opened
