-- What a client's calls leave in its record, call by call, and that a trace tells it.
use Rattle.std.proofs.Common.{◌≡◌, ◌==◌, if◌then◌else◌, ℕ, Bool, true, false, List, [], ◌∷◌, Option, Some, None, Result, Ok, Err, refl, sym, ap, ◌∙◌}
use Rattle.std.specs.List.{cons_option}
use Rattle.dd_pointer.specs.declared.shape.ShapeInfo.{ShapeInfo}
use Rattle.dd_calls.specs.declared.answers.DupRefusal.{DupRefusal}
use Rattle.dd_calls.specs.declared.answers.OpenRefusal.{OpenRefusal}
use Rattle.dd_calls.specs.declared.answers.CloseRefusal.{CloseRefusal}
use Rattle.dd_log.specs.History.{History, desk_mode}
use Rattle.dd_log.specs.Picture.{view}
use Rattle.dd_table.specs.Opening.{opening, closing}
use Rattle.dd_calls.specs.declared.dup_call.DupCall.TheVariants as asked
use Rattle.dd_dup.specs.declared.frame.Frame.{Frame}
use Rattle.dd_dup.specs.Reply.{Memory, acquire_reply, acquire_answer, release_reply, release_answer, moves_reply, dirty_reply, shape_reply, buffer_answer, shape_answer, filled_buffer, held_shape_info}
use Rattle.dd_record.specs.declared.chunk.Chunk.{Chunk}
use Rattle.dd_record.specs.declared.chunk.Chunk.TheVariants as chunks
use Rattle.dd_record.specs.Frames.{frame_chunk}
use Rattle.dd_calls.specs.declared.steps.Step.{Step}
use Rattle.dd_calls.specs.declared.steps.Step.TheVariants as steps
use Rattle.dd_calls.specs.declared.steps.ClientCall.{ClientCall}
use Rattle.dd_calls.specs.declared.steps.ClientCall.TheVariants as calls
use Rattle.dd_station.specs.Run.{State, next, app_of, memory_of, client_reply, opening_outcome, closing_outcome, call_outcome}
use Rattle.dd_dup.specs.Reply.{slot_of}
use Rattle.dd_trace.specs.Trace.{moment_of, moments}
use Rattle.dd_prog.specs.Recording.{chunk_told, chunk_at, recorded}
use Rattle.dd_prog.proofs.Left.{frame_told}

-- ---- what a step leaves

-- an opening that is granted leaves a chunk of the desk's mode
abbrev pub opening_left : Result ℕ OpenRefusal → History → Option Chunk
opening_left (Ok slot) h = Some (chunks.Opening (desk_mode h))
opening_left (Err cause) h = None

-- a frame that is granted leaves one, with the pixels of what is seen of the desk
abbrev pub frame_left : Result Frame DupRefusal → History → Option Chunk
frame_left (Ok f) h = Some (chunks.Frame (frame_chunk f (view h)))
frame_left (Err cause) h = None

-- an acquire of a client leaves none where it has no duplicator
abbrev pub acquire_left : Option Memory → History → Option Chunk
acquire_left None h = None
acquire_left (Some m) h = frame_left (acquire_reply m h) h

-- what a client's call leaves
abbrev pub call_left : State → ℕ → ClientCall → Option Chunk
call_left s k calls.Duplicate = opening_left (opening s.history (app_of s k)) s.history
call_left s k calls.Close = None
call_left s k (calls.Acquire timeout) = acquire_left (memory_of s k) s.history
call_left s k calls.Release = None
call_left s k (calls.Moves buffer) = None
call_left s k (calls.Dirty buffer) = None
call_left s k (calls.Shape buffer) = None
call_left s k calls.Surface = None
call_left s k calls.Desc = None

-- what a step leaves in the record of client c: a drawing nothing, nor does a call of another client
abbrev pub chunk_left : ℕ → State → Step → Option Chunk
chunk_left c s (steps.Draw d) = None
chunk_left c s (steps.Call k call) = if k == c then call_left s k call else None

-- the chunks that steps leave, in the steps' order
abbrev pub all_left : ℕ → State → List Step → List Chunk
all_left c s [] = []
all_left c s (t ∷ ts) = cons_option (chunk_left c s t) (all_left c (next s t).1 ts)

-- ---- and what its answer tells

opening_told : (r : Result ℕ OpenRefusal) (s : State) (k : ℕ) (m : Option Memory)
    → chunk_told (opening_outcome r s k).0 m s.history ≡ opening_left r s.history
opening_told (Ok slot) s k m = refl
opening_told (Err cause) s k m = refl

closing_told : (r : Result ℕ CloseRefusal) (s : State) (k : ℕ) (m : Option Memory)
    → chunk_told (closing_outcome r s k).0 m s.history ≡ None
closing_told (Ok slot) s k m = refl
closing_told (Err cause) s k m = refl

given_told : (r : Result Frame DupRefusal) (m : Memory) (h : History) → acquire_reply m h ≡ r
    → chunk_told (acquire_answer r) (Some m) h ≡ frame_left r h
given_told (Ok f) m h is = frame_told m h f is
given_told (Err cause) m h is = refl

acquire_told : (o : Option Memory) (h : History)
    → chunk_told (client_reply asked.Acquire o h).0 o h ≡ acquire_left o h
acquire_told None h = refl
acquire_told (Some m) h = given_told (acquire_reply m h) m h refl

release_told : (r : Result (Unit {0}) DupRefusal) (m : Option Memory) (h : History)
    → chunk_told (release_answer r) m h ≡ None
release_told (Ok x) m h = refl
release_told (Err cause) m h = refl

buffer_told : (r : Result ℕ DupRefusal) (buffer : List ℕ) (m : Option Memory) (h : History)
    → chunk_told (buffer_answer r buffer) m h ≡ None
buffer_told (Ok size) buffer m h = refl
buffer_told (Err cause) buffer m h = refl

shape_told : (shape : Option ShapeInfo) (r : Result ℕ DupRefusal) (buffer : List ℕ) (m : Option Memory) (h : History)
    → chunk_told (shape_answer shape r buffer) m h ≡ None
shape_told shape (Ok size) buffer m h = refl
shape_told shape (Err cause) buffer m h = refl

released_told : (o : Option Memory) (h : History) → chunk_told (client_reply asked.Release o h).0 o h ≡ None
released_told None h = refl
released_told (Some m) h = release_told (release_reply m h) (Some m) h

moves_told : (n : ℕ) (o : Option Memory) (h : History) → chunk_told (client_reply (asked.Moves n) o h).0 o h ≡ None
moves_told n None h = refl
moves_told n (Some m) h =
    let r = moves_reply m h (filled_buffer n) in buffer_told r.0 r.1 (Some m) h

dirty_told : (n : ℕ) (o : Option Memory) (h : History) → chunk_told (client_reply (asked.Dirty n) o h).0 o h ≡ None
dirty_told n None h = refl
dirty_told n (Some m) h =
    let r = dirty_reply m h (filled_buffer n) in buffer_told r.0 r.1 (Some m) h

shaped_told : (n : ℕ) (o : Option Memory) (h : History) → chunk_told (client_reply (asked.Shape n) o h).0 o h ≡ None
shaped_told n None h = refl
shaped_told n (Some m) h =
    let r = shape_reply m h (filled_buffer n) in shape_told (held_shape_info m.held) r.0 r.1 (Some m) h

surface_told : (o : Option Memory) (h : History) → chunk_told (client_reply asked.Surface o h).0 o h ≡ None
surface_told None h = refl
surface_told (Some m) h = refl

desc_told : (o : Option Memory) (h : History) → chunk_told (client_reply asked.Desc o h).0 o h ≡ None
desc_told None h = refl
desc_told (Some m) h = refl

call_told : (s : State) (k : ℕ) (call : ClientCall)
    → chunk_told (call_outcome s k call).0 (memory_of s k) s.history ≡ call_left s k call
call_told s k calls.Duplicate = opening_told (opening s.history (app_of s k)) s k (memory_of s k)
call_told s k calls.Close = closing_told (closing s.history (slot_of (memory_of s k) s.history)) s k (memory_of s k)
call_told s k (calls.Acquire timeout) = acquire_told (memory_of s k) s.history
call_told s k calls.Release = released_told (memory_of s k) s.history
call_told s k (calls.Moves n) = moves_told n (memory_of s k) s.history
call_told s k (calls.Dirty n) = dirty_told n (memory_of s k) s.history
call_told s k (calls.Shape n) = shaped_told n (memory_of s k) s.history
call_told s k calls.Surface = surface_told (memory_of s k) s.history
call_told s k calls.Desc = desc_told (memory_of s k) s.history

-- of the client alone
of_client : (of : Bool) (told left : Option Chunk) → told ≡ left
    → (if of then told else None) ≡ (if of then left else None)
of_client true told left e = e
of_client false told left e = refl

step_told : (c : ℕ) (s : State) (t : Step) → chunk_at c (moment_of s t) ≡ chunk_left c s t
unfolding next
step_told c s (steps.Draw d) = refl
step_told c s (steps.Call k call) =
    of_client (k == c) (chunk_told (call_outcome s k call).0 (memory_of s k) s.history) (call_left s k call)
    (call_told s k call)

-- so the chunks that steps leave are those that a trace tells
pub chunks_told : (c : ℕ) (s : State) (ts : List Step) → all_left c s ts ≡ recorded c (moments s ts)
chunks_told c s [] = refl
chunks_told c s (t ∷ ts) =
    ap (λ o. cons_option o (all_left c (next s t).1 ts)) (sym (step_told c s t))
    ∙ ap (cons_option (chunk_at c (moment_of s t))) (chunks_told c (next s t).1 ts)
