-- What a step leaves in a client's record is told by its answer and the duplicator after it.
use Rattle.std.proofs.Common.{◌≡◌, ◌==◌, ℕ, ◌-◌, ◌<◌, ◌≤◌, ⊎_elim, Bool, true, false, List, length, Option, Some, None, Result, Ok, Err, refl, sym, ap, ◌∙◌, subst, eq-eqb, arith}
use Rattle.std.specs.Prelude.{option_map, slice_set, slice_index_or, IfSome, is_some}
use Rattle.std.proofs.lemmas.Bool.{cases_lt, false≢true, cond-true, cond-false}
use Rattle.std.proofs.lemmas.List.{take_all, get_or-set_same, get_or_past}
use Rattle.dd_calls.specs.declared.answers.DupRefusal.{DupRefusal}
use Rattle.dd_calls.specs.declared.answers.OpenRefusal.{OpenRefusal}
use Rattle.dd_calls.specs.declared.answers.CloseRefusal.{CloseRefusal}
use Rattle.dd_log.specs.History.{History, desk_mode, first_entries}
use Rattle.dd_log.specs.Picture.{view}
use Rattle.dd_pointer.specs.declared.shape.ShapeInfo.{ShapeInfo}
use Rattle.dd_table.specs.Opening.{opening, closing}
use Rattle.dd_calls.specs.declared.dup_call.DupCall.{DupCall}
use Rattle.dd_calls.specs.declared.dup_call.DupCall.TheVariants as asked
use Rattle.dd_dup.specs.declared.frame.Frame.{Frame}
use Rattle.dd_dup.specs.Duplicator.{Duplicator}
use Rattle.dd_dup.specs.News.{frame}
use Rattle.dd_dup.specs.Reply.{Memory, is_lost, with_frame, memory_after, acquire_reply, acquire_memory, acquire_answer, release_reply, release_answer, moves_reply, dirty_reply, shape_reply, buffer_answer, shape_answer, filled_buffer, held_shape_info}
use Rattle.dd_dup.specs.Stands.{Stands}
use Rattle.dd_dup.proofs.Frames.{granted_is, granted_kept}
use Rattle.dd_record.specs.declared.chunk.Chunk.TheVariants as chunks
use Rattle.dd_record.specs.Frames.{frame_chunk, frame_bytes_of}
use Rattle.dd_record.specs.Writing.{frame_bytes}
use Rattle.dd_calls.specs.declared.steps.Step.TheVariants as steps
use Rattle.dd_calls.specs.declared.steps.ClientCall.{ClientCall}
use Rattle.dd_calls.specs.declared.steps.ClientCall.TheVariants as calls
use Rattle.dd_trace.specs.Trace.{moment_of}
use Rattle.dd_station.specs.Run.{State, next, app_of, memory_of, client_reply, opening_outcome, closing_outcome, call_outcome}
use Rattle.dd_dup.specs.Reply.{slot_of}
use Rattle.dd_prog.specs.Leaving.{shown_bytes, left_by, bytes_left}
use Rattle.dd_prog.specs.Recording.{chunk_told, chunk_at}

-- the answers of openings and closings, and of calls that are no acquire
opening_leaves : (r : Result ℕ OpenRefusal) (s : State) (k : ℕ) (m : Option Memory) (dup : Option Duplicator)
    → left_by (opening_outcome r s k).0 (desk_mode s.history) dup
    ≡ bytes_left (chunk_told (opening_outcome r s k).0 m s.history)
opening_leaves (Ok slot) s k m dup = refl
opening_leaves (Err cause) s k m dup = refl

closing_leaves : (r : Result ℕ CloseRefusal) (s : State) (k : ℕ) (m : Option Memory) (dup : Option Duplicator)
    → left_by (closing_outcome r s k).0 (desk_mode s.history) dup
    ≡ bytes_left (chunk_told (closing_outcome r s k).0 m s.history)
closing_leaves (Ok slot) s k m dup = refl
closing_leaves (Err cause) s k m dup = refl

release_leaves : (r : Result (Unit {0}) DupRefusal) (m : Option Memory) (h : History) (dup : Option Duplicator)
    → left_by (release_answer r) (desk_mode h) dup ≡ bytes_left (chunk_told (release_answer r) m h)
release_leaves (Ok x) m h dup = refl
release_leaves (Err cause) m h dup = refl

buffer_leaves : (r : Result ℕ DupRefusal) (buffer : List ℕ) (m : Option Memory) (h : History) (dup : Option Duplicator)
    → left_by (buffer_answer r buffer) (desk_mode h) dup ≡ bytes_left (chunk_told (buffer_answer r buffer) m h)
buffer_leaves (Ok size) buffer m h dup = refl
buffer_leaves (Err cause) buffer m h dup = refl

shape_leaves : (shape : Option ShapeInfo) (r : Result ℕ DupRefusal) (buffer : List ℕ) (m : Option Memory) (h : History)
    (dup : Option Duplicator)
    → left_by (shape_answer shape r buffer) (desk_mode h) dup ≡ bytes_left (chunk_told (shape_answer shape r buffer) m h)
shape_leaves shape (Ok size) buffer m h dup = refl
shape_leaves shape (Err cause) buffer m h dup = refl

abbrev is_acquire : DupCall → Bool
is_acquire asked.Acquire = true
is_acquire _ = false

asked_leaves : (call : DupCall) (o : Option Memory) (h : History) (dup : Option Duplicator) → is_acquire call ≡ false
    → left_by (client_reply call o h).0 (desk_mode h) dup ≡ bytes_left (chunk_told (client_reply call o h).0 o h)
asked_leaves call None h dup other = refl
asked_leaves asked.Acquire (Some m) h dup other = absurd (false≢true (sym other))
asked_leaves asked.Release (Some m) h dup other = release_leaves (release_reply m h) (Some m) h dup
asked_leaves (asked.Moves n) (Some m) h dup other =
    let r = moves_reply m h (filled_buffer n) in buffer_leaves r.0 r.1 (Some m) h dup
asked_leaves (asked.Dirty n) (Some m) h dup other =
    let r = dirty_reply m h (filled_buffer n) in buffer_leaves r.0 r.1 (Some m) h dup
asked_leaves (asked.Shape n) (Some m) h dup other =
    let r = shape_reply m h (filled_buffer n) in shape_leaves (held_shape_info m.held) r.0 r.1 (Some m) h dup
asked_leaves asked.Surface (Some m) h dup other = refl
asked_leaves asked.Desc (Some m) h dup other = refl

abbrev memory_or : Memory → Option Memory → Memory
memory_or m None = m
memory_or m (Some n) = n

-- a duplicator that holds a frame of all entries has the bytes of the frame's chunk
frame_shown : (dup : Option Duplicator) (m : Memory) (h : History) (f : Frame)
    → option_map (λ d. d.memory) dup ≡ Some (with_frame m (length h.entries) f)
    → IfSome dup (λ d. Stands d h) → shown_bytes dup ≡ frame_bytes (frame_chunk f (view h))
frame_shown None m h f is stands = absurd (false≢true (ap is_some is))
frame_shown (Some d) m h f is stands =
    let memory : d.memory ≡ with_frame m (length h.entries) f = ap (memory_or m) is in
    let all : first_entries (length h.entries) h ≡ h =
    ap (λ es. record h { entries = es }) (take_all (length h.entries) h.entries (omega arith)) in
    let surface : d.surface ≡ view h =
    stands.surface ∙ ap (λ n. view (first_entries n h)) (ap (λ (k : Memory). k.mark) memory) ∙ ap view all in
    ap (λ (k : Memory). frame_bytes_of k.held d.surface) memory
    ∙ ap (λ g. frame_bytes (frame_chunk f g)) surface

-- a frame that is granted is that of what is new since the marks, and leaves its chunk
pub frame_told : (m : Memory) (h : History) (f : Frame) → acquire_reply m h ≡ Ok f
    → chunk_told (acquire_answer (Ok f)) (Some m) h ≡ Some (chunks.Frame (frame_chunk f (view h)))
frame_told m h f is = rw (sym (granted_is m h (frame h m.mark m.pointer_mark) f is)) refl

-- an acquire leaves the frame that it was granted
acquire_leaves : (r : Result Frame DupRefusal) (m : Memory) (h : History) (dup : Option Duplicator)
    → acquire_reply m h ≡ r → option_map (λ d. d.memory) dup ≡ Some (acquire_memory m h)
    → IfSome dup (λ d. Stands d h)
    → left_by (acquire_answer r) (desk_mode h) dup ≡ bytes_left (chunk_told (acquire_answer r) (Some m) h)
acquire_leaves (Err cause) m h dup reply is stands = refl
acquire_leaves (Ok f) m h dup reply is stands =
    let kept : is_lost m h ≡ false = granted_kept m h _ f reply in
    frame_shown dup m h f (is ∙ ap Some (cond-false _ _ _ kept ∙ ap (memory_after m h) reply)) stands
    ∙ sym (ap bytes_left (frame_told m h f reply))

-- a client with a memory has a place for it
has_place : (s : State) (c : ℕ) (m : Memory) → memory_of s c ≡ Some m → c - 1 < length s.memories
has_place s c m is = ⊎_elim
    (λ (within : c - 1 < length s.memories). within)
    (λ (past : length s.memories ≤ c - 1).
    absurd (false≢true (ap is_some (sym (get_or_past s.memories (c - 1) None past) ∙ is))))
    (cases_lt (c - 1) (length s.memories))

acquired : (s : State) (c : ℕ) (dup : Option Duplicator) (o : Option Memory) → memory_of s c ≡ o
    → option_map (λ d. d.memory) dup
    ≡ slice_index_or (slice_set s.memories (c - 1) (client_reply asked.Acquire o s.history).1) (c - 1) None
    → IfSome dup (λ d. Stands d s.history)
    → left_by (client_reply asked.Acquire o s.history).0 (desk_mode s.history) dup
    ≡ bytes_left (chunk_told (client_reply asked.Acquire o s.history).0 o s.history)
acquired s c dup None there is stands = refl
acquired s c dup (Some m) there is stands =
    acquire_leaves (acquire_reply m s.history) m s.history dup refl
    (is ∙ get_or-set_same s.memories (c - 1) (Some (acquire_memory m s.history)) None (has_place s c m there)) stands

-- what a call of the client leaves
call_leaves : (s : State) (c : ℕ) (call : ClientCall) (dup : Option Duplicator)
    → option_map (λ d. d.memory) dup ≡ memory_of (call_outcome s c call).1 c
    → IfSome dup (λ d. Stands d (call_outcome s c call).1.history)
    → left_by (call_outcome s c call).0 (desk_mode s.history) dup
    ≡ bytes_left (chunk_told (call_outcome s c call).0 (memory_of s c) s.history)
call_leaves s c calls.Duplicate dup is stands =
    opening_leaves (opening s.history (app_of s c)) s c (memory_of s c) dup
call_leaves s c calls.Close dup is stands =
    closing_leaves (closing s.history (slot_of (memory_of s c) s.history)) s c (memory_of s c) dup
call_leaves s c (calls.Acquire timeout) dup is stands = acquired s c dup (memory_of s c) refl is stands
call_leaves s c calls.Release dup is stands = asked_leaves asked.Release (memory_of s c) s.history dup refl
call_leaves s c (calls.Moves n) dup is stands = asked_leaves (asked.Moves n) (memory_of s c) s.history dup refl
call_leaves s c (calls.Dirty n) dup is stands = asked_leaves (asked.Dirty n) (memory_of s c) s.history dup refl
call_leaves s c (calls.Shape n) dup is stands = asked_leaves (asked.Shape n) (memory_of s c) s.history dup refl
call_leaves s c calls.Surface dup is stands = asked_leaves asked.Surface (memory_of s c) s.history dup refl
call_leaves s c calls.Desc dup is stands = asked_leaves asked.Desc (memory_of s c) s.history dup refl

-- what a step of the client leaves
pub step_leaves : (s : State) (c k : ℕ) (call : ClientCall) (dup : Option Duplicator) → k ≡ c
    → option_map (λ d. d.memory) dup ≡ memory_of (next s (steps.Call k call)).1 c
    → IfSome dup (λ d. Stands d (next s (steps.Call k call)).1.history)
    → left_by (next s (steps.Call k call)).0 (desk_mode s.history) dup
    ≡ bytes_left (chunk_at c (moment_of s (steps.Call k call)))
unfolding next
step_leaves s c k call dup same is stands =
    let mine : (k == c) ≡ true = eq-eqb k c same in
    let own : (call_outcome s k call) ≡ (call_outcome s c call) = ap (λ j. call_outcome s j call) same in
    ap (λ r. left_by r.0 (desk_mode s.history) dup) own
    ∙ call_leaves s c call dup (is ∙ ap (λ r. memory_of r.1 c) own)
    (subst (λ r. IfSome dup (λ d. Stands d r.1.history)) own stands)
    ∙ sym (ap bytes_left (cond-true _ _ _ mine
    ∙ ap (λ j. chunk_told (call_outcome s j call).0 (memory_of s j) s.history) same))

-- the memory of a duplicator that is lent, and that it stands on a list
pub lent_memory : {A : Type 0} (now : A → Duplicator) (o : Option A)
    → option_map (λ d. d.memory) (option_map now o) ≡ option_map (λ a. (now a).memory) o
lent_memory now None = refl
lent_memory now (Some a) = refl

pub lent_stands : {A : Type 0} (now : A → Duplicator) (o : Option A) (h : History)
    → IfSome o (λ a. Stands (now a) h) → IfSome (option_map now o) (λ d. Stands d h)
lent_stands now None h stands = tt
lent_stands now (Some a) h stands = stands
