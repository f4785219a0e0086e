-- A buffer that a client is given has what its held frame told.
use Rattle.std.proofs.Common.{◌≡◌, ℕ, Bool, true, false, if◌then◌else◌, List, length, Option, Some, None, Result, Ok, Err, refl, sym, ap, ◌∙◌, subst}
use Rattle.std.specs.Prelude.{option_map, is_some}
use Rattle.dd_geom.specs.declared.rect.Rect.{Rect}
use Rattle.dd_geom.specs.declared.rect.Move.{Move}
use Rattle.dd_meta.specs.Buffer.{bytes_of_moves, bytes_of_rects, put}
use Rattle.dd_calls.specs.declared.answers.DupRefusal.TheVariants.{AccessLost, InvalidCall}
use Rattle.dd_log.specs.History.{History}
use Rattle.dd_calls.specs.declared.dup_call.DupCall.TheVariants as asked
use Rattle.dd_dup.specs.declared.frame.Frame.{Frame}
use Rattle.dd_pointer.specs.Shape.{PointerShape, info_of}
use Rattle.dd_dup.specs.News.{held_moves, held_dirt, held_shape, shape_bytes}
use Rattle.dd_dup.specs.Reply.{Memory, is_lost, put_answer, unless_refused, buffer_answer, shape_answer, in_buffer, filled_buffer}
use Rattle.dd_calls.specs.declared.steps.Step.{Step}
use Rattle.dd_calls.specs.declared.steps.Step.TheVariants as steps
use Rattle.dd_calls.specs.declared.steps.ClientCall.{ClientCall}
use Rattle.dd_calls.specs.declared.steps.ClientCall.TheVariants as calls
use Rattle.dd_station.specs.Run.{State, next, memory_of, client_reply, call_outcome}
use Rattle.dd_calls.specs.Calls.{IsOfClient}
use Rattle.dd_trace.specs.Trace.{Moment, frame_held}
use Rattle.dd_trace.specs.Headline.{MayRemember, as_told, moves_told, dirt_told, BufferHas, ShapeHas, BufferShows}
use Rattle.dd_trace.proofs.ToldNext.{Told}

-- ---- bytes that are put into a buffer

module _ (bytes : List ℕ) (n : ℕ) where
  put_has : (r : Result ℕ ℕ) (buffer : List ℕ) → put bytes (filled_buffer n) ≡ (r, buffer)
      → BufferHas bytes n (buffer_answer (put_answer r) buffer)
  put_has (Ok size) buffer is = is
  put_has (Err required) buffer is = is

  looked_has : (lost holds : Bool)
      → BufferHas bytes n
      (in_buffer buffer_answer
      (unless_refused (if lost then Err AccessLost else if holds then Ok tt else Err InvalidCall) bytes
      (filled_buffer n)))
  looked_has true holds = tt
  looked_has false false = tt
  looked_has false true =
      put_has (put bytes (filled_buffer n)).0 (put bytes (filled_buffer n)).1 refl

-- ---- those of the held frame

same_moves : (held : Option Frame) → moves_told (option_map as_told held) ≡ held_moves held
same_moves None = refl
same_moves (Some f) = refl

same_dirt : (held : Option Frame) → dirt_told (option_map as_told held) ≡ held_dirt held
same_dirt None = refl
same_dirt (Some f) = refl

module _ (k n : ℕ) (before : List Moment) (h : History) where
  moves_show : (o : Option Memory) → MayRemember k before o
      → BufferShows before (steps.Call k (calls.Moves n)) (client_reply (asked.Moves n) o h).0
  moves_show None told = tt
  moves_show (Some d) told =
      let a = (client_reply (asked.Moves n) (Some d) h).0 in
      let same : moves_told (frame_held k before) ≡ held_moves d.held =
      ap moves_told told.held ∙ same_moves d.held in
      subst (λ (moves : List Move). BufferHas (bytes_of_moves moves) n a) (sym same)
      (looked_has (bytes_of_moves (held_moves d.held)) n (is_lost d h) (is_some d.held))

  dirt_shows : (o : Option Memory) → MayRemember k before o
      → BufferShows before (steps.Call k (calls.Dirty n)) (client_reply (asked.Dirty n) o h).0
  dirt_shows None told = tt
  dirt_shows (Some d) told =
      let a = (client_reply (asked.Dirty n) (Some d) h).0 in
      let same : dirt_told (frame_held k before) ≡ held_dirt d.held =
      ap dirt_told told.held ∙ same_dirt d.held in
      subst (λ (dirt : List Rect). BufferHas (bytes_of_rects dirt) n a) (sym same)
      (looked_has (bytes_of_rects (held_dirt d.held)) n (is_lost d h) (is_some d.held))

-- ---- of its new shape

module _ (shape : Option PointerShape) (n : ℕ) where
  put_shape : (r : Result ℕ ℕ) (buffer : List ℕ) → put (shape_bytes shape) (filled_buffer n) ≡ (r, buffer)
      → ShapeHas shape n (shape_answer (option_map info_of shape) (put_answer r) buffer)
  put_shape (Ok size) buffer is = (is, refl)
  put_shape (Err required) buffer is = is

  looked_shape : (lost holds : Bool)
      → ShapeHas shape n
      (in_buffer (shape_answer (option_map info_of shape))
      (unless_refused (if lost then Err AccessLost else if holds then Ok tt else Err InvalidCall) (shape_bytes shape)
      (filled_buffer n)))
  looked_shape true holds = tt
  looked_shape false false = tt
  looked_shape false true =
      put_shape (put (shape_bytes shape) (filled_buffer n)).0 (put (shape_bytes shape) (filled_buffer n)).1 refl

shape_shows : (k n : ℕ) (before : List Moment) (h : History) (o : Option Memory) → MayRemember k before o
    → BufferShows before (steps.Call k (calls.Shape n)) (client_reply (asked.Shape n) o h).0
shape_shows k n before h None told = tt
shape_shows k n before h (Some d) told =
    let a = (client_reply (asked.Shape n) (Some d) h).0 in
    subst (λ (shape : Option PointerShape). ShapeHas shape n a) (sym told.shape)
    (looked_shape (held_shape d.held) n (is_lost d h) (is_some d.held))

-- ---- each step

called_buffer : (s : State) (k : ℕ) (call : ClientCall) (before : List Moment) → MayRemember k before (memory_of s k)
    → BufferShows before (steps.Call k call) (call_outcome s k call).0
called_buffer s k calls.Duplicate before told = tt
called_buffer s k calls.Close before told = tt
called_buffer s k (calls.Acquire timeout) before told = tt
called_buffer s k calls.Release before told = tt
called_buffer s k (calls.Moves n) before told = moves_show k n before s.history (memory_of s k) told
called_buffer s k (calls.Dirty n) before told = dirt_shows k n before s.history (memory_of s k) told
called_buffer s k (calls.Shape n) before told = shape_shows k n before s.history (memory_of s k) told
called_buffer s k calls.Surface before told = tt
called_buffer s k calls.Desc before told = tt

pub next_buffer : (s : State) (t : Step) (before : List Moment) → IsOfClient (length s.clients) t
    → Told (length s.clients) before s → BufferShows before t (next s t).0
unfolding next
next_buffer s (steps.Draw d) before client told = tt
next_buffer s (steps.Call k call) before client told = called_buffer s k call before (told k client.0 client.1)
