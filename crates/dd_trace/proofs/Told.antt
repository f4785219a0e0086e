-- After each call of a duplicator its memory is what its client's answers told.
use Rattle.std.proofs.Common.{◌≡◌, ℕ, ◌-◌, Bool, true, false, if◌then◌else◌, List, Option, Some, None, Result, Ok, Err, refl, ap, ◌∙◌}
use Rattle.std.specs.Prelude.{option_map, is_some}
use Rattle.dd_pointer.specs.declared.shape.ShapeInfo.{ShapeInfo}
use Rattle.dd_calls.specs.declared.answers.Answer.{Answer}
use Rattle.dd_calls.specs.declared.answers.Answer.TheVariants as answers
use Rattle.dd_calls.specs.declared.answers.DupRefusal.{DupRefusal}
use Rattle.dd_calls.specs.declared.answers.DupRefusal.TheVariants.{AccessLost, InvalidCall, WaitTimeout}
use Rattle.dd_log.specs.History.{History}
use Rattle.dd_meta.specs.Buffer.{put, bytes_of_moves, bytes_of_rects}
use Rattle.dd_calls.specs.declared.dup_call.DupCall.{DupCall}
use Rattle.dd_calls.specs.declared.dup_call.DupCall.TheVariants as asked
use Rattle.dd_dup.specs.declared.frame.Frame.{Frame}
use Rattle.dd_dup.specs.News.{frame, held_moves, held_dirt, held_shape, shape_bytes}
use Rattle.dd_dup.specs.Reply.{Memory, lost_memory, without_frame, memory_after, acquire_answer, release_answer, buffer_answer, shape_answer, in_buffer, put_answer, unless_refused, is_lost, is_new, reply, filled_buffer, held_shape_info}
use Rattle.dd_calls.specs.declared.steps.ClientCall.{ClientCall}
use Rattle.dd_station.specs.Run.{client_reply}
use Rattle.dd_trace.specs.Trace.{Moment, shape_behind}
use Rattle.dd_trace.specs.Headline.{MayRemember, as_told}
use Rattle.dd_trace.proofs.Remembering.{then_called, IsBeside, LetsGo, told_frame, told_let_go, told_lost, told_beside}

-- ---- kinds of answers

lost_goes : (buffer : Option (List ℕ)) → LetsGo (answers.Refused AccessLost buffer)
lost_goes buffer = record { opens = refl; frame = refl; seen = refl; none = refl }

beside_buffer : (r : Result ℕ ℕ) (buffer : List ℕ) → IsBeside (buffer_answer (put_answer r) buffer)
beside_buffer (Ok size) buffer = record { opens = refl; frame = refl; seen = refl }
beside_buffer (Err required) buffer = record { opens = refl; frame = refl; seen = refl }

beside_shape : (shape : Option ShapeInfo) (r : Result ℕ ℕ) (buffer : List ℕ)
    → IsBeside (shape_answer shape (put_answer r) buffer)
beside_shape shape (Ok size) buffer = record { opens = refl; frame = refl; seen = refl }
beside_shape shape (Err required) buffer = record { opens = refl; frame = refl; seen = refl }

beside_invalid : (buffer : Option (List ℕ)) → IsBeside (answers.Refused InvalidCall buffer)
beside_invalid buffer = record { opens = refl; frame = refl; seen = refl }

-- ---- each call

module _ (k : ℕ) (before : List Moment) (h : History) (o : Option Memory) (call : ClientCall) where
  told_acquired : (lost holds new : Bool) (f : Frame) (d : Memory) → shape_behind o h ≡ f.shape
      → MayRemember k before (Some d)
      → MayRemember k
      (then_called before h o k call
      (acquire_answer
      (if lost then Err AccessLost else if holds then Err InvalidCall else if new then Ok f else Err WaitTimeout)))
      (Some (if lost then lost_memory d
      else memory_after d h
      (if lost then Err AccessLost else if holds then Err InvalidCall else if new then Ok f else Err WaitTimeout)))
  told_acquired true holds new f d fits told = told_lost k before h o call d _ (lost_goes None) told
  told_acquired false true new f d fits told = told_beside k before h o call (Some d) _ (beside_invalid None) told
  told_acquired false false true f d fits told = told_frame k before h o call d f fits told
  told_acquired false false false f d fits told =
      told_beside k before h o call (Some d) (answers.Refused WaitTimeout None)
      (record { opens = refl; frame = refl; seen = refl }) told

  -- where no frame is held, none goes
  free : (d : Memory) (now : List Moment) → d.held ≡ None → MayRemember k now (Some d)
      → MayRemember k now (Some (without_frame d))
  free d now none told = record {
    opened = told.opened;
    picture = told.picture;
    pointer = told.pointer;
    held = told.held ∙ ap (option_map as_told) none;
    shape = told.shape ∙ ap held_shape none;
  }

  told_released : (lost : Bool) (held : Option Frame) (d : Memory) → d.held ≡ held → MayRemember k before (Some d)
      → MayRemember k
      (then_called before h o k call
      (release_answer (if lost then Err AccessLost else if is_some held then Ok tt else Err InvalidCall)))
      (Some (if lost then lost_memory d else without_frame d))
  told_released true held d is told = told_lost k before h o call d _ (lost_goes None) told
  told_released false (Some f) d is told =
      told_let_go k before h o call d answers.Released
      (record { opens = refl; frame = refl; seen = refl; none = refl }) told
  told_released false None d is told =
      free d (then_called before h o k call (answers.Refused InvalidCall None)) is
      (told_beside k before h o call (Some d) _ (beside_invalid None) told)

  -- a call that only looks at the frame
  told_looked : (lost holds : Bool) (answer : Result ℕ DupRefusal → List ℕ → Answer) (bytes buffer : List ℕ)
      (d : Memory) → LetsGo (answer (Err AccessLost) buffer) → IsBeside (answer (Err InvalidCall) buffer)
      → IsBeside (answer (put_answer (put bytes buffer).0) (put bytes buffer).1) → MayRemember k before (Some d)
      → MayRemember k
      (then_called before h o k call
      (in_buffer answer
      (unless_refused (if lost then Err AccessLost else if holds then Ok tt else Err InvalidCall) bytes buffer)))
      (Some (if lost then lost_memory d else d))
  told_looked true holds answer bytes buffer d goes refused put told = told_lost k before h o call d _ goes told
  told_looked false true answer bytes buffer d goes refused put told =
      told_beside k before h o call (Some d) _ put told
  told_looked false false answer bytes buffer d goes refused put told =
      told_beside k before h o call (Some d) _ refused told

  told_buffer : (bytes : List ℕ) (size : ℕ) (d : Memory) → MayRemember k before (Some d)
      → MayRemember k
      (then_called before h o k call
      (in_buffer buffer_answer
      (unless_refused (if is_lost d h then Err AccessLost else if is_some d.held then Ok tt else Err InvalidCall) bytes
      (filled_buffer size))))
      (Some (if is_lost d h then lost_memory d else d))
  told_buffer bytes size d told =
      let buffer = filled_buffer size in
      told_looked (is_lost d h) (is_some d.held) buffer_answer bytes buffer d (lost_goes (Some buffer))
      (beside_invalid (Some buffer)) (beside_buffer (put bytes buffer).0 (put bytes buffer).1) told

  told_reply : (ask : DupCall) (d : Memory) → o ≡ Some d → MayRemember k before (Some d)
      → MayRemember k (then_called before h o k call (reply ask d h).0) (Some (reply ask d h).1)
  told_reply asked.Acquire d is told =
      told_acquired (is_lost d h) (is_some d.held) (is_new d h) (frame h d.mark d.pointer_mark) d
      (ap (λ x. shape_behind x h) is) told
  told_reply asked.Release d is told = told_released (is_lost d h) d.held d refl told
  told_reply (asked.Moves size) d is told = told_buffer (bytes_of_moves (held_moves d.held)) size d told
  told_reply (asked.Dirty size) d is told = told_buffer (bytes_of_rects (held_dirt d.held)) size d told
  told_reply (asked.Shape size) d is told =
      let buffer = filled_buffer size in
      let bytes = shape_bytes (held_shape d.held) in
      let shape = held_shape_info d.held in
      told_looked (is_lost d h) (is_some d.held) (shape_answer shape) bytes buffer d (lost_goes (Some buffer))
      (beside_invalid (Some buffer)) (beside_shape shape (put bytes buffer).0 (put bytes buffer).1) told
  told_reply asked.Surface d is told =
      told_beside k before h o call (Some d) (reply asked.Surface d h).0
      (record { opens = refl; frame = refl; seen = refl }) told
  told_reply asked.Desc d is told =
      told_beside k before h o call (Some d) (reply asked.Desc d h).0
      (record { opens = refl; frame = refl; seen = refl }) told

  pub told_client : (ask : DupCall) (d : Option Memory) → o ≡ d → MayRemember k before d
      → MayRemember k (then_called before h o k call (client_reply ask d h).0) (client_reply ask d h).1
  told_client ask None is told =
      told_beside k before h o call None answers.NoDuplicator (record { opens = refl; frame = refl; seen = refl }) told
  told_client ask (Some d) is told = told_reply ask d is told
