-- What a duplicator answers enters nothing.
use Rattle.std.proofs.Common.{◌≡◌, ℕ, false, List, Option, Some, None, Result, Ok, Err, refl}
use Rattle.dd_pointer.specs.declared.shape.ShapeInfo.{ShapeInfo}
use Rattle.dd_calls.specs.declared.answers.Answer.{Answer}
use Rattle.dd_calls.specs.declared.answers.Answer.TheVariants as answers
use Rattle.dd_calls.specs.declared.answers.DupRefusal.{DupRefusal}
use Rattle.dd_log.specs.History.{History}
use Rattle.dd_calls.specs.declared.dup_call.DupCall.{DupCall}
use Rattle.dd_calls.specs.declared.dup_call.DupCall.TheVariants as asked
use Rattle.dd_dup.specs.declared.frame.Frame.{Frame}
use Rattle.dd_dup.specs.Reply.{Memory, acquire_reply, acquire_answer, release_reply, release_answer, buffer_answer, shape_answer, moves_reply, dirty_reply, shape_reply, filled_buffer, held_shape_info, reply}
use Rattle.dd_calls.specs.declared.steps.Step.TheVariants as steps
use Rattle.dd_calls.specs.declared.steps.ClientCall.{ClientCall}
use Rattle.dd_station.specs.Run.{client_reply}
use Rattle.dd_trace.specs.Trace.{Moment}
use Rattle.dd_calls.specs.Parts.{number_in}
use Rattle.dd_trace.specs.Entered.{event_told}
use Rattle.dd_trace.specs.Headline.{SlotShows}
use Rattle.dd_trace.proofs.LookingBack.{opens_or_closes}

-- an answer to a call that names no event number and no slot, and tells of no opening or closing
pub record IsQuiet (a : Answer) : Type 0 where
  pub opens : opens_or_closes a ≡ false
  pub number : number_in a ≡ None
  pub event :
      (apps : List ℕ) (before : List Moment) (k : ℕ) (call : ClientCall)
      → event_told apps before (steps.Call k call) a ≡ None
  pub slot : (h : History) → SlotShows h a

refused : (why : DupRefusal) (buffer : Option (List ℕ)) → IsQuiet (answers.Refused why buffer)
refused why buffer = record { opens = refl; number = refl; event = λ apps before k call. refl; slot = λ h. tt }

acquired : (r : Result Frame DupRefusal) → IsQuiet (acquire_answer r)
acquired (Ok f) = record { opens = refl; number = refl; event = λ apps before k call. refl; slot = λ h. tt }
acquired (Err why) = refused why None

released : (r : Result (Unit {0}) DupRefusal) → IsQuiet (release_answer r)
released (Ok x) = record { opens = refl; number = refl; event = λ apps before k call. refl; slot = λ h. tt }
released (Err why) = refused why None

put_in : (r : Result ℕ DupRefusal) (buffer : List ℕ) → IsQuiet (buffer_answer r buffer)
put_in (Ok size) buffer = record { opens = refl; number = refl; event = λ apps before k call. refl; slot = λ h. tt }
put_in (Err why) buffer = refused why (Some buffer)

shaped : (shape : Option ShapeInfo) (r : Result ℕ DupRefusal) (buffer : List ℕ)
    → IsQuiet (shape_answer shape r buffer)
shaped shape (Ok size) buffer = record { opens = refl; number = refl; event = λ apps before k call. refl; slot = λ h. tt }
shaped shape (Err why) buffer = refused why (Some buffer)

replied : (ask : DupCall) (m : Memory) (h : History) → IsQuiet (reply ask m h).0
replied asked.Acquire m h = acquired (acquire_reply m h)
replied asked.Release m h = released (release_reply m h)
replied (asked.Moves size) m h =
    let r = moves_reply m h (filled_buffer size) in
    put_in r.0 r.1
replied (asked.Dirty size) m h =
    let r = dirty_reply m h (filled_buffer size) in
    put_in r.0 r.1
replied (asked.Shape size) m h =
    let r = shape_reply m h (filled_buffer size) in
    shaped (held_shape_info m.held) r.0 r.1
replied asked.Surface m h = record { opens = refl; number = refl; event = λ apps before k call. refl; slot = λ h. tt }
replied asked.Desc m h = record { opens = refl; number = refl; event = λ apps before k call. refl; slot = λ h. tt }

pub client_quiet : (ask : DupCall) (o : Option Memory) (h : History) → IsQuiet (client_reply ask o h).0
client_quiet ask None h = record { opens = refl; number = refl; event = λ apps before k call. refl; slot = λ h. tt }
client_quiet ask (Some m) h = replied ask m h
