-- What the frames of a client show.
use Rattle.std.specs.Prelude.{ℕ, ◌==◌, if◌then◌else◌, List, [], ◌∷◌, Option, Some, None, Result, Ok, Err}
use Rattle.std.specs.List.{cons_option}
use Rattle.dd_modes.specs.declared.modes.Mode.{Mode}
use Rattle.dd_calls.specs.declared.answers.DupRefusal.{DupRefusal}
use Rattle.dd_log.specs.History.{History, desk, last_shape}
use Rattle.dd_log.specs.Picture.{view}
use Rattle.dd_dup.specs.declared.frame.Frame.{Frame}
use Rattle.dd_dup.specs.Reply.{Memory, acquire_reply, desc_reply}
use Rattle.dd_calls.specs.declared.steps.Step.{Step}
use Rattle.dd_calls.specs.declared.steps.Step.TheVariants as steps
use Rattle.dd_calls.specs.declared.steps.ClientCall.{ClientCall}
use Rattle.dd_calls.specs.declared.steps.ClientCall.TheVariants as calls
use Rattle.dd_station.specs.Run.{State, next, memory_of}
use Rattle.dd_view.specs.Playing.{Shown, with_shape}

-- what is seen of the desk, with the desk's shape at the desk's pointer
abbrev pub desk_shown : History → Mode → Shown
desk_shown h mode = record { surface = with_shape (view h) (desk h).pointer (last_shape h.entries); mode = mode }

-- a frame that is granted shows the desk, in the mode at the duplicator's opening
abbrev pub frame_shown : Result Frame DupRefusal → Memory → History → Option Shown
frame_shown (Ok f) m h = Some (desk_shown h (desc_reply m h))
frame_shown (Err cause) m h = None

abbrev pub acquire_shown : Option Memory → History → Option Shown
acquire_shown None h = None
acquire_shown (Some m) h = frame_shown (acquire_reply m h) m h

-- what a client's call shows
abbrev pub call_shown : State → ℕ → ClientCall → Option Shown
call_shown s k calls.Duplicate = None
call_shown s k calls.Close = None
call_shown s k (calls.Acquire timeout) = acquire_shown (memory_of s k) s.history
call_shown s k calls.Release = None
call_shown s k (calls.Moves buffer) = None
call_shown s k (calls.Dirty buffer) = None
call_shown s k (calls.Shape buffer) = None
call_shown s k calls.Surface = None
call_shown s k calls.Desc = None

abbrev pub step_shown : ℕ → State → Step → Option Shown
step_shown c s (steps.Draw d) = None
step_shown c s (steps.Call k call) = if k == c then call_shown s k call else None

-- what each of client c's frames shows, in the steps' order
abbrev pub frames_shown : ℕ → State → List Step → List Shown
frames_shown c s [] = []
frames_shown c s (t ∷ ts) = cons_option (step_shown c s t) (frames_shown c (next s t).1 ts)
