-- Why a step is refused: each cause by itself, and for each call the causes in their order.
use Rattle.std.specs.Prelude.{ℕ, ◌+◌, ◌-◌, nat_lt, nat_le, Bool, true, false, ◌&&◌, ◌||◌, not, ◌==◌, if◌then◌else◌, List, [], ◌∷◌, length, drop, Option, Some, None, is_some, unwrap_or, slice_index}
use Rattle.std.specs.List.{list_any, list_all}
use Rattle.dd_meta.specs.Buffer.{bytes_of_moves, bytes_of_rects}
use Rattle.dd_modes.specs.declared.modes.Mode.{Mode}
use Rattle.dd_ops.specs.Operations.{first_unfit}
use Rattle.dd_log.specs.declared.events.Draw.{Draw}
use Rattle.dd_log.specs.declared.events.Draw.TheVariants as drawings
use Rattle.dd_calls.specs.declared.answers.Answer.{Answer}
use Rattle.dd_calls.specs.declared.answers.Answer.TheVariants.{Entered, NotDrawn, Opened, NotOpened, Closed, NotClosed, Frame, Released, Surface, Desc, Buffer, ShapeBuffer, Refused, NoDuplicator}
use Rattle.dd_log.specs.declared.refusal.LogRefusal.TheVariants as undrawn
use Rattle.dd_calls.specs.declared.answers.OpenRefusal.TheVariants as unopened
use Rattle.dd_calls.specs.declared.answers.CloseRefusal.TheVariants as unclosed
use Rattle.dd_calls.specs.declared.answers.DupRefusal.TheVariants.{AccessLost, InvalidCall, WaitTimeout, MoreData}
use Rattle.dd_log.specs.Desk.{is_app}
use Rattle.dd_log.specs.History.{History, desk, desk_mode, any_cuts_off, any_presents, any_points, any_ends}
use Rattle.dd_dup.specs.News.{held_moves, held_dirt, held_shape, shape_bytes}
use Rattle.dd_dup.specs.Reply.{Memory, filled_buffer}
use Rattle.dd_calls.specs.declared.steps.Step.{Step}
use Rattle.dd_calls.specs.declared.steps.Step.TheVariants as steps
use Rattle.dd_calls.specs.declared.steps.ClientCall.{ClientCall}
use Rattle.dd_calls.specs.declared.steps.ClientCall.TheVariants as calls
use Rattle.dd_trace.specs.Trace.{Moment}

-- ---- of the list

abbrev pub has_ended : History → Bool
has_ended h = any_ends h.entries

-- the last place is kept for the end
abbrev pub one_place_is_left : History → Bool
one_place_is_left h = nat_le h.spec.capacity (length h.entries + 1)

abbrev pub is_disconnected : History → Bool
is_disconnected h = not (desk h).connected

abbrev pub is_secure : History → Bool
is_secure h = (desk h).secure

abbrev pub is_privileged : History → ℕ → Bool
is_privileged h app = list_any (λ other. other == app) h.spec.privileged

-- the application has an open duplicator
abbrev pub has_one_open : History → ℕ → Bool
has_one_open h app = list_any (is_app app) (desk h).slots

-- each of the four slots is taken
abbrev pub four_are_open : History → Bool
four_are_open h = list_all is_some (desk h).slots

-- ---- of a drawing

abbrev pub names_no_mode : History → Draw → Bool
names_no_mode h (drawings.Mode index) = nat_le (length h.spec.modes) index
names_no_mode h _ = false

-- the first operation that doesn't lie inside a mode, or hasn't one colour for each point
abbrev pub first_misfit : Mode → Draw → Option ℕ
first_misfit mode (drawings.Present ops) = first_unfit mode.width mode.height ops
first_misfit mode _ = None

-- ---- of a duplicator

-- a change of the mode, a switch or a disconnection stands behind its opening
abbrev pub is_cut_off : Memory → History → Bool
is_cut_off d h = any_cuts_off (drop (d.opened + 1) h.entries)

abbrev pub holds_a_frame : Memory → Bool
holds_a_frame d = is_some d.held

-- no present since its picture mark, and nothing of the pointer since its pointer mark
abbrev pub nothing_is_new : Memory → History → Bool
nothing_is_new d h = not (any_presents (drop d.mark h.entries)) && not (any_points (drop d.pointer_mark h.entries))

-- ---- the causes of each call, in their order

-- whether a cause stands, and how it is answered
pub record Cause : Type 0 where
  pub stands : Bool
  pub answer : Answer

abbrev pub cause : Bool → Answer → Cause
cause stands answer = record { stands = stands; answer = answer }

-- the answer of the first cause that stands
abbrev pub first_of : List Cause → Option Answer
first_of [] = None
first_of (c ∷ cs) = if c.stands then Some c.answer else first_of cs

abbrev pub draw_causes : History → Draw → List Cause
draw_causes h d =
    cause (has_ended h) (NotDrawn undrawn.Ended)
    ∷ cause (one_place_is_left h) (NotDrawn undrawn.Full)
    ∷ cause (names_no_mode h d) (NotDrawn undrawn.BadMode)
    ∷ cause (is_some (first_misfit (desk_mode h) d))
    (NotDrawn (undrawn.BadRect (unwrap_or (first_misfit (desk_mode h) d) 0)))
    ∷ []

abbrev pub open_causes : History → ℕ → List Cause
open_causes h app =
    cause (is_disconnected h || has_ended h) (NotOpened unopened.SessionDisconnected)
    ∷ cause (is_secure h && not (is_privileged h app)) (NotOpened unopened.AccessDenied)
    ∷ cause (has_one_open h app) (NotOpened unopened.AlreadyDuplicating)
    ∷ cause (four_are_open h) (NotOpened unopened.NotAvailable)
    ∷ cause (one_place_is_left h) (NotOpened unopened.Full)
    ∷ []

abbrev pub close_causes : History → Option Memory → List Cause
close_causes h memory =
    cause (not (is_some memory)) (NotClosed unclosed.NoDuplicator)
    ∷ cause (has_ended h) (NotClosed unclosed.Ended)
    ∷ cause (one_place_is_left h) (NotClosed unclosed.Full)
    ∷ []

abbrev pub acquire_causes : History → Memory → List Cause
acquire_causes h d =
    cause (is_cut_off d h) (Refused AccessLost None)
    ∷ cause (holds_a_frame d) (Refused InvalidCall None)
    ∷ cause (nothing_is_new d h) (Refused WaitTimeout None)
    ∷ []

abbrev pub release_causes : History → Memory → List Cause
release_causes h d =
    cause (is_cut_off d h) (Refused AccessLost None)
    ∷ cause (not (holds_a_frame d)) (Refused InvalidCall None)
    ∷ []

-- of a buffer of some size, for these bytes of the frame; it comes back as it was filled
abbrev pub buffer_causes : History → Memory → ℕ → List ℕ → List Cause
buffer_causes h d size bytes =
    cause (is_cut_off d h) (Refused AccessLost (Some (filled_buffer size)))
    ∷ cause (not (holds_a_frame d)) (Refused InvalidCall (Some (filled_buffer size)))
    ∷ cause (nat_lt size (length bytes)) (Refused (MoreData (length bytes)) (Some (filled_buffer size)))
    ∷ []

-- of what a client asks its duplicator: the surface and the mode are refused to nobody
abbrev pub asking_causes : History → Memory → ClientCall → List Cause
asking_causes h d (calls.Acquire timeout) = acquire_causes h d
asking_causes h d calls.Release = release_causes h d
asking_causes h d (calls.Moves size) = buffer_causes h d size (bytes_of_moves (held_moves d.held))
asking_causes h d (calls.Dirty size) = buffer_causes h d size (bytes_of_rects (held_dirt d.held))
asking_causes h d (calls.Shape size) = buffer_causes h d size (shape_bytes (held_shape d.held))
asking_causes h d _ = []

-- and of a client that may have none
abbrev pub duplicator_causes : History → Option Memory → ClientCall → List Cause
duplicator_causes h None call = cause true NoDuplicator ∷ []
duplicator_causes h (Some d) call = asking_causes h d call

-- the causes of a client's call, whose application is this
abbrev pub call_causes : History → ℕ → Option Memory → ClientCall → List Cause
call_causes h app memory calls.Duplicate = open_causes h app
call_causes h app memory calls.Close = close_causes h memory
call_causes h app memory call = duplicator_causes h memory call

abbrev pub step_causes : List ℕ → History → Option Memory → Step → List Cause
step_causes apps h memory (steps.Draw d) = draw_causes h d
step_causes apps h memory (steps.Call k call) = call_causes h (slice_index apps (k - 1)) memory call

-- the causes of a step, where the clients have these applications
abbrev pub causes_of : List ℕ → Moment → List Cause
causes_of apps m = step_causes apps m.list m.memory m.step

-- what a step asks for, and not a refusal
abbrev pub is_granted : Step → Answer → Bool
is_granted (steps.Draw d) (Entered number) = true
is_granted (steps.Call k calls.Duplicate) (Opened number slot) = true
is_granted (steps.Call k calls.Close) (Closed number) = true
is_granted (steps.Call k (calls.Acquire timeout)) (Frame info moves dirt) = true
is_granted (steps.Call k calls.Release) Released = true
is_granted (steps.Call k (calls.Moves size)) (Buffer number bytes) = true
is_granted (steps.Call k (calls.Dirty size)) (Buffer number bytes) = true
is_granted (steps.Call k (calls.Shape size)) (ShapeBuffer number bytes shape) = true
is_granted (steps.Call k calls.Surface) (Surface rows) = true
is_granted (steps.Call k calls.Desc) (Desc mode) = true
is_granted t a = false
