-- The one list of an output's events: what it is begun with, its entries, and which lists are legal.
use Rattle.std.specs.Prelude.{ℕ, ◌+◌, ◌≤◌, ◌≡◌, nat_lt, nat_le, ◌==◌, Bool, true, false, ◌&&◌, not, if◌then◌else◌, List, [], ◌∷◌, ◌++◌, length, take, fold, slice_get, Option, Some, None, is_none, option_map, unwrap_or, Result, Ok, Err}
use Rattle.std.specs.List.{list_all, position_or_len}
use Rattle.dd_modes.specs.declared.modes.Mode.{Mode}
use Rattle.dd_ops.specs.declared.operations.Op.{Op}
use Rattle.dd_ops.specs.Operations.{first_unfit, all_fit}
use Rattle.dd_log.specs.declared.desk.Desk.{Desk}
use Rattle.dd_log.specs.declared.events.Spec.{Spec}
use Rattle.dd_log.specs.declared.events.Entry.{Entry}
use Rattle.dd_log.specs.declared.events.Event.{Event}
use Rattle.dd_log.specs.declared.events.Event.TheVariants.{Opened, Closed, End}
use Rattle.dd_log.specs.declared.events.Event.TheVariants as events
use Rattle.dd_log.specs.declared.events.Draw.{Draw}
use Rattle.dd_log.specs.declared.events.Draw.TheVariants.{Present, Switch, Disconnect, Reconnect}
use Rattle.dd_log.specs.declared.events.Draw.TheVariants as drawings
use Rattle.dd_log.specs.declared.events.TheConstants.{MAX_ACTORS}
use Rattle.dd_log.specs.declared.refusal.LogRefusal.{LogRefusal}
use Rattle.dd_log.specs.declared.refusal.LogRefusal.TheVariants.{Ended, Full, BadMode, BadRect}
use Rattle.dd_log.specs.Desk.{desk_of, finds_slot}
pub use Rattle.dd_log.specs.Events.{present_of, pointer_in, shape_in, is_present, is_pointing, begins_picture, cuts_off, is_opening, is_end, any_begins, any_cuts_off, any_presents, any_points, any_ends, last_present, last_pointed, last_shape}

pub record History : Type 0 where
  pub spec : Spec
  pub entries : List Entry

abbrev pub begun : Spec → History
begun spec = record { spec = spec; entries = [] }

-- one entry more
abbrev pub with_entry : History → Entry → History
with_entry h e = record { spec = h.spec; entries = h.entries ++ e ∷ [] }

-- the first n entries
abbrev pub first_entries : ℕ → History → History
first_entries n h = record { spec = h.spec; entries = take n h.entries }

-- the second begins with the first
pub record Begins (old new : History) : Type 0 where
  pub spec : new.spec ≡ old.spec
  pub within : length old.entries ≤ length new.entries
  pub entries : take (length old.entries) new.entries ≡ old.entries

-- the desk beside its picture
abbrev pub desk : History → Desk
desk h = desk_of h.spec.modes h.entries

-- the mode of the desk
abbrev pub desk_mode : History → Mode
desk_mode h = (desk h).mode

-- the entry at a place, where there is one, is an opening
abbrev pub opens_at : History → ℕ → Bool
opens_at h place = unwrap_or (option_map (λ e. is_opening e.event) (slice_get h.entries place)) false

-- the last step of an actor, 0 where it has none
abbrev pub last_step : List Entry → ℕ → ℕ
last_step es actor = fold (λ last e. if e.actor == actor then e.step else last) 0 es

-- the number of entries before the end
abbrev pub before_end : List Entry → ℕ
before_end es = position_or_len (λ e. is_end e.event) es

-- one place is kept for the list's end
abbrev pub is_full : History → Bool
is_full h = nat_le h.spec.capacity (length h.entries + 1)

-- the first operation that doesn't fit a surface of this size, as a cause
abbrev pub bad_rect : ℕ → ℕ → List Op → Option LogRefusal
bad_rect w h ops = option_map BadRect (first_unfit w h ops)

-- the cause of a drawing by itself, in a mode that is one of some modes
abbrev pub bad_draw : List Mode → Mode → Draw → Option LogRefusal
bad_draw modes mode (Present ops) = bad_rect mode.width mode.height ops
bad_draw modes mode (drawings.Pointer position visible) = None
bad_draw modes mode (drawings.Shape shape) = None
bad_draw modes mode (drawings.Mode index) = if nat_lt index (length modes) then None else Some BadMode
bad_draw modes mode (Switch secure) = None
bad_draw modes mode Disconnect = None
bad_draw modes mode Reconnect = None

-- and of an event
abbrev pub bad_event : List Mode → Mode → Event → Option LogRefusal
bad_event modes mode (events.Draw drawing) = bad_draw modes mode drawing
bad_event modes mode (Opened slot app) = None
bad_event modes mode (Closed slot) = None
bad_event modes mode End = None

-- why an event isn't appended, if it isn't; the end alone has the place that is kept
abbrev pub refusal : History → Event → Option LogRefusal
refusal h e =
    if (desk h).ended then Some Ended
    else (if is_full h && not (is_end e) then Some Full else bad_event h.spec.modes (desk_mode h) e)

-- and why a drawing isn't
abbrev pub allowed : History → Draw → Option LogRefusal
allowed h drawing = refusal h (events.Draw drawing)

-- the operations of a present fit a surface of this size, where there is a present
abbrev pub present_fits : ℕ → ℕ → Option (List Op) → Bool
present_fits w h None = true
present_fits w h (Some ops) = all_fit w h ops

-- an event draws only what fits
abbrev pub event_fits : ℕ → ℕ → Event → Bool
event_fits w h e = present_fits w h (present_of e)

unfoldable pub entries_fit : ℕ → ℕ → List Entry → Bool
entries_fit w h es = list_all (λ e. event_fits w h e.event) es

-- the answer to an entry that a cause may refuse
abbrev pub verdict : Option LogRefusal → Result (Unit {0}) LogRefusal
verdict None = Ok tt
verdict (Some cause) = Err cause

-- the list with this entry more is legal where the list is
unfoldable pub may_add : History → Entry → Bool
may_add h e =
    nat_lt e.actor MAX_ACTORS && nat_lt (last_step h.entries e.actor) e.step && is_none (refusal h e.event)
    && finds_slot (desk h).slots e.event

abbrev pub legal_after : Spec → List Entry → List Entry → Bool
legal_after spec before [] = true
legal_after spec before (e ∷ es) =
    may_add (record { spec = spec; entries = before }) e && legal_after spec (before ++ e ∷ []) es

-- each entry was one that the list before it may have
unfoldable pub legal : History → Bool
legal h = legal_after h.spec [] h.entries

-- the end of a list by an actor's step, and that of an actor's step
abbrev pub end_of : ℕ → ℕ → Entry
end_of actor step = record { actor = actor; step = step; event = End }

-- the list with its end; an ended list has it
abbrev pub ended_by : History → ℕ → ℕ → History
ended_by h actor step = if (desk h).ended then h else with_entry h (end_of actor step)

-- a beginning of a legal list is legal
abbrev pub BeginningIsLegal : Type 0
BeginningIsLegal = (h : History) (n : ℕ) → legal h ≡ true → legal (first_entries n h) ≡ true

-- a list with one entry more is legal exactly where the list is, and may have the entry
abbrev pub LegalByEntries : Type 0
LegalByEntries = (h : History) (e : Entry) → legal (with_entry h e) ≡ (legal h && may_add h e)

-- a list has ended where the end is among its entries, and nothing follows the end of a legal list
abbrev pub EndIsLast : Type 0
EndIsLast =
    (h : History)
    → ((desk h).ended ≡ any_ends h.entries)
    × (legal h ≡ true → length h.entries ≡ (if (desk h).ended then before_end h.entries + 1 else before_end h.entries))

-- each entry but the end is one more before the end
abbrev pub BeforeEndCounts : Type 0
BeforeEndCounts =
    (h : History) (e : Entry) → legal (with_entry h e) ≡ true
    → before_end (with_entry h e).entries ≡ (if is_end e.event then before_end h.entries else before_end h.entries + 1)

-- a legal list has at most as many entries as its capacity says, and a place is left until it has ended
abbrev pub LegalHasRoom : Type 0
LegalHasRoom =
    (h : History) → legal h ≡ true → 1 ≤ h.spec.capacity
    → (length h.entries ≤ h.spec.capacity) × ((desk h).ended ≡ false → length h.entries + 1 ≤ h.spec.capacity)
