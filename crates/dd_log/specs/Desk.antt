-- The desk beside its picture: what the entries of a list make of it.
use Rattle.std.specs.Prelude.{ℕ, ◌+◌, pos, Bool, true, false, ◌&&◌, ◌||◌, not, ◌==◌, if◌then◌else◌, List, fold, replicate, slice_get, slice_set, Option, Some, None, unwrap_or}
use Rattle.std.specs.List.{list_any}
use Rattle.dd_modes.specs.declared.modes.Mode.{Mode}
use Rattle.dd_modes.specs.Modes.{first_mode}
use Rattle.dd_log.specs.declared.pointer.Pointer.{Pointer}
use Rattle.dd_log.specs.declared.desk.Desk.{Desk}
use Rattle.dd_log.specs.declared.desk.TheConstants.{MAX_DUPLICATORS}
use Rattle.dd_log.specs.declared.events.TheConstants.{MAX_ACTORS}
use Rattle.dd_log.specs.declared.events.Entry.{Entry}
use Rattle.dd_log.specs.declared.events.Event.{Event}
use Rattle.dd_log.specs.declared.events.Event.TheVariants.{Opened, Closed, End}
use Rattle.dd_log.specs.declared.events.Event.TheVariants as events
use Rattle.dd_log.specs.declared.events.Draw.{Draw}
use Rattle.dd_log.specs.declared.events.Draw.TheVariants.{Present, Switch, Disconnect, Reconnect}
use Rattle.dd_log.specs.declared.events.Draw.TheVariants as drawings
use Rattle.dd_log.specs.Events.{pointer_in, begins_picture, cuts_off, is_present, has_shape, is_pointing, is_end}

-- the pointer that nothing has set: not visible, at the surface's top left corner
abbrev pub unset : Pointer
unset = record { position = record { x = pos 0; y = pos 0 }; visible = false }

-- of an empty list, in the first of some modes
unfoldable pub first_desk : List Mode → Desk
first_desk modes =
    record {
      len = 0;
      mode = first_mode modes;
      secure = false;
      connected = true;
      ended = false;
      picture_start = 0;
      cut_off = 0;
      presented = 0;
      pointed = 0;
      shaped = 0;
      pointer = unset;
      slots = replicate MAX_DUPLICATORS None;
      steps = replicate MAX_ACTORS 0;
    }

-- the mode, one of some modes, after a drawing
abbrev pub mode_drawn : List Mode → Mode → Draw → Mode
mode_drawn modes old (Present ops) = old
mode_drawn modes old (drawings.Pointer position visible) = old
mode_drawn modes old (drawings.Shape shape) = old
mode_drawn modes old (drawings.Mode index) = unwrap_or (slice_get modes index) old
mode_drawn modes old (Switch secure) = old
mode_drawn modes old Disconnect = old
mode_drawn modes old Reconnect = old

-- and after an event
abbrev pub mode_after : List Mode → Mode → Event → Mode
mode_after modes old (events.Draw drawing) = mode_drawn modes old drawing
mode_after modes old (Opened slot app) = old
mode_after modes old (Closed slot) = old
mode_after modes old End = old

-- whether the desktop is secure, after a drawing
abbrev pub secure_drawn : Bool → Draw → Bool
secure_drawn old (Present ops) = old
secure_drawn old (drawings.Pointer position visible) = old
secure_drawn old (drawings.Shape shape) = old
secure_drawn old (drawings.Mode index) = old
secure_drawn old (Switch secure) = secure
secure_drawn old Disconnect = old
secure_drawn old Reconnect = old

abbrev pub secure_after : Bool → Event → Bool
secure_after old (events.Draw drawing) = secure_drawn old drawing
secure_after old (Opened slot app) = old
secure_after old (Closed slot) = old
secure_after old End = old

-- whether the session is connected, after a drawing
abbrev pub connected_drawn : Bool → Draw → Bool
connected_drawn old (Present ops) = old
connected_drawn old (drawings.Pointer position visible) = old
connected_drawn old (drawings.Shape shape) = old
connected_drawn old (drawings.Mode index) = old
connected_drawn old (Switch secure) = old
connected_drawn old Disconnect = false
connected_drawn old Reconnect = true

abbrev pub connected_after : Bool → Event → Bool
connected_after old (events.Draw drawing) = connected_drawn old drawing
connected_after old (Opened slot app) = old
connected_after old (Closed slot) = old
connected_after old End = old

-- the pointer after an event
abbrev pub pointer_after : Pointer → Event → Pointer
pointer_after old e = unwrap_or (pointer_in e) old

-- an opening takes its slot for its application, and a closing frees it
abbrev pub slots_after : List (Option ℕ) → Event → List (Option ℕ)
slots_after slots (events.Draw drawing) = slots
slots_after slots (Opened slot app) = slice_set slots slot (Some app)
slots_after slots (Closed slot) = slice_set slots slot None
slots_after slots End = slots

-- the place after the last entry of a kind: the entry that follows so many others is of it, or it isn't
abbrev pub place_after : Bool → ℕ → ℕ → ℕ
place_after here len old = if here then len + 1 else old

-- after one entry more
unfoldable pub desk_after : List Mode → Desk → Entry → Desk
desk_after modes d e =
    record {
      len = d.len + 1;
      mode = mode_after modes d.mode e.event;
      secure = secure_after d.secure e.event;
      connected = connected_after d.connected e.event;
      ended = d.ended || is_end e.event;
      picture_start = place_after (begins_picture e.event) d.len d.picture_start;
      cut_off = place_after (cuts_off e.event) d.len d.cut_off;
      presented = place_after (is_present e.event) d.len d.presented;
      pointed = place_after (is_pointing e.event) d.len d.pointed;
      shaped = place_after (has_shape e.event) d.len d.shaped;
      pointer = pointer_after d.pointer e.event;
      slots = slots_after d.slots e.event;
      steps = slice_set d.steps e.actor e.step;
    }

-- after some entries
unfoldable pub desk_of : List Mode → List Entry → Desk
desk_of modes es = fold (desk_after modes) (first_desk modes) es

-- the slot is the application's
abbrev pub is_app : ℕ → Option ℕ → Bool
is_app app None = false
is_app app (Some other) = other == app

-- a slot that is free, and one that isn't
abbrev pub is_free : Option (Option ℕ) → Bool
is_free (Some None) = true
is_free (Some (Some app)) = false
is_free None = false

abbrev pub is_taken : Option (Option ℕ) → Bool
is_taken (Some None) = false
is_taken (Some (Some app)) = true
is_taken None = false

-- an opening names a free slot, and an application without one; a closing names an open slot
abbrev pub finds_slot : List (Option ℕ) → Event → Bool
finds_slot slots (events.Draw drawing) = true
finds_slot slots (Opened slot app) = is_free (slice_get slots slot) && not (list_any (is_app app) slots)
finds_slot slots (Closed slot) = is_taken (slice_get slots slot)
finds_slot slots End = true
