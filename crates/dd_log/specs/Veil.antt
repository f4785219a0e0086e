-- The veil of a list: its entries, with black in place of each colour that a cover hides.
use Rattle.std.specs.Prelude.{◌≡◌, Bool, true, List, map, Option, Some, None}
use Rattle.std.specs.List.{list_all}
use Rattle.dd_grid.specs.Drawing.{hidden_points}
use Rattle.dd_ops.specs.declared.operations.Op.{Op}
use Rattle.dd_ops.specs.Veil.{veiled, covers_coloured}
use Rattle.dd_log.specs.declared.events.Entry.{Entry}
use Rattle.dd_log.specs.declared.events.Event.{Event}
use Rattle.dd_log.specs.declared.events.Event.TheVariants.{Opened, Closed, End}
use Rattle.dd_log.specs.declared.events.Event.TheVariants as events
use Rattle.dd_log.specs.declared.events.Draw.{Draw}
use Rattle.dd_log.specs.declared.events.Draw.TheVariants.{Present, Switch, Disconnect, Reconnect}
use Rattle.dd_log.specs.declared.events.Draw.TheVariants as drawings
use Rattle.dd_log.specs.Events.{present_of}
use Rattle.dd_log.specs.History.{History, desk, refusal, legal}
use Rattle.dd_log.specs.Picture.{picture, presents, view}

-- a present of veiled operations; any other drawing as it is
abbrev pub veiled_drawing : Draw → Draw
veiled_drawing (Present ops) = Present (veiled ops)
veiled_drawing (drawings.Pointer position visible) = drawings.Pointer position visible
veiled_drawing (drawings.Shape shape) = drawings.Shape shape
veiled_drawing (drawings.Mode index) = drawings.Mode index
veiled_drawing (Switch secure) = Switch secure
veiled_drawing Disconnect = Disconnect
veiled_drawing Reconnect = Reconnect

-- and any other event
abbrev pub veiled_event : Event → Event
veiled_event (events.Draw drawing) = events.Draw (veiled_drawing drawing)
veiled_event (Opened slot app) = Opened slot app
veiled_event (Closed slot) = Closed slot
veiled_event End = End

-- the same step of the same actor
abbrev pub veiled_entry : Entry → Entry
veiled_entry e = record { actor = e.actor; step = e.step; event = veiled_event e.event }

-- the same list with its covers' colours black
abbrev pub veil : History → History
veil h = record { spec = h.spec; entries = map veiled_entry h.entries }

-- what the covers of a present hide are colours, where there is a present
abbrev pub present_coloured : Option (List Op) → Bool
present_coloured None = true
present_coloured (Some ops) = covers_coloured ops

-- what the covers of an event hide are colours
abbrev pub event_coloured : Event → Bool
event_coloured e = present_coloured (present_of e)

-- and those of some entries
abbrev pub entries_coloured : List Entry → Bool
entries_coloured es = list_all (λ e. event_coloured e.event) es

-- a list and its veil have the same desk, show the same and hide the same points, and the veil's presents are those of
-- the list, veiled
pub record VeilShows (h : History) : Type 0 where
  pub same_desk : desk (veil h) ≡ desk h
  pub same_view : view (veil h) ≡ view h
  pub same_hidden : hidden_points (picture (veil h)) ≡ hidden_points (picture h)
  pub same_presents : presents (veil h).entries ≡ map veiled (presents h.entries)

-- where an event's covers hide colours, the veil refuses the event veiled as the list refuses the event
abbrev pub VeilRefuses : Type 0
VeilRefuses = (h : History) (e : Event) → event_coloured e ≡ true → refusal (veil h) (veiled_event e) ≡ refusal h e

-- the veil of a legal list is legal; and where all covers hide colours, that of no other list is
pub record VeilIsLegal (h : History) : Type 0 where
  pub legal_veil : legal h ≡ true → legal (veil h) ≡ true
  pub same_legal : entries_coloured h.entries ≡ true → legal (veil h) ≡ legal h
