-- What an event is: whether it draws, moves the pointer, opens, ends, or begins a picture.
use Rattle.std.specs.Prelude.{ℕ, ◌+◌, Bool, true, false, ◌||◌, if◌then◌else◌, List, [], ◌∷◌, fold, Option, Some, None, is_some}
use Rattle.std.specs.List.{list_any}
use Rattle.std.specs.Option.{option_or}
use Rattle.dd_ops.specs.declared.operations.Op.{Op}
use Rattle.dd_pointer.specs.Shape.{PointerShape}
use Rattle.dd_log.specs.declared.pointer.Pointer.{Pointer}
use Rattle.dd_log.specs.declared.events.Entry.{Entry}
use Rattle.dd_log.specs.declared.events.Event.{Event}
use Rattle.dd_log.specs.declared.events.Event.TheVariants.{Opened, Closed, End}
use Rattle.dd_log.specs.declared.events.Event.TheVariants as events
use Rattle.dd_log.specs.declared.events.Draw.{Draw}
use Rattle.dd_log.specs.declared.events.Draw.TheVariants.{Present, Switch, Disconnect, Reconnect}
use Rattle.dd_log.specs.declared.events.Draw.TheVariants as drawings

-- What a drawing does: the operations of a present, the pointer or the shape that it sets, whether it begins a black
-- picture, and whether duplicators that were opened before it are lost.
pub record Parts : Type 0 where
  pub operations : Option (List Op)
  pub pointer : Option Pointer
  pub shape : Option PointerShape
  pub begins : Bool
  pub loses : Bool

-- of a drawing that sets nothing
abbrev pub sets_nothing : Bool → Bool → Parts
sets_nothing begins loses =
    record { operations = None; pointer = None; shape = None; begins = begins; loses = loses }

-- a change of the mode or of the desktop begins a black picture; duplicators are lost by these and by a disconnect
abbrev pub parts : Draw → Parts
parts (Present ops) = record (sets_nothing false false) { operations = Some ops }
parts (drawings.Pointer position visible) =
    record (sets_nothing false false) { pointer = Some (record { position = position; visible = visible }) }
parts (drawings.Shape shape) = record (sets_nothing false false) { shape = Some shape }
parts (drawings.Mode index) = sets_nothing true true
parts (Switch secure) = sets_nothing true true
parts Disconnect = sets_nothing false true
parts Reconnect = sets_nothing false false

abbrev pub operations_of : Draw → Option (List Op)
operations_of d = (parts d).operations

abbrev pub pointer_given : Draw → Option Pointer
pointer_given d = (parts d).pointer

abbrev pub shape_given : Draw → Option PointerShape
shape_given d = (parts d).shape

abbrev pub draws_anew : Draw → Bool
draws_anew d = (parts d).begins

abbrev pub loses : Draw → Bool
loses d = (parts d).loses

-- and what an event does, which is no more than its drawing does
abbrev pub drawn_parts : Event → Parts
drawn_parts (events.Draw drawing) = parts drawing
drawn_parts (Opened slot app) = sets_nothing false false
drawn_parts (Closed slot) = sets_nothing false false
drawn_parts End = sets_nothing false false

abbrev pub present_of : Event → Option (List Op)
present_of e = (drawn_parts e).operations

abbrev pub pointer_in : Event → Option Pointer
pointer_in e = (drawn_parts e).pointer

abbrev pub shape_in : Event → Option PointerShape
shape_in e = (drawn_parts e).shape

-- and an entry, where there is one
abbrev pub shape_at : Option Entry → Option PointerShape
shape_at None = None
shape_at (Some e) = shape_in e.event

abbrev pub begins_picture : Event → Bool
begins_picture e = (drawn_parts e).begins

abbrev pub cuts_off : Event → Bool
cuts_off e = (drawn_parts e).loses

-- a duplicator is opened
abbrev pub is_opening : Event → Bool
is_opening (events.Draw drawing) = false
is_opening (Opened slot app) = true
is_opening (Closed slot) = false
is_opening End = false

-- nothing follows
abbrev pub is_end : Event → Bool
is_end (events.Draw drawing) = false
is_end (Opened slot app) = false
is_end (Closed slot) = false
is_end End = true

abbrev pub is_present : Event → Bool
is_present e = is_some (present_of e)

-- the pointer is set, or gets a shape
abbrev pub has_shape : Event → Bool
has_shape e = is_some (shape_in e)

abbrev pub is_pointing : Event → Bool
is_pointing e = is_some (pointer_in e) || has_shape e

-- among some entries, one begins a picture, loses duplicators, is a present, sets the pointer or its shape, or is the
-- end
abbrev pub any_begins : List Entry → Bool
any_begins es = list_any (λ e. begins_picture e.event) es

abbrev pub any_cuts_off : List Entry → Bool
any_cuts_off es = list_any (λ e. cuts_off e.event) es

abbrev pub any_presents : List Entry → Bool
any_presents es = list_any (λ e. is_present e.event) es

abbrev pub any_points : List Entry → Bool
any_points es = list_any (λ e. is_pointing e.event) es

abbrev pub any_ends : List Entry → Bool
any_ends es = list_any (λ e. is_end e.event) es

-- the event number, from 1, of the last entry of a kind, where the first of some entries stands at a place; or else
-- `last`
abbrev pub number_from : (Event → Bool) → ℕ → ℕ → List Entry → ℕ
number_from is last place [] = last
number_from is last place (e ∷ es) = number_from is (if is e.event then place + 1 else last) (place + 1) es

-- that of the last present, and of the last that sets the pointer or its shape; 0 where there is none
abbrev pub last_present : ℕ → List Entry → ℕ
last_present place es = number_from is_present 0 place es

abbrev pub last_pointed : ℕ → List Entry → ℕ
last_pointed place es = number_from is_pointing 0 place es

-- the last shape that some entries give the pointer, where there is one
abbrev pub last_shape : List Entry → Option PointerShape
last_shape es = fold (λ shape e. option_or (shape_in e.event) shape) None es
