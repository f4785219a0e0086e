-- Small lists: which are legal, why an event is refused, and what their desks are and show.
use Rattle.std.proofs.Common.{◌≡◌, ℕ, true, false, pos, List, [], ◌∷◌, take, drop, Some, None, refl}
use Rattle.dd_geom.specs.declared.rect.Rect.{Rect}
use Rattle.dd_geom.specs.Grid.{rows}
use Rattle.dd_modes.specs.declared.modes.Rotation.TheVariants.{Identity}
use Rattle.dd_ops.specs.declared.operations.Op.TheVariants.{Fill, Cover}
use Rattle.dd_pointer.specs.declared.kind.Kind.TheVariants.{Monochrome}
use Rattle.dd_pointer.specs.Shape.{PointerShape}
use Rattle.dd_log.specs.declared.refusal.LogRefusal.TheVariants.{Ended, Full, BadMode, BadRect}
use Rattle.dd_log.specs.declared.events.Spec.{Spec}
use Rattle.dd_log.specs.declared.events.Entry.{Entry}
use Rattle.dd_log.specs.declared.events.Event.{Event}
use Rattle.dd_log.specs.declared.events.Event.TheVariants.{Opened, Closed, End}
use Rattle.dd_log.specs.declared.events.Event.TheVariants as events
use Rattle.dd_log.specs.declared.events.Draw.{Draw}
use Rattle.dd_log.specs.declared.events.Draw.TheVariants.{Present, Switch, Disconnect, Reconnect}
use Rattle.dd_log.specs.declared.events.Draw.TheVariants as drawings
use Rattle.dd_log.specs.declared.events.TheConstants.{MAX_ACTORS, MAX_CAPACITY, MAX_PRIVILEGED}
use Rattle.dd_log.specs.declared.desk.TheConstants.{MAX_DUPLICATORS}
use Rattle.dd_log.specs.Desk.{desk_of, desk_after, first_desk}
use Rattle.dd_log.specs.History.{History, begun, desk, allowed, refusal, legal, may_add, opens_at, before_end, any_points, last_present, last_pointed, last_shape}
use Rattle.dd_log.specs.Picture.{state_of, picture, view, presents}
use Rattle.dd_log.specs.Veil.{veil, entries_coloured}

abbrev rect : ℕ → ℕ → ℕ → ℕ → Rect
rect l t r b = record { left = pos l; top = pos t; right = pos r; bottom = pos b }

abbrev spec : Spec
spec = record { modes = record { width = 4; height = 3; rotation = Identity } ∷ []; capacity = 3; privileged = [] }

abbrev entry : ℕ → ℕ → Event → Entry
entry actor step event = record { actor = actor; step = step; event = event }

-- an application is given the first slot
abbrev opening : Entry
opening = entry 1 1 (Opened 0 7)

-- a red rectangle is drawn
abbrev drawing : Entry
drawing = entry 2 1 (events.Draw (Present (Fill (rect 1 1 3 2) 16711680 ∷ [])))

abbrev lists : List Entry → History
lists es = record { spec = spec; entries = es }

two_entries : legal (lists (opening ∷ drawing ∷ [])) ≡ true
unfolding legal may_add desk_of desk_after first_desk
two_entries = refl

-- the third place is kept for the end
no_third : legal (lists (opening ∷ drawing ∷ entry 2 2 (events.Draw (Present [])) ∷ [])) ≡ false
unfolding legal may_add desk_of desk_after first_desk
no_third = refl

-- an actor's steps rise
same_step : legal (lists (drawing ∷ drawing ∷ [])) ≡ false
unfolding legal may_add desk_of desk_after first_desk
same_step = refl

-- an application has one slot, and a slot one application
second_slot : legal (lists (opening ∷ entry 1 2 (Opened 1 7) ∷ [])) ≡ false
unfolding legal may_add desk_of desk_after first_desk
second_slot = refl

taken_slot : legal (lists (opening ∷ entry 1 2 (Opened 0 8) ∷ [])) ≡ false
unfolding legal may_add desk_of desk_after first_desk
taken_slot = refl

slots_then : (desk (lists (opening ∷ drawing ∷ []))).slots ≡ Some 7 ∷ None ∷ None ∷ None ∷ []
unfolding desk_of desk_after first_desk
slots_then = refl

-- a full list says so first, whatever is drawn
full : allowed (lists (opening ∷ drawing ∷ [])) (Present (Fill (rect 3 0 5 1) 7 ∷ [])) ≡ Some Full
unfolding desk_of desk_after first_desk
full = refl

full_for_openings : refusal (lists (opening ∷ drawing ∷ [])) (Opened 1 8) ≡ Some Full
unfolding desk_of desk_after first_desk
full_for_openings = refl

-- one column past the right side
outside : allowed (begun spec) (Present (Fill (rect 3 0 5 1) 7 ∷ [])) ≡ Some (BadRect 0)
unfolding desk_of desk_after first_desk
outside = refl

second_outside : allowed (begun spec) (Present (Fill (rect 1 1 3 2) 7 ∷ Fill (rect 3 0 5 1) 7 ∷ Fill (rect 3 0 5 1) 7 ∷ [])) ≡ Some (BadRect 1)
unfolding desk_of desk_after first_desk
second_outside = refl

nothing_drawn : allowed (begun spec) (Present []) ≡ None
unfolding desk_of desk_after first_desk
nothing_drawn = refl

-- what is seen of the desk
seen_rows : rows (view (lists (opening ∷ drawing ∷ []))) ≡ (0 ∷ 0 ∷ 0 ∷ 0 ∷ []) ∷ (0 ∷ 16711680 ∷ 16711680 ∷ 0 ∷ []) ∷ (0 ∷ 0 ∷ 0 ∷ 0 ∷ []) ∷ []
unfolding picture state_of desk_after first_desk
seen_rows = refl

drawn_presents : presents (opening ∷ drawing ∷ []) ≡ (Fill (rect 1 1 3 2) 16711680 ∷ []) ∷ []
unfolding presents
drawn_presents = refl

-- the first entry opens a duplicator, the second doesn't, and there is no third
opens_first : opens_at (lists (opening ∷ drawing ∷ [])) 0 ≡ true
opens_first = refl

opens_no_drawing : opens_at (lists (opening ∷ drawing ∷ [])) 1 ≡ false
opens_no_drawing = refl

opens_no_third : opens_at (lists (opening ∷ drawing ∷ [])) 2 ≡ false
opens_no_third = refl

-- two modes, and four places
abbrev two_modes : List Entry → History
two_modes es =
    record {
      spec = record {
        modes = record { width = 4; height = 3; rotation = Identity }
            ∷ record { width = 2; height = 1; rotation = Identity }
            ∷ [];
        capacity = 4;
        privileged = [];
      };
      entries = es;
    }

abbrev draws : ℕ → Draw → Entry
draws step drawing = entry 2 step (events.Draw drawing)

-- a mode change begins a black picture of the new size
new_mode : rows (view (two_modes (drawing ∷ draws 2 (drawings.Mode 1) ∷ []))) ≡ (0 ∷ 0 ∷ []) ∷ []
unfolding picture state_of desk_after first_desk
new_mode = refl

-- and a switch one of the old size, on which the next present draws
drawn_again : rows (view (two_modes (draws 1 (drawings.Mode 1) ∷ draws 2 (Switch true) ∷ draws 3 (Present (Fill (rect 1 0 2 1) 7 ∷ [])) ∷ []))) ≡ (0 ∷ 7 ∷ []) ∷ []
unfolding picture state_of desk_after first_desk
drawn_again = refl

-- a mode change keeps the secure desktop, and a switch to another leaves it
still_secure : (desk (two_modes (draws 1 (Switch true) ∷ draws 2 (drawings.Mode 0) ∷ []))).secure ≡ true
unfolding desk_of desk_after first_desk
still_secure = refl

left_secure : (desk (two_modes (draws 1 (Switch true) ∷ draws 2 (Switch false) ∷ []))).secure ≡ false
unfolding desk_of desk_after first_desk
left_secure = refl

connected_again : (desk (two_modes (draws 1 Disconnect ∷ draws 2 Reconnect ∷ []))).connected ≡ true
unfolding desk_of desk_after first_desk
connected_again = refl

-- a disconnect loses duplicators and begins no picture; a reconnect does neither
places_then : (desk (two_modes (draws 1 (Switch true) ∷ draws 2 Disconnect ∷ draws 3 Reconnect ∷ []))).picture_start ≡ 1
unfolding desk_of desk_after first_desk
places_then = refl

cut_off_then : (desk (two_modes (draws 1 (Switch true) ∷ draws 2 Disconnect ∷ draws 3 Reconnect ∷ []))).cut_off ≡ 2
unfolding desk_of desk_after first_desk
cut_off_then = refl

-- a pointer, a shape of one column, one of two columns, and a present
abbrev columns : ℕ → PointerShape
columns width =
    record { kind = Monochrome; width = width; height = 2; hot = record { x = pos 0; y = pos 0 }; bytes = 0 ∷ 0 ∷ [] }

abbrev pointing : List Entry
pointing =
    draws 1 (drawings.Pointer (record { x = pos 1; y = pos 2 }) true)
    ∷ draws 2 (drawings.Shape (columns 1)) ∷ draws 3 (drawings.Shape (columns 2)) ∷ draws 4 (Present []) ∷ []

-- of each kind the last is told, from the front, from the last shape on, and from past the end
last_presents : (last_present 0 pointing ≡ 4) × (last_present 2 (drop 2 pointing) ≡ 4) × (last_present 4 [] ≡ 0)
last_presents = (refl, refl, refl)

last_pointing : (last_pointed 0 pointing ≡ 3) × (last_pointed 2 (drop 2 pointing) ≡ 3) × (last_pointed 4 [] ≡ 0)
last_pointing = (refl, refl, refl)

last_shapes :
    (last_shape pointing ≡ Some (columns 2)) × (last_shape (drop 2 pointing) ≡ Some (columns 2))
    × (last_shape [] ≡ None)
last_shapes = (refl, refl, refl)

-- a shape alone is news of the pointer, and a present isn't
shape_points : (any_points (drop 2 pointing) ≡ true) × (any_points (drop 3 pointing) ≡ false)
shape_points = (refl, refl)

-- a shape leaves the pointer where it is, and shown
pointer_then : (desk (two_modes (take 3 pointing))).pointer
    ≡ record { position = record { x = pos 1; y = pos 2 }; visible = true }
unfolding desk_of desk_after first_desk
pointer_then = refl

-- a closing frees its slot, and the application may open again
closed_slot : legal (two_modes (opening ∷ entry 1 2 (Closed 0) ∷ entry 1 3 (Opened 0 7) ∷ [])) ≡ true
unfolding legal may_add desk_of desk_after first_desk
closed_slot = refl

no_closing : legal (two_modes (entry 1 1 (Closed 0) ∷ [])) ≡ false
unfolding legal may_add desk_of desk_after first_desk
no_closing = refl

-- the end has the kept place, and nothing follows it
ended_full : legal (two_modes (opening ∷ drawing ∷ draws 2 (Present []) ∷ entry 3 1 End ∷ [])) ≡ true
unfolding legal may_add desk_of desk_after first_desk
ended_full = refl

no_second_end : legal (two_modes (entry 3 1 End ∷ entry 3 2 End ∷ [])) ≡ false
unfolding legal may_add desk_of desk_after first_desk
no_second_end = refl

before_its_end : before_end (opening ∷ drawing ∷ entry 3 1 End ∷ []) ≡ 2
before_its_end = refl

-- of two causes that stand together the first is told
ended_and_full : allowed (lists (opening ∷ drawing ∷ entry 3 1 End ∷ [])) Reconnect ≡ Some Ended
unfolding desk_of desk_after first_desk
ended_and_full = refl

ended_and_bad_mode : allowed (lists (entry 3 1 End ∷ [])) (drawings.Mode 1) ≡ Some Ended
unfolding desk_of desk_after first_desk
ended_and_bad_mode = refl

full_and_bad_mode : allowed (lists (opening ∷ drawing ∷ [])) (drawings.Mode 1) ≡ Some Full
unfolding desk_of desk_after first_desk
full_and_bad_mode = refl

no_such_mode : allowed (two_modes []) (drawings.Mode 2) ≡ Some BadMode
unfolding desk_of desk_after first_desk
no_such_mode = refl

-- an operation has to fit the mode that stands
outside_now : allowed (two_modes (draws 1 (drawings.Mode 1) ∷ [])) (Present (Fill (rect 1 1 3 2) 7 ∷ [])) ≡ Some (BadRect 0)
unfolding desk_of desk_after first_desk
outside_now = refl

-- the limits
most_actors : MAX_ACTORS ≡ 64
most_actors = refl

most_entries : MAX_CAPACITY ≡ 1048576
most_entries = refl

most_duplicators : MAX_DUPLICATORS ≡ 4
most_duplicators = refl

most_privileged : MAX_PRIVILEGED ≡ 16
most_privileged = refl

-- a cover beside a fill, and the veil of their list: black is hidden, and the fill stays
abbrev hiding : List ℕ → Entry
hiding colours =
    entry 2 2 (events.Draw (Present (Fill (rect 0 0 1 1) 7 ∷ Cover (rect 1 1 3 2) colours ∷ [])))

veil_of : veil (lists (opening ∷ hiding (8 ∷ 9 ∷ []) ∷ [])) ≡ lists (opening ∷ hiding (0 ∷ 0 ∷ []) ∷ [])
veil_of = refl

-- a list that hides no colour isn't legal, but its veil is
no_colour : entries_coloured (opening ∷ hiding (8 ∷ 16777216 ∷ []) ∷ []) ≡ false
no_colour = refl

legal_veil_alone :
    (legal (lists (hiding (8 ∷ 16777216 ∷ []) ∷ [])) ≡ false)
    × (legal (veil (lists (hiding (8 ∷ 16777216 ∷ []) ∷ []))) ≡ true)
unfolding legal may_add desk_of desk_after first_desk
legal_veil_alone = (refl, refl)
