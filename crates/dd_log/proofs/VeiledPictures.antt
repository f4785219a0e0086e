-- The veil of a list makes the same desk, shows the same and hides the same points.
use Rattle.std.proofs.Common.{◌≡◌, ℕ, List, [], ◌∷◌, map, fold, Option, Some, None, option_map, refl, ap, ◌∙◌}
use Rattle.std.specs.List.{cons_option}
use Rattle.dd_geom.specs.Grid.{Grid}
use Rattle.dd_grid.specs.Cell.{Cell}
use Rattle.dd_grid.specs.Drawing.{seen, hidden_points}
use Rattle.dd_modes.specs.declared.modes.Mode.{Mode}
use Rattle.dd_ops.specs.declared.operations.Op.{Op}
use Rattle.dd_ops.specs.Operations.{drawn}
use Rattle.dd_ops.specs.Veil.{veiled}
use Rattle.dd_ops.proofs.Veiling.{seen-veiled, hidden-veiled}
use Rattle.dd_log.specs.declared.desk.Desk.{Desk}
use Rattle.dd_log.specs.declared.events.Entry.{Entry}
use Rattle.dd_log.specs.declared.events.Event.{Event}
use Rattle.dd_log.specs.declared.events.Event.TheVariants.{Opened, Closed, End}
use Rattle.dd_log.specs.declared.events.Event.TheVariants as events
use Rattle.dd_log.specs.declared.events.Draw.{Draw}
use Rattle.dd_log.specs.declared.events.Draw.TheVariants.{Present, Switch, Disconnect, Reconnect}
use Rattle.dd_log.specs.declared.events.Draw.TheVariants as drawings
use Rattle.dd_log.specs.Events.{present_of}
use Rattle.dd_log.specs.Desk.{first_desk, desk_after, desk_of}
use Rattle.dd_log.specs.History.{History}
use Rattle.dd_log.specs.Picture.{State, first_state, state_after, state_of, picture, picture_after, presents}
use Rattle.dd_log.specs.Veil.{veiled_drawing, veiled_event, veiled_entry, VeilShows}

abbrev entry_of : ℕ → ℕ → Event → Entry
entry_of actor step e = record { actor = actor; step = step; event = e }

-- what an event is to the desk, and to the presents, doesn't look at its operations
desk_drawn : (ms : List Mode) (d : Desk) (actor step : ℕ) (drawing : Draw)
    → desk_after ms d (entry_of actor step (events.Draw (veiled_drawing drawing)))
    ≡ desk_after ms d (entry_of actor step (events.Draw drawing))
unfolding desk_after
desk_drawn ms d actor step (Present ops) = refl
desk_drawn ms d actor step (drawings.Pointer position visible) = refl
desk_drawn ms d actor step (drawings.Shape shape) = refl
desk_drawn ms d actor step (drawings.Mode index) = refl
desk_drawn ms d actor step (Switch secure) = refl
desk_drawn ms d actor step Disconnect = refl
desk_drawn ms d actor step Reconnect = refl

desk_by : (ms : List Mode) (d : Desk) (actor step : ℕ) (e : Event)
    → desk_after ms d (entry_of actor step (veiled_event e)) ≡ desk_after ms d (entry_of actor step e)
unfolding desk_after
desk_by ms d actor step (events.Draw drawing) = desk_drawn ms d actor step drawing
desk_by ms d actor step (Opened slot app) = refl
desk_by ms d actor step (Closed slot) = refl
desk_by ms d actor step End = refl

desk_same : (ms : List Mode) (d : Desk) (e : Entry) → desk_after ms d (veiled_entry e) ≡ desk_after ms d e
desk_same ms d e = desk_by ms d e.actor e.step e.event

desk_from : (ms : List Mode) (d : Desk) (es : List Entry)
    → fold (desk_after ms) d (map veiled_entry es) ≡ fold (desk_after ms) d es
desk_from ms d [] = refl
desk_from ms d (e ∷ es) =
    ap (λ (x : Desk). fold (desk_after ms) x (map veiled_entry es)) (desk_same ms d e)
    ∙ desk_from ms (desk_after ms d e) es

pub desk-veiled : (ms : List Mode) (es : List Entry) → desk_of ms (map veiled_entry es) ≡ desk_of ms es
unfolding desk_of
desk-veiled ms es = desk_from ms (first_desk ms) es

present_drawn : (drawing : Draw)
    → present_of (events.Draw (veiled_drawing drawing)) ≡ option_map veiled (present_of (events.Draw drawing))
present_drawn (Present ops) = refl
present_drawn (drawings.Pointer position visible) = refl
present_drawn (drawings.Shape shape) = refl
present_drawn (drawings.Mode index) = refl
present_drawn (Switch secure) = refl
present_drawn Disconnect = refl
present_drawn Reconnect = refl

pub present-veiled : (e : Event) → present_of (veiled_event e) ≡ option_map veiled (present_of e)
present-veiled (events.Draw drawing) = present_drawn drawing
present-veiled (Opened slot app) = refl
present-veiled (Closed slot) = refl
present-veiled End = refl

cons_veiled : (present : Option (List Op)) (some : List (List Op))
    → cons_option (option_map veiled present) (map veiled some) ≡ map veiled (cons_option present some)
cons_veiled None some = refl
cons_veiled (Some ops) some = refl

pub presents-veiled : (es : List Entry) → presents (map veiled_entry es) ≡ map veiled (presents es)
unfolding presents
presents-veiled [] = refl
presents-veiled (e ∷ es) =
    ap (λ (p : Option (List Op)). cons_option p (presents (map veiled_entry es))) (present-veiled e.event)
    ∙ ap (λ (some : List (List Op)). cons_option (option_map veiled (present_of e.event)) some) (presents-veiled es)
    ∙ cons_veiled (present_of e.event) (presents es)

-- two states of one desk, whose pictures show the same and hide the same points
record Alike (s t : State) : Type 0 where
  same_desk : t.desk ≡ s.desk
  same_seen : seen t.picture ≡ seen s.picture
  same_hidden : hidden_points t.picture ≡ hidden_points s.picture

-- something of pictures that a present and its veil keep the same
abbrev Keeps : {A : Type 0} → (Grid Cell → A) → Type 0
Keeps of = (p q : Grid Cell) (ops : List Op) → of q ≡ of p → of (drawn q (veiled ops)) ≡ of (drawn p ops)

picture_drawn : {A : Type 0} (of : Grid Cell → A) → Keeps of → (mode : Mode) (p q : Grid Cell) (drawing : Draw)
    → of q ≡ of p
    → of (picture_after mode q (events.Draw (veiled_drawing drawing)))
    ≡ of (picture_after mode p (events.Draw drawing))
picture_drawn of keeps mode p q (Present ops) same = keeps p q ops same
picture_drawn of keeps mode p q (drawings.Pointer position visible) same = same
picture_drawn of keeps mode p q (drawings.Shape shape) same = same
picture_drawn of keeps mode p q (drawings.Mode index) same = refl
picture_drawn of keeps mode p q (Switch secure) same = refl
picture_drawn of keeps mode p q Disconnect same = same
picture_drawn of keeps mode p q Reconnect same = same

picture_same : {A : Type 0} (of : Grid Cell → A) → Keeps of → (mode : Mode) (p q : Grid Cell) (e : Event)
    → of q ≡ of p → of (picture_after mode q (veiled_event e)) ≡ of (picture_after mode p e)
picture_same of keeps mode p q (events.Draw drawing) same = picture_drawn of keeps mode p q drawing same
picture_same of keeps mode p q (Opened slot app) same = same
picture_same of keeps mode p q (Closed slot) same = same
picture_same of keeps mode p q End same = same

alike_after : (ms : List Mode) (s t : State) (e : Entry) → Alike s t
    → Alike (state_after ms s e) (state_after ms t (veiled_entry e))
alike_after ms s t e a =
    let desks : desk_after ms t.desk (veiled_entry e) ≡ desk_after ms s.desk e =
    ap (λ (d : Desk). desk_after ms d (veiled_entry e)) a.same_desk ∙ desk_same ms s.desk e in
    let mode : Mode = (desk_after ms s.desk e).mode in
    record {
      same_desk = desks;
      same_seen = ap (λ (d : Desk). seen (picture_after d.mode t.picture (veiled_event e.event))) desks
          ∙ picture_same seen seen-veiled mode s.picture t.picture e.event a.same_seen;
      same_hidden = ap (λ (d : Desk). hidden_points (picture_after d.mode t.picture (veiled_event e.event))) desks
          ∙ picture_same hidden_points hidden-veiled mode s.picture t.picture e.event a.same_hidden;
    }

alike_from : (ms : List Mode) (s t : State) (es : List Entry) → Alike s t
    → Alike (fold (state_after ms) s es) (fold (state_after ms) t (map veiled_entry es))
alike_from ms s t [] a = a
alike_from ms s t (e ∷ es) a =
    alike_from ms (state_after ms s e) (state_after ms t (veiled_entry e)) es (alike_after ms s t e a)

alike : (ms : List Mode) (es : List Entry) → Alike (state_of ms es) (state_of ms (map veiled_entry es))
unfolding state_of
alike ms es =
    alike_from ms (first_state ms) (first_state ms) es
    (record { same_desk = refl; same_seen = refl; same_hidden = refl })

pub shows-veiled : (h : History) → VeilShows h
unfolding picture
shows-veiled h =
    let a = alike h.spec.modes h.entries in
    record {
      same_desk = desk-veiled h.spec.modes h.entries;
      same_view = a.same_seen;
      same_hidden = a.same_hidden;
      same_presents = presents-veiled h.entries;
    }
