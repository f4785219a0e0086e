-- What the entries of a veil tell beside their operations.
use Rattle.std.proofs.Common.{◌≡◌, ℕ, ◌+◌, Bool, List, [], ◌∷◌, map, fold, Option, Some, None, option_map, refl, sym, ap, ◌∙◌, if◌then◌else◌}
use Rattle.std.specs.Prelude.{is_some, slice_get, ◌||◌}
use Rattle.std.specs.List.{list_any}
use Rattle.std.specs.Option.{option_or}
use Rattle.std.proofs.lemmas.List.{map-append, take-map}
use Rattle.std.proofs.lemmas.Option.{slice_get-map}
use Rattle.dd_ops.specs.declared.operations.Op.{Op}
use Rattle.dd_ops.specs.Veil.{veiled}
use Rattle.dd_log.specs.declared.events.Entry.{Entry}
use Rattle.dd_log.specs.declared.events.Event.{Event}
use Rattle.dd_log.specs.declared.events.Event.TheVariants.{Opened, Closed, End}
use Rattle.dd_log.specs.declared.events.Event.TheVariants as events
use Rattle.dd_log.specs.declared.events.Draw.{Draw}
use Rattle.dd_log.specs.declared.events.Draw.TheVariants.{Present, Switch, Disconnect, Reconnect}
use Rattle.dd_log.specs.declared.events.Draw.TheVariants as drawings
use Rattle.dd_log.specs.declared.events.Spec.{Spec}
use Rattle.dd_pointer.specs.Shape.{PointerShape}
use Rattle.dd_log.specs.Events.{present_of, shape_given, shape_in, loses, cuts_off, is_present, is_pointing, any_cuts_off, any_presents, any_points, number_from, last_present, last_pointed, last_shape}
use Rattle.dd_log.specs.History.{History, with_entry, first_entries}
use Rattle.dd_log.specs.Slots.{slot_opened, entry_slot, slot_at}
use Rattle.dd_log.specs.Veil.{veiled_drawing, veiled_event, veiled_entry, veil}
pub use Rattle.dd_log.proofs.VeiledPictures.{present-veiled, presents-veiled, desk-veiled, shows-veiled}
pub use Rattle.dd_log.proofs.VeiledLists.{refusal-veiled, may_add-veiled, coloured_where_legal, is_legal-veiled}

abbrev listed : Spec → List Entry → History
listed spec es = record { spec = spec; entries = es }

-- what some entries tell beside their operations
cuts_same : (e : Event) → cuts_off (veiled_event e) ≡ cuts_off e
cuts_same (events.Draw drawing) = cuts_drawn drawing where
  cuts_drawn : (drawing : Draw) → loses (veiled_drawing drawing) ≡ loses drawing
  cuts_drawn (Present ops) = refl
  cuts_drawn (drawings.Pointer position visible) = refl
  cuts_drawn (drawings.Shape shape) = refl
  cuts_drawn (drawings.Mode index) = refl
  cuts_drawn (Switch secure) = refl
  cuts_drawn Disconnect = refl
  cuts_drawn Reconnect = refl
cuts_same (Opened slot app) = refl
cuts_same (Closed slot) = refl
cuts_same End = refl

shape_same : (e : Event) → shape_in (veiled_event e) ≡ shape_in e
shape_same (events.Draw drawing) = shape_drawn drawing where
  shape_drawn : (drawing : Draw) → shape_given (veiled_drawing drawing) ≡ shape_given drawing
  shape_drawn (Present ops) = refl
  shape_drawn (drawings.Pointer position visible) = refl
  shape_drawn (drawings.Shape shape) = refl
  shape_drawn (drawings.Mode index) = refl
  shape_drawn (Switch secure) = refl
  shape_drawn Disconnect = refl
  shape_drawn Reconnect = refl
shape_same (Opened slot app) = refl
shape_same (Closed slot) = refl
shape_same End = refl

pointing_same : (e : Event) → is_pointing (veiled_event e) ≡ is_pointing e
pointing_same (events.Draw drawing) = pointing_drawn drawing where
  pointing_drawn : (drawing : Draw)
      → is_pointing (events.Draw (veiled_drawing drawing)) ≡ is_pointing (events.Draw drawing)
  pointing_drawn (Present ops) = refl
  pointing_drawn (drawings.Pointer position visible) = refl
  pointing_drawn (drawings.Shape shape) = refl
  pointing_drawn (drawings.Mode index) = refl
  pointing_drawn (Switch secure) = refl
  pointing_drawn Disconnect = refl
  pointing_drawn Reconnect = refl
pointing_same (Opened slot app) = refl
pointing_same (Closed slot) = refl
pointing_same End = refl

is_some_veiled : (present : Option (List Op)) → is_some (option_map veiled present) ≡ is_some present
is_some_veiled None = refl
is_some_veiled (Some ops) = refl

present_same : (e : Event) → is_present (veiled_event e) ≡ is_present e
present_same e = ap is_some (present-veiled e) ∙ is_some_veiled (present_of e)

module _ (is : Event → Bool) (same : (e : Event) → is (veiled_event e) ≡ is e) where
  any_same : (es : List Entry)
      → list_any (λ e. is e.event) (map veiled_entry es) ≡ list_any (λ e. is e.event) es
  any_same [] = refl
  any_same (e ∷ es) =
      ap (λ b. b || list_any (λ x. is x.event) (map veiled_entry es)) (same e.event)
      ∙ ap (λ b. is e.event || b) (any_same es)

  number_same : (es : List Entry) (last place : ℕ)
      → number_from is last place (map veiled_entry es) ≡ number_from is last place es
  number_same [] last place = refl
  number_same (e ∷ es) last place =
      ap (λ (b : Bool). number_from is (if b then place + 1 else last) (place + 1) (map veiled_entry es)) (same e.event)
      ∙ number_same es (if is e.event then place + 1 else last) (place + 1)

pub any_cuts-veiled : (es : List Entry) → any_cuts_off (map veiled_entry es) ≡ any_cuts_off es
any_cuts-veiled es = any_same cuts_off cuts_same es

pub any_presents-veiled : (es : List Entry) → any_presents (map veiled_entry es) ≡ any_presents es
any_presents-veiled es = any_same is_present present_same es

pub any_points-veiled : (es : List Entry) → any_points (map veiled_entry es) ≡ any_points es
any_points-veiled es = any_same is_pointing pointing_same es

pub last_present-veiled : (place : ℕ) (es : List Entry)
    → last_present place (map veiled_entry es) ≡ last_present place es
last_present-veiled place es = number_same is_present present_same es 0 place

pub last_pointed-veiled : (place : ℕ) (es : List Entry)
    → last_pointed place (map veiled_entry es) ≡ last_pointed place es
last_pointed-veiled place es = number_same is_pointing pointing_same es 0 place

shape_from : (es : List Entry) (shape : Option PointerShape)
    → fold (λ s e. option_or (shape_in e.event) s) shape (map veiled_entry es)
    ≡ fold (λ s e. option_or (shape_in e.event) s) shape es
shape_from [] shape = refl
shape_from (e ∷ es) shape =
    ap (λ (s : Option PointerShape).
    fold (λ t x. option_or (shape_in x.event) t) (option_or s shape) (map veiled_entry es)) (shape_same e.event)
    ∙ shape_from es (option_or (shape_in e.event) shape)

pub last_shape-veiled : (es : List Entry) → last_shape (map veiled_entry es) ≡ last_shape es
last_shape-veiled es = shape_from es None

-- the first entries of a veil are the veil of the first entries
pub first-veiled : (h : History) (n : ℕ) → first_entries n (veil h) ≡ veil (first_entries n h)
first-veiled h n = ap (listed h.spec) (take-map veiled_entry n h.entries)

-- the slot of an opening
opened_same : (e : Event) → slot_opened (veiled_event e) ≡ slot_opened e
opened_same (events.Draw drawing) = refl
opened_same (Opened slot app) = refl
opened_same (Closed slot) = refl
opened_same End = refl

entry_slot_same : (e : Option Entry) → entry_slot (option_map veiled_entry e) ≡ entry_slot e
entry_slot_same None = refl
entry_slot_same (Some e) = opened_same e.event

pub slot_at-veiled : (h : History) (place : ℕ) → slot_at (veil h) place ≡ slot_at h place
slot_at-veiled h place =
    ap entry_slot (slice_get-map veiled_entry h.entries place) ∙ entry_slot_same (slice_get h.entries place)

-- one entry more
pub push-veiled : (h : History) (e : Entry) → with_entry (veil h) (veiled_entry e) ≡ veil (with_entry h e)
push-veiled h e = ap (listed h.spec) (sym (map-append veiled_entry h.entries (e ∷ [])))
