-- What the veil of a list refuses, and that it is legal where the list is.
use Rattle.std.proofs.Common.{◌≡◌, ℕ, ◌+◌, Bool, true, ◌&&◌, not, nat_lt, nat_le, List, [], ◌∷◌, ◌++◌, map, fold, Option, Some, None, option_map, refl, sym, ap, ◌∙◌, if◌then◌else◌, ◌==◌}
use Rattle.std.specs.Prelude.{is_none}
use Rattle.std.proofs.lemmas.Bool.{and_from, and_parts}
use Rattle.std.proofs.lemmas.List.{length-map, map-append}
use Rattle.dd_modes.specs.declared.modes.Mode.{Mode}
use Rattle.dd_ops.specs.declared.operations.Op.{Op}
use Rattle.dd_ops.proofs.Veiling.{unfit-veiled, all_fit_coloured}
use Rattle.dd_log.specs.declared.refusal.LogRefusal.{LogRefusal}
use Rattle.dd_log.specs.declared.refusal.LogRefusal.TheVariants.{Ended, Full, BadRect}
use Rattle.dd_log.specs.declared.desk.Desk.{Desk}
use Rattle.dd_log.specs.declared.events.Entry.{Entry}
use Rattle.dd_log.specs.declared.events.Event.{Event}
use Rattle.dd_log.specs.declared.events.Event.TheVariants.{Opened, Closed, End}
use Rattle.dd_log.specs.declared.events.Event.TheVariants as events
use Rattle.dd_log.specs.declared.events.Draw.{Draw}
use Rattle.dd_log.specs.declared.events.Draw.TheVariants.{Present, Switch, Disconnect, Reconnect}
use Rattle.dd_log.specs.declared.events.Draw.TheVariants as drawings
use Rattle.dd_log.specs.declared.events.Spec.{Spec}
use Rattle.dd_log.specs.declared.events.TheConstants.{MAX_ACTORS}
use Rattle.dd_log.specs.Events.{present_of, is_end}
use Rattle.dd_log.specs.Desk.{finds_slot}
use Rattle.dd_log.specs.History.{History, desk, desk_mode, last_step, is_full, bad_event, bad_draw, present_fits, refusal, may_add, legal_after, legal}
use Rattle.dd_log.specs.Veil.{veiled_drawing, veiled_event, veiled_entry, veil, present_coloured, event_coloured, entries_coloured, VeilRefuses, VeilIsLegal}
use Rattle.dd_log.proofs.Legal.{parts_of_may_add, allowed_by, fits_mode}
use Rattle.dd_log.proofs.VeiledPictures.{desk-veiled}

-- what an event is beside its operations
end_same : (e : Event) → is_end (veiled_event e) ≡ is_end e
end_same (events.Draw drawing) = refl
end_same (Opened slot app) = refl
end_same (Closed slot) = refl
end_same End = refl

slot_same : (slots : List (Option ℕ)) (e : Event) → finds_slot slots (veiled_event e) ≡ finds_slot slots e
slot_same slots (events.Draw drawing) = refl
slot_same slots (Opened slot app) = refl
slot_same slots (Closed slot) = refl
slot_same slots End = refl

step_from : (es : List Entry) (actor last : ℕ)
    → fold (λ n e. if e.actor == actor then e.step else n) last (map veiled_entry es)
    ≡ fold (λ n e. if e.actor == actor then e.step else n) last es
step_from [] actor last = refl
step_from (e ∷ es) actor last = step_from es actor (if e.actor == actor then e.step else last)

-- a cause is the same where covers hide colours
cause_drawn : (ms : List Mode) (mode : Mode) (drawing : Draw) → event_coloured (events.Draw drawing) ≡ true
    → bad_draw ms mode (veiled_drawing drawing) ≡ bad_draw ms mode drawing
cause_drawn ms mode (Present ops) t = ap (option_map BadRect) (unfit-veiled mode.width mode.height ops t)
cause_drawn ms mode (drawings.Pointer position visible) t = refl
cause_drawn ms mode (drawings.Shape shape) t = refl
cause_drawn ms mode (drawings.Mode index) t = refl
cause_drawn ms mode (Switch secure) t = refl
cause_drawn ms mode Disconnect t = refl
cause_drawn ms mode Reconnect t = refl

cause_same : (ms : List Mode) (mode : Mode) (e : Event) → event_coloured e ≡ true
    → bad_event ms mode (veiled_event e) ≡ bad_event ms mode e
cause_same ms mode (events.Draw drawing) t = cause_drawn ms mode drawing t
cause_same ms mode (Opened slot app) t = refl
cause_same ms mode (Closed slot) t = refl
cause_same ms mode End t = refl

-- a refusal by its parts
abbrev refusal_by : Bool → Bool → Bool → Option LogRefusal → Option LogRefusal
refusal_by ended full ends cause = if ended then Some Ended else (if full && not ends then Some Full else cause)

pub refusal-veiled : VeilRefuses
refusal-veiled h e t =
    let ms : List Mode = h.spec.modes in
    let desks = desk-veiled ms h.entries in
    ap (λ (d : Desk). refusal_by d.ended (is_full (veil h)) (is_end (veiled_event e))
    (bad_event ms d.mode (veiled_event e))) desks
    ∙ ap (λ n. refusal_by (desk h).ended (nat_le h.spec.capacity (n + 1)) (is_end (veiled_event e))
    (bad_event ms (desk_mode h) (veiled_event e)))
    (length-map h.entries veiled_entry)
    ∙ ap (λ b. refusal_by (desk h).ended (is_full h) b (bad_event ms (desk_mode h) (veiled_event e))) (end_same e)
    ∙ ap (refusal_by (desk h).ended (is_full h) (is_end e)) (cause_same ms (desk_mode h) e t)

-- whether an entry may be added, by its parts
abbrev may_by : Bool → Bool → Option LogRefusal → Bool → Bool
may_by actor step cause slot = actor && step && is_none cause && slot

pub may_add-veiled : (h : History) (e : Entry) → event_coloured e.event ≡ true
    → may_add (veil h) (veiled_entry e) ≡ may_add h e
unfolding may_add
may_add-veiled h e t =
    let within : Bool = nat_lt e.actor MAX_ACTORS in
    ap (λ n. may_by within (nat_lt n e.step) (refusal (veil h) (veiled_event e.event))
    (finds_slot (desk (veil h)).slots (veiled_event e.event)))
    (step_from h.entries e.actor 0)
    ∙ ap (λ cause. may_by within (nat_lt (last_step h.entries e.actor) e.step) cause
    (finds_slot (desk (veil h)).slots (veiled_event e.event)))
    (refusal-veiled h e.event t)
    ∙ ap (λ (d : Desk). may_by within (nat_lt (last_step h.entries e.actor) e.step) (refusal h e.event)
    (finds_slot d.slots (veiled_event e.event)))
    (desk-veiled h.spec.modes h.entries)
    ∙ ap (may_by within (nat_lt (last_step h.entries e.actor) e.step) (refusal h e.event))
    (slot_same (desk h).slots e.event)

-- a legal list's covers hide colours
fit_event : (w h : ℕ) (present : Option (List Op)) → present_fits w h present ≡ true → present_coloured present ≡ true
fit_event w h None t = refl
fit_event w h (Some ops) t = all_fit_coloured w h ops t

pub coloured_added : (h : History) (e : Entry) → may_add h e ≡ true → event_coloured e.event ≡ true
coloured_added h e t =
    let mode : Mode = desk_mode h in
    let allowed = allowed_by h e.event (parts_of_may_add h e t).allowed in
    fit_event mode.width mode.height (present_of e.event) (fits_mode h.spec.modes mode e.event allowed.fit)

abbrev listed : Spec → List Entry → History
listed spec es = record { spec = spec; entries = es }

legal_coloured : (spec : Spec) (before es : List Entry) → legal_after spec before es ≡ true → entries_coloured es ≡ true
legal_coloured spec before [] t = refl
legal_coloured spec before (e ∷ es) t =
    let both = and_parts (may_add (listed spec before) e) (legal_after spec (before ++ e ∷ []) es) t in
    and_from _ _ (coloured_added (listed spec before) e both.0) (legal_coloured spec (before ++ e ∷ []) es both.1)

pub coloured_where_legal : (h : History) → legal h ≡ true → entries_coloured h.entries ≡ true
unfolding legal
coloured_where_legal h t = legal_coloured h.spec [] h.entries t

-- entry by entry
legal_from : (spec : Spec) (before es : List Entry) → entries_coloured es ≡ true
    → legal_after spec (map veiled_entry before) (map veiled_entry es) ≡ legal_after spec before es
legal_from spec before [] t = refl
legal_from spec before (e ∷ es) t =
    let both = and_parts (event_coloured e.event) (entries_coloured es) t in
    ap (λ b. b && legal_after spec (map veiled_entry before ++ veiled_entry e ∷ []) (map veiled_entry es))
    (may_add-veiled (listed spec before) e both.0)
    ∙ ap (λ (xs : List Entry). may_add (listed spec before) e && legal_after spec xs (map veiled_entry es))
    (sym (map-append veiled_entry before (e ∷ [])))
    ∙ ap (λ b. may_add (listed spec before) e && b) (legal_from spec (before ++ e ∷ []) es both.1)

legal-veiled : (h : History) → entries_coloured h.entries ≡ true → legal (veil h) ≡ legal h
unfolding legal
legal-veiled h t = legal_from h.spec [] h.entries t

pub is_legal-veiled : (h : History) → VeilIsLegal h
is_legal-veiled h =
    record {
      legal_veil = λ (t : legal h ≡ true). legal-veiled h (coloured_where_legal h t) ∙ t;
      same_legal = legal-veiled h;
    }
