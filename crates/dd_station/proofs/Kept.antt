-- What a station keeps through a step.
use Rattle.std.proofs.Common.{◌≡◌, ◌≢◌, ℕ, ◌+◌, ◌<◌, ◌≤◌, Bool, true, false, List, [], ◌∷◌, ◌++◌, length, get_or, set, Option, Some, None, refl, sym, ap, ◌∙◌, subst, if◌then◌else◌, arith, length-append, ⊎_elim}
use Rattle.std.specs.Prelude.{◌==◌, slice_set, slice_index, slice_index_or, slice_get, is_some, option_map, unwrap_or, position, IsTrue, IfSome, Result, Ok, Err}
use Rattle.std.proofs.Math.ListN.{length-set}
use Rattle.std.proofs.lemmas.Bool.{cases_eq}
use Rattle.std.proofs.lemmas.List.{get_or-set_same, get_or-set_other, get_or-map, map-set, set-get_or, take-append-le, take_all, get_or_default}
use Rattle.std.proofs.lemmas.List.Sums.{fold_push}
use Rattle.dd_log.specs.declared.events.Entry.{Entry}
use Rattle.dd_log.specs.declared.events.Draw.{Draw}
use Rattle.dd_log.specs.declared.events.Event.TheVariants.{Opened, Closed}
use Rattle.dd_log.specs.declared.events.Event.TheVariants as events
use Rattle.dd_log.specs.declared.refusal.LogRefusal.{LogRefusal}
use Rattle.dd_log.specs.Desk.{is_app, finds_slot}
use Rattle.dd_log.specs.History.{History, Begins, desk, with_entry, last_step, is_opening, opens_at}
use Rattle.dd_table.specs.Opening.{opening}
use Rattle.dd_table.specs.Slots.{IsOpenFor}
use Rattle.dd_table.proofs.Slots.{open_drawn, open_opened, open_beside_opening, open_beside_closing, not_another, slot_taken}
use Rattle.dd_dup.specs.Stands.{Stands}
use Rattle.dd_dup.specs.Duplicator.{Duplicator}
use Rattle.dd_dup.proofs.Frames.{stands_later}
use Rattle.dd_calls.specs.declared.answers.DupRefusal.{DupRefusal}
use Rattle.dd_calls.specs.declared.dup_call.DupCall.{DupCall}
use Rattle.dd_calls.specs.declared.dup_call.DupCall.TheVariants as asked
use Rattle.dd_dup.specs.declared.frame.Frame.{Frame}
use Rattle.dd_dup.specs.Reply.{Memory, reply, is_lost, lost_memory, without_frame, memory_after, acquire_reply}
use Rattle.dd_station.specs.Run.{draw_history, client_reply}
use Rattle.dd_dup.specs.Reply.{slot_of}
use Rattle.dd_dup.specs.Stands.{memory, MayStand}
use Rattle.dd_station.specs.Station.{memories, HasSlot, Has, IsKept}

-- a list begins with what it was before one entry more
pub begins-with_entry : (h : History) (e : Entry) → Begins h (with_entry h e)
begins-with_entry h e = record {
  spec = refl;
  within = omega (arith, length-append h.entries (e ∷ []));
  entries = take-append-le (length h.entries) h.entries (e ∷ []) (omega arith)
      ∙ take_all (length h.entries) h.entries (omega arith);
}

may_stand_later : (o : Option Duplicator) (h later : History) → MayStand o h → Begins h later → MayStand o later
may_stand_later None h later m b = tt
may_stand_later (Some d) h later m b = stands_later d h later m b

-- no entry is of a later step, one step on
past_cases : (b : Bool) (step last n : ℕ) → step ≡ n + 1 → last ≤ n → (if b then step else last) ≤ n + 1
past_cases true step last n e m = omega arith
past_cases false step last n e m = omega arith

past_more : (es : List Entry) (e : Entry) (n : ℕ) → ((actor : ℕ) → last_step es actor ≤ n) → e.step ≡ n + 1
    → (actor : ℕ) → last_step (es ++ e ∷ []) actor ≤ n + 1
past_more es e n past step_is actor =
    let pushed : last_step (es ++ e ∷ []) actor ≡ (if e.actor == actor then e.step else last_step es actor) =
    fold_push (λ last x. if x.actor == actor then x.step else last) 0 es e in
    let bound = past_cases (e.actor == actor) e.step (last_step es actor) n step_is (past actor) in
    omega (arith, pushed, bound)

pub kept_counted : (h : History) (clients : List ℕ) (dups : List (Option Duplicator)) (n : ℕ)
    → IsKept h clients dups n → IsKept h clients dups (n + 1)
kept_counted h clients dups n k = record {
  few = k.few;
  places = k.places;
  stand = k.stand;
  slots = k.slots;
  apart = k.apart;
  past = λ actor. let p = k.past actor in omega arith;
}

-- a drawing leaves the slots
has_slot_drawn : (o : Option Duplicator) (h : History) (actor step : ℕ) (drawing : Draw) (app : ℕ) → HasSlot o h app
    → HasSlot o (with_entry h (record { actor = actor; step = step; event = events.Draw drawing })) app
has_slot_drawn None h actor step drawing app has = tt
has_slot_drawn (Some d) h actor step drawing app has = open_drawn h actor step drawing d.memory.opened app has

kept_drawn : (h : History) (actor n : ℕ) (drawing : Draw) (clients : List ℕ) (dups : List (Option Duplicator))
    → IsKept h clients dups n
    → IsKept (with_entry h (record { actor = actor; step = n + 1; event = events.Draw drawing })) clients dups (n + 1)
kept_drawn h actor n drawing clients dups k =
    let e : Entry = record { actor = actor; step = n + 1; event = events.Draw drawing } in
    record {
      few = k.few;
      places = k.places;
      stand = λ i. may_stand_later (slice_index_or dups i None) h (with_entry h e) (k.stand i) (begins-with_entry h e);
      slots =
          λ i. has_slot_drawn (slice_index_or dups i None) h actor (n + 1) drawing (slice_index clients i) (k.slots i);
      apart = k.apart;
      past = past_more h.entries e n k.past refl;
    }

pub kept_draw : (cause : Option LogRefusal) (h : History) (actor n : ℕ) (drawing : Draw) (clients : List ℕ)
    (dups : List (Option Duplicator)) → IsKept h clients dups n
    → IsKept (draw_history cause h (record { actor = actor; step = n + 1; event = events.Draw drawing }))
    clients dups (n + 1)
kept_draw None h actor n drawing clients dups k = kept_drawn h actor n drawing clients dups k
kept_draw (Some cause) h actor n drawing clients dups k = kept_counted h clients dups n k

-- what holds of the one duplicator that is put in, and of each other, holds of each
each_set : (P : Option Duplicator → ℕ → Type 0) (dups : List (Option Duplicator)) (i : ℕ) (o : Option Duplicator)
    → i < length dups → P o i → ((j : ℕ) → j ≢ i → P (slice_index_or dups j None) j)
    → (j : ℕ) → P (slice_index_or (slice_set dups i o) j None) j
each_set P dups i o i_in here others j = ⊎_elim
    (λ (e : j ≡ i). subst (λ (x : Option Duplicator). P x j)
    (sym (ap (λ m. get_or (set dups i o) m None) e ∙ get_or-set_same dups i o None i_in))
    (subst (λ (m : ℕ). P o m) (sym e) here))
    (λ (ne : j ≢ i). subst (λ (x : Option Duplicator). P x j) (sym (get_or-set_other dups i j o None ne)) (others j ne))
    (cases_eq j i)

-- the place of another duplicator
has_other : (dups : List (Option Duplicator)) (i j : ℕ) (o : Option Duplicator) → j ≢ i → Has (slice_set dups i o) j
    → Has dups j
has_other dups i j o ne has = sym (ap is_some (get_or-set_other dups i j o None ne)) ∙ has

has_here : (dups : List (Option Duplicator)) (i j : ℕ) (o : Option Duplicator) → i < length dups → j ≡ i
    → Has (slice_set dups i o) j → is_some o ≡ true
has_here dups i j o i_in e has =
    sym (ap is_some (ap (λ m. get_or (set dups i o) m None) e ∙ get_or-set_same dups i o None i_in)) ∙ has

-- the duplicator that is put in is of another application than each other
apart_set : (clients : List ℕ) (dups : List (Option Duplicator)) (i : ℕ) (o : Option Duplicator) → i < length dups
    → ((j k : ℕ) → j ≢ k → Has dups j → Has dups k → slice_index clients j ≢ slice_index clients k)
    → (is_some o ≡ true → (j : ℕ) → j ≢ i → Has dups j → slice_index clients j ≢ slice_index clients i)
    → (j k : ℕ) → j ≢ k → Has (slice_set dups i o) j → Has (slice_set dups i o) k
    → slice_index clients j ≢ slice_index clients k
apart_set clients dups i o i_in apart others j k ne has_j has_k = ⊎_elim
    (λ (e : j ≡ i).
    let k_ne : k ≢ i = λ (f : k ≡ i). ne (e ∙ sym f) in
    let a = others (has_here dups i j o i_in e has_j) k k_ne (has_other dups i k o k_ne has_k) in
    λ (same : slice_index clients j ≡ slice_index clients k). a (sym same ∙ ap (slice_index clients) e))
    (λ (j_ne : j ≢ i). ⊎_elim
    (λ (f : k ≡ i).
    let a = others (has_here dups i k o i_in f has_k) j j_ne (has_other dups i j o j_ne has_j) in
    λ (same : slice_index clients j ≡ slice_index clients k). a (same ∙ ap (slice_index clients) f))
    (λ (k_ne : k ≢ i). apart j k ne (has_other dups i j o j_ne has_j) (has_other dups i k o k_ne has_k))
    (cases_eq k i))
    (cases_eq j i)

-- one duplicator changed, which keeps its slot
pub kept_set : (h : History) (clients : List ℕ) (dups : List (Option Duplicator)) (n i : ℕ) (o : Option Duplicator)
    → i < length dups → IsKept h clients dups n → MayStand o h → HasSlot o h (slice_index clients i)
    → (is_some o ≡ true → Has dups i) → IsKept h clients (slice_set dups i o) n
kept_set h clients dups n i o i_in k stands has before = record {
  few = k.few;
  places = length-set dups i o ∙ k.places;
  stand = each_set (λ x j. MayStand x h) dups i o i_in stands (λ j ne. k.stand j);
  slots = each_set (λ x j. HasSlot x h (slice_index clients j)) dups i o i_in has (λ j ne. k.slots j);
  apart =
      apart_set clients dups i o i_in k.apart (λ (s : is_some o ≡ true) j ne has_j. k.apart j i ne has_j (before s));
  past = k.past;
}

-- one opened, whose application had no open slot
has_slot_opened : (o : Option Duplicator) (h : History) (actor step slot other app : ℕ) → opening h other ≡ Ok slot
    → HasSlot o h app
    → HasSlot o (with_entry h (record { actor = actor; step = step; event = Opened slot other })) app
has_slot_opened None h actor step slot other app e has = tt
has_slot_opened (Some d) h actor step slot other app e has =
    open_beside_opening h actor step slot other d.memory.opened app e has

apart_opened : (o : Option Duplicator) (h : History) (slot other app : ℕ) → opening h other ≡ Ok slot
    → is_some o ≡ true → HasSlot o h app → app ≢ other
apart_opened None h slot other app e some has = cc
apart_opened (Some d) h slot other app e some has = not_another h other slot d.memory.opened app e has

pub kept_opened : (h : History) (actor n slot : ℕ) (clients : List ℕ) (dups : List (Option Duplicator)) (i : ℕ)
    (d : Duplicator) → i < length dups → IsKept h clients dups n → opening h (slice_index clients i) ≡ Ok slot
    → d.memory.opened ≡ length h.entries
    → Stands d (with_entry h (record { actor = actor; step = n + 1; event = Opened slot (slice_index clients i) }))
    → IsKept (with_entry h (record { actor = actor; step = n + 1; event = Opened slot (slice_index clients i) }))
    clients (slice_set dups i (Some d)) (n + 1)
kept_opened h actor n slot clients dups i d i_in k e there stands =
    let app = slice_index clients i in
    let entry : Entry = record { actor = actor; step = n + 1; event = Opened slot app } in
    let later = with_entry h entry in
    record {
      few = k.few;
      places = length-set dups i (Some d) ∙ k.places;
      stand =
          each_set (λ x j. MayStand x later) dups i (Some d) i_in stands
          (λ j ne. may_stand_later (slice_index_or dups j None) h later (k.stand j) (begins-with_entry h entry));
      slots =
          each_set (λ x j. HasSlot x later (slice_index clients j)) dups i (Some d) i_in
          (subst (λ (place : ℕ). IsOpenFor later place app) (sym there) (open_opened h actor (n + 1) slot app e))
          (λ j ne. has_slot_opened (slice_index_or dups j None) h actor (n + 1) slot app (slice_index clients j) e
          (k.slots j));
      apart =
          apart_set clients dups i (Some d) i_in k.apart
          (λ s j ne has_j. apart_opened (slice_index_or dups j None) h slot app (slice_index clients j) e has_j
          (k.slots j));
      past = past_more h.entries entry n k.past refl;
    }

-- one closed, whose application's slot it was
has_slot_closed : (o : Option Duplicator) (h : History) (actor step slot other app : ℕ)
    → position (is_app other) (desk h).slots ≡ Some slot → (is_some o ≡ true → app ≢ other) → HasSlot o h app
    → HasSlot o (with_entry h (record { actor = actor; step = step; event = Closed slot })) app
has_slot_closed None h actor step slot other app stands apart has = tt
has_slot_closed (Some d) h actor step slot other app stands apart has =
    open_beside_closing h actor step slot other d.memory.opened app stands (apart refl) has

pub kept_closed : (h : History) (actor n slot : ℕ) (clients : List ℕ) (dups : List (Option Duplicator)) (i : ℕ)
    → i < length dups → IsKept h clients dups n → Has dups i
    → position (is_app (slice_index clients i)) (desk h).slots ≡ Some slot
    → IsKept (with_entry h (record { actor = actor; step = n + 1; event = Closed slot })) clients
    (slice_set dups i None) (n + 1)
kept_closed h actor n slot clients dups i i_in k has stands =
    let app = slice_index clients i in
    let entry : Entry = record { actor = actor; step = n + 1; event = Closed slot } in
    let later = with_entry h entry in
    record {
      few = k.few;
      places = length-set dups i None ∙ k.places;
      stand =
          each_set (λ x j. MayStand x later) dups i None i_in tt
          (λ j ne. may_stand_later (slice_index_or dups j None) h later (k.stand j) (begins-with_entry h entry));
      slots =
          each_set (λ x j. HasSlot x later (slice_index clients j)) dups i None i_in tt
          (λ j ne. has_slot_closed (slice_index_or dups j None) h actor (n + 1) slot app (slice_index clients j) stands
          (λ has_j. k.apart j i ne has_j has) (k.slots j));
      apart = apart_set clients dups i None i_in k.apart (λ (s : false ≡ true) j ne has_j. cc);
      past = past_more h.entries entry n k.past refl;
    }

-- the memories of duplicators
pub memories-set : (dups : List (Option Duplicator)) (i : ℕ) (o : Option Duplicator)
    → memories (slice_set dups i o) ≡ slice_set (memories dups) i (memory o)
memories-set dups i o = map-set memory dups i o

pub memories-get : (dups : List (Option Duplicator)) (i : ℕ) (o : Option Duplicator) → i < length dups
    → o ≡ get_or dups i o → memory o ≡ slice_index_or (memories dups) i None
memories-get dups i o i_in is = ap memory is ∙ sym (get_or-map memory dups i o None i_in)

-- a duplicator written back as it was
pub set_same : (dups : List (Option Duplicator)) (i : ℕ) (o : Option Duplicator) → o ≡ get_or dups i o
    → slice_set dups i o ≡ dups
set_same dups i o is = ap (set dups i) is ∙ set-get_or dups i o

pub stands_there : (h : History) (clients : List ℕ) (dups : List (Option Duplicator)) (n i : ℕ)
    (o : Option Duplicator) → i < length dups → o ≡ get_or dups i o → IsKept h clients dups n → MayStand o h
stands_there h clients dups n i o i_in is k =
    subst (λ (x : Option Duplicator). MayStand x h) (sym (is ∙ get_or_default dups i o None i_in)) (k.stand i)

-- the opening stands at the place that it was given
pub opens_there : (h : History) (actor step slot app : ℕ)
    → opens_at (with_entry h (record { actor = actor; step = step; event = Opened slot app })) (length h.entries) ≡ true
opens_there h actor step slot app =
    at_end h.entries (record { actor = actor; step = step; event = Opened slot app }) where
      at_end : (es : List Entry) (e : Entry)
          → unwrap_or
          (option_map (λ x. is_opening x.event) (slice_get (es ++ e ∷ []) (length es))) false ≡ is_opening e.event
      at_end [] e = refl
      at_end (x ∷ es) e = at_end es e

pub slots_there : (h : History) (clients : List ℕ) (dups : List (Option Duplicator)) (n i : ℕ)
    (o : Option Duplicator) → i < length dups → o ≡ get_or dups i o → IsKept h clients dups n
    → HasSlot o h (slice_index clients i)
slots_there h clients dups n i o i_in is k =
    subst (λ (x : Option Duplicator). HasSlot x h (slice_index clients i))
    (sym (is ∙ get_or_default dups i o None i_in)) (k.slots i)

-- a duplicator's slot is the one that is open for its application
slot_of_kept : (o : Option Duplicator) (d : Duplicator) (h : History) (app : ℕ) → o ≡ Some d → HasSlot o h app
    → slot_of (memory o) h ≡ position (is_app app) (desk h).slots
slot_of_kept None d h app e has = cc
slot_of_kept (Some x) d h app e has = has.opened ∙ sym has.stands

pub slot_there : (h : History) (clients : List ℕ) (dups : List (Option Duplicator)) (n i : ℕ) (o : Option Duplicator)
    (d : Duplicator) → i < length dups → o ≡ get_or dups i o → o ≡ Some d → IsKept h clients dups n
    → slot_of (slice_index_or (memories dups) i None) h ≡ position (is_app (slice_index clients i)) (desk h).slots
slot_there h clients dups n i o d i_in is some k =
    ap (λ (m : Option Memory). slot_of m h) (sym (memories-get dups i o i_in is))
    ∙ slot_of_kept o d h (slice_index clients i) some (slots_there h clients dups n i o i_in is k)

pub slot_taken_if : (r : Option ℕ) (h : History) (app : ℕ) → r ≡ position (is_app app) (desk h).slots
    → IfSome r (λ slot. IsTrue (finds_slot (desk h).slots (Closed slot)))
slot_taken_if None h app e = tt
slot_taken_if (Some slot) h app e = slot_taken h app slot (sym e)

-- where a client has a slot, it has a duplicator, and the slot is open for its application
has_open : (o : Option Duplicator) (h : History) (app slot : ℕ) → slot_of (memory o) h ≡ Some slot → HasSlot o h app
    → (is_some o ≡ true) × (position (is_app app) (desk h).slots ≡ Some slot)
has_open None h app slot e has = cc
has_open (Some d) h app slot e has = (refl, has.stands ∙ sym has.opened ∙ e)

pub slot_open : (h : History) (clients : List ℕ) (dups : List (Option Duplicator)) (n i slot : ℕ) → i < length dups
    → IsKept h clients dups n → slot_of (slice_index_or (memories dups) i None) h ≡ Some slot
    → Has dups i × (position (is_app (slice_index clients i)) (desk h).slots ≡ Some slot)
slot_open h clients dups n i slot i_in k e =
    has_open (slice_index_or dups i None) h (slice_index clients i) slot
    (ap (λ (m : Option Memory). slot_of m h) (sym (get_or-map memory dups i None None i_in)) ∙ e) (k.slots i)

-- the client's application, at any default
pub app_there : (clients : List ℕ) (i x : ℕ) → i < length clients → x ≡ get_or clients i x
    → x ≡ slice_index clients i
app_there clients i x i_in is = is ∙ get_or_default clients i x 0 i_in

-- no call of a duplicator changes its opening
acquire_opened : (lost : Bool) (r : Result Frame DupRefusal) (m : Memory) (h : History)
    → (if lost then lost_memory m else memory_after m h r).opened ≡ m.opened
acquire_opened true r m h = refl
acquire_opened false (Ok f) m h = refl
acquire_opened false (Err cause) m h = refl

release_opened : (lost : Bool) (m : Memory) → (if lost then lost_memory m else without_frame m).opened ≡ m.opened
release_opened true m = refl
release_opened false m = refl

held_opened : (lost : Bool) (m : Memory) → (if lost then lost_memory m else m).opened ≡ m.opened
held_opened true m = refl
held_opened false m = refl

pub reply_opened : (call : DupCall) (m : Memory) (h : History) → (reply call m h).1.opened ≡ m.opened
reply_opened asked.Acquire m h = acquire_opened (is_lost m h) (acquire_reply m h) m h
reply_opened asked.Release m h = release_opened (is_lost m h) m
reply_opened (asked.Moves buffer) m h = held_opened (is_lost m h) m
reply_opened (asked.Dirty buffer) m h = held_opened (is_lost m h) m
reply_opened (asked.Shape buffer) m h = held_opened (is_lost m h) m
reply_opened asked.Surface m h = refl
reply_opened asked.Desc m h = refl

pub slot_asked : (o new : Option Duplicator) (call : DupCall) (h : History) (app : ℕ)
    → memory new ≡ (client_reply call (memory o) h).1 → HasSlot o h app
    → HasSlot new h app × (is_some new ≡ true → is_some o ≡ true)
slot_asked None None call h app e has = (tt, λ s. s)
slot_asked None (Some x) call h app e has = cc
slot_asked (Some d) None call h app e has = (tt, λ s. refl)
slot_asked (Some d) (Some x) call h app e has = (
  subst (λ (place : ℕ). IsOpenFor h place app)
      (sym (ap (λ (m : Memory). m.opened) (some_injective x.memory (reply call d.memory h).1 e)
      ∙ reply_opened call d.memory h)) has,
  λ s. refl,
) where
  some_injective : (a b : Memory) → Some a ≡ Some b → a ≡ b
  some_injective a b e = cc
