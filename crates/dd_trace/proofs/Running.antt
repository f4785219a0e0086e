-- What holds in each state of a run: its list is legal, and each duplicator stands on it.
use Rattle.std.proofs.Common.{◌≡◌, ℕ, ◌+◌, ◌-◌, ◌<◌, ◌≤◌, Bool, true, false, List, length, get_or, replicate, Option, Some, None, Result, Ok, Err, refl, sym, ap, ◌∙◌, subst, arith, if◌then◌else◌, ◌&&◌, ⊎_elim}
use Rattle.std.specs.Prelude.{slice_set, slice_index, slice_index_or, is_none, is_some}
use Rattle.std.proofs.Math.ListN.{get_or-map}
use Rattle.std.proofs.lemmas.List.{length-replicate, length-map, get_or-replicate, get_or_past}
use Rattle.std.proofs.lemmas.Bool.{cases_lt, false≢true}
use lib.LanesLaws.{map-replicate}
use Rattle.dd_log.specs.declared.refusal.LogRefusal.{LogRefusal}
use Rattle.dd_log.specs.declared.refusal.LogRefusal.TheVariants as refusals
use Rattle.dd_calls.specs.declared.answers.OpenRefusal.{OpenRefusal}
use Rattle.dd_calls.specs.declared.answers.CloseRefusal.{CloseRefusal}
use Rattle.dd_calls.specs.declared.answers.CloseRefusal.TheVariants.{Ended}
use Rattle.dd_calls.specs.declared.answers.CloseRefusal.TheVariants as closings
use Rattle.dd_log.specs.declared.events.Entry.{Entry}
use Rattle.dd_log.specs.declared.events.Event.{Event}
use Rattle.dd_log.specs.declared.events.TheConstants.{MAX_ACTORS}
use Rattle.dd_calls.specs.declared.answers.DupRefusal.{DupRefusal}
use Rattle.dd_log.specs.declared.events.Draw.{Draw}
use Rattle.dd_log.specs.declared.events.Event.TheVariants.{Opened, Closed}
use Rattle.dd_log.specs.declared.events.Event.TheVariants as events
use Rattle.dd_log.specs.declared.events.Spec.{Spec}
use Rattle.dd_log.specs.Desk.{finds_slot}
use Rattle.dd_log.specs.History.{History, begun, desk, desk_mode, with_entry, legal, refusal, allowed, is_full, last_step}
use Rattle.dd_log.proofs.Legal.{legal_added, may_add_of_parts}
use Rattle.dd_table.specs.Opening.{opening, closing}
use Rattle.dd_table.proofs.Openings.{openings_fit, closing_granted}
use Rattle.dd_table.proofs.Slots.{slot_taken}
use Rattle.dd_bits.specs.Area.{nowhere}
use Rattle.dd_grid.specs.Drawing.{blank}
use Rattle.dd_calls.specs.declared.dup_call.DupCall.{DupCall}
use Rattle.dd_calls.specs.declared.dup_call.DupCall.TheVariants as asked
use Rattle.dd_dup.specs.declared.frame.Frame.{Frame}
use Rattle.dd_dup.specs.News.{frame}
use Rattle.dd_dup.specs.Reply.{Memory, fresh_memory, reply, is_lost, lost_memory, without_frame, with_frame, acquire_reply, memory_after}
use Rattle.dd_dup.specs.Duplicator.{Duplicator, holding, losing, released}
use Rattle.dd_dup.specs.Stands.{Stands}
use Rattle.dd_dup.proofs.Frames.{opened_at, stands_fresh, stands_holding, stands_losing, granted_is, kept_parts}
use Rattle.dd_calls.specs.declared.steps.Step.{Step}
use Rattle.dd_calls.specs.declared.steps.Step.TheVariants as steps
use Rattle.dd_calls.specs.declared.steps.ClientCall.{ClientCall}
use Rattle.dd_calls.specs.declared.steps.ClientCall.TheVariants as calls
use Rattle.dd_calls.specs.declared.steps.TheConstants.{MAX_CLIENTS}
use Rattle.dd_station.specs.Run.{State, start, one_step_on, next, app_of, memory_of, entry_of, draw_history, draw_outcome, opening_outcome, closing_outcome, client_reply, asking_outcome, call_outcome}
use Rattle.dd_calls.specs.Calls.{IsOfClient}
use Rattle.dd_dup.specs.Reply.{slot_of}
use Rattle.dd_dup.specs.Stands.{memory, MayStand}
use Rattle.dd_station.specs.Station.{memories, HasSlot, IsKept}
use Rattle.dd_station.proofs.Kept.{begins-with_entry, kept_counted, kept_draw, kept_set, kept_opened, kept_closed, memories-set, opens_there, slot_open, slot_asked}

-- Some duplicators have the clients' memories, stand on the list and keep their slots; and the list is legal.
pub record IsRun (s : State) : Type 0 where
  pub legal : legal s.history ≡ true
  pub dups : List (Option Duplicator)
  pub memories : memories dups ≡ s.memories
  pub kept : IsKept s.history s.clients dups s.steps

-- ---- at the beginning

pub none_there : {A : Type 0} (n k : ℕ) (none : Option A) → none ≡ None → get_or (replicate n none) k None ≡ None
none_there n k none is = ⊎_elim
    (λ (within : k < n). get_or-replicate n k none None within ∙ is)
    (λ (past : n ≤ k). get_or_past (replicate n none) k None (omega (arith, past, length-replicate n none)))
    (cases_lt k n)

abbrev no_duplicator : Option Duplicator
no_duplicator = None

legal-begun : (spec : Spec) → legal (begun spec) ≡ true
unfolding legal
legal-begun spec = refl

pub run_begun : (spec : Spec) (clients : List ℕ) → length clients ≤ MAX_CLIENTS → IsRun (start spec clients)
run_begun spec clients few =
    let dups = replicate (length clients) no_duplicator in
    let none = λ (k : ℕ). none_there (length clients) k no_duplicator refl in
    record {
      legal = legal-begun spec;
      dups = dups;
      memories = map-replicate memory (length clients) None;
      kept = record {
        few = few;
        places = length-replicate (length clients) no_duplicator;
        stand = λ k. subst (λ (o : Option Duplicator). MayStand o (begun spec)) (sym (none k)) tt;
        slots =
            λ k. subst (λ (o : Option Duplicator). HasSlot o (begun spec) (slice_index clients k)) (sym (none k)) tt;
        apart = λ j k ne has_j has_k. absurd (false≢true (sym (ap is_some (none j)) ∙ has_j));
        past = λ actor. omega arith;
      };
    }

-- ---- after a drawing

legal_entered : (h : History) (actor n : ℕ) (event : Event) → legal h ≡ true → actor < MAX_ACTORS
    → last_step h.entries actor ≤ n → refusal h event ≡ None → finds_slot (desk h).slots event ≡ true
    → legal (with_entry h (record { actor = actor; step = n + 1; event = event })) ≡ true
legal_entered h actor n event t few past free finds =
    let e : Entry = record { actor = actor; step = n + 1; event = event } in
    legal_added h e t (may_add_of_parts h e (record {
      actor = few;
      step = omega (arith, past);
      allowed = ap is_none free;
      slot = finds;
    }))

legal_drawn : (cause : Option LogRefusal) (h : History) (n : ℕ) (drawing : Draw) → allowed h drawing ≡ cause
    → legal h ≡ true → last_step h.entries 0 ≤ n
    → legal (draw_history cause h (record { actor = 0; step = n + 1; event = events.Draw drawing })) ≡ true
legal_drawn None h n drawing is t past = legal_entered h 0 n (events.Draw drawing) t (omega arith) past is refl
legal_drawn (Some cause) h n drawing is t past = t

run_drawn : (s : State) (drawing : Draw) → IsRun s → IsRun (draw_outcome s drawing).1
run_drawn s drawing run = record {
  legal = legal_drawn (allowed s.history drawing) s.history s.steps drawing refl run.legal (run.kept.past 0);
  dups = run.dups;
  memories = run.memories;
  kept = kept_draw (allowed s.history drawing) s.history 0 s.steps drawing s.clients run.dups run.kept;
}

-- ---- after an opening

run_counted : (s : State) → IsRun s → IsRun (one_step_on s s.history)
run_counted s run = record {
  legal = run.legal;
  dups = run.dups;
  memories = run.memories;
  kept = kept_counted s.history s.clients run.dups s.steps run.kept;
}

-- a client's place
pub place_of : (s : State) (k : ℕ) → IsRun s → 1 ≤ k → k ≤ length s.clients → k - 1 < length s.memories
place_of s k run from to =
    omega (arith, from, to, run.kept.places, length-map run.dups memory, ap length run.memories)

dup_place : (s : State) (k : ℕ) (run : IsRun s) → 1 ≤ k → k ≤ length s.clients → k - 1 < length run.dups
dup_place s k run from to = omega (arith, from, to, run.kept.places)

run_opened : (r : Result ℕ OpenRefusal) (s : State) (k : ℕ) → opening s.history (app_of s k) ≡ r → IsRun s → 1 ≤ k
    → k ≤ length s.clients → IsRun (opening_outcome r s k).1
run_opened (Err cause) s k is run from to = run_counted s run
run_opened (Ok slot) s k is run from to =
    let h = s.history in
    let mode = desk_mode h in
    let fits = openings_fit h (app_of s k) slot is in
    let there = dup_place s k run from to in
    let d : Duplicator =
    opened_at (length h.entries) (desk h).picture_start mode (blank mode.width mode.height)
    (nowhere mode.width mode.height) in
    let e : Entry = entry_of s k (Opened slot (app_of s k)) in
    record {
      legal =
          legal_entered h k s.steps (Opened slot (app_of s k)) run.legal (omega (arith, to, run.kept.few))
          (run.kept.past k) fits.1 fits.0;
      dups = slice_set run.dups (k - 1) (Some d);
      memories =
          memories-set run.dups (k - 1) (Some d)
          ∙ ap (λ (ms : List (Option Memory)). slice_set ms (k - 1) (Some (fresh_memory h (length h.entries))))
          run.memories;
      kept =
          kept_opened h k s.steps slot s.clients run.dups (k - 1) d there run.kept is refl
          (stands_fresh h (length h.entries) (desk h).picture_start mode (blank mode.width mode.height)
          (nowhere mode.width mode.height) refl refl refl refl refl (with_entry h e) (begins-with_entry h e)
          (opens_there h k (s.steps + 1) slot (app_of s k)));
    }

-- ---- after a closing

has_room : (ended full : Bool) (slot : ℕ)
    → (if ended then Err Ended else (if full then Err closings.Full else Ok slot)) ≡ Ok slot
    → (if ended then Some refusals.Ended else (if full && true then Some refusals.Full else None)) ≡ None
has_room true full slot e = cc
has_room false true slot e = cc
has_room false false slot e = refl

-- no cause refuses the entry
closing_allowed : (h : History) (o : Option ℕ) (slot : ℕ) → closing h o ≡ Ok slot → refusal h (Closed slot) ≡ None
closing_allowed h None slot e = cc
closing_allowed h (Some other) slot e =
    has_room (desk h).ended (is_full h) slot
    (e' (closing_granted h (Some other) slot e)) where
      e' : Some other ≡ Some slot
          → (if (desk h).ended then Err Ended else (if is_full h then Err closings.Full else Ok slot)) ≡ Ok slot
      e' same = ap (closing h) (sym same) ∙ e

run_closed : (r : Result ℕ CloseRefusal) (s : State) (k : ℕ)
    → closing s.history (slot_of (memory_of s k) s.history) ≡ r → IsRun s → 1 ≤ k → k ≤ length s.clients
    → IsRun (closing_outcome r s k).1
run_closed (Err cause) s k is run from to = run_counted s run
run_closed (Ok slot) s k is run from to =
    let h = s.history in
    let there = dup_place s k run from to in
    let own = slot_of (memory_of s k) h in
    let found =
    slot_open h s.clients run.dups s.steps (k - 1) slot there run.kept
    (ap (λ (ms : List (Option Memory)). slot_of (slice_index_or ms (k - 1) None) h) run.memories
    ∙ closing_granted h own slot is) in
    record {
      legal =
          legal_entered h k s.steps (Closed slot) run.legal (omega (arith, to, run.kept.few)) (run.kept.past k)
          (closing_allowed h own slot is) (slot_taken h (app_of s k) slot found.1);
      dups = slice_set run.dups (k - 1) None;
      memories =
          memories-set run.dups (k - 1) None
          ∙ ap (λ (ms : List (Option Memory)). slice_set ms (k - 1) None) run.memories;
      kept = kept_closed h k s.steps slot s.clients run.dups (k - 1) there run.kept found.0 found.1;
    }

-- ---- after a call of a duplicator

stands_released : (d : Duplicator) (h : History) → Stands d h → Stands (released d) h
stands_released d h stands = record {
  opened = stands.opened;
  marked = stands.marked;
  pointed = stands.pointed;
  began = stands.began;
  mode = stands.mode;
  hidden = stands.hidden;
  surface = stands.surface;
  lost = stands.lost;
  free = λ _. refl;
  folded = stands.folded;
}

asked_acquire : (lost : Bool) (r : Result Frame DupRefusal) (d : Duplicator) (h : History) → Stands d h
    → is_lost d.memory h ≡ lost → acquire_reply d.memory h ≡ r
    → (new : Duplicator) × Stands new h
    × (new.memory ≡ (if lost then lost_memory d.memory else memory_after d.memory h r))
asked_acquire true r d h stands lost is = (losing d, stands_losing d h stands lost, refl)
asked_acquire false (Err cause) d h stands lost is = (d, stands, refl)
asked_acquire false (Ok f) d h stands lost is = (
  holding d h,
  stands_holding d h stands (kept_parts d h stands lost).0,
  ap (with_frame d.memory (length h.entries))
      (granted_is d.memory h (frame h d.memory.mark d.memory.pointer_mark) f is),
)

asked_release : (lost : Bool) (d : Duplicator) (h : History) → Stands d h → is_lost d.memory h ≡ lost
    → (new : Duplicator) × Stands new h
    × (new.memory ≡ (if lost then lost_memory d.memory else without_frame d.memory))
asked_release true d h stands lost = (losing d, stands_losing d h stands lost, refl)
asked_release false d h stands lost = (released d, stands_released d h stands, refl)

asked_look : (lost : Bool) (d : Duplicator) (h : History) → Stands d h → is_lost d.memory h ≡ lost
    → (new : Duplicator) × Stands new h × (new.memory ≡ (if lost then lost_memory d.memory else d.memory))
asked_look true d h stands lost = (losing d, stands_losing d h stands lost, refl)
asked_look false d h stands lost = (d, stands, refl)

asked_stands : (call : DupCall) (d : Duplicator) (h : History) → Stands d h
    → (new : Duplicator) × Stands new h × (new.memory ≡ (reply call d.memory h).1)
asked_stands asked.Acquire d h stands =
    asked_acquire (is_lost d.memory h) (acquire_reply d.memory h) d h stands refl refl
asked_stands asked.Release d h stands = asked_release (is_lost d.memory h) d h stands refl
asked_stands (asked.Moves buffer) d h stands = asked_look (is_lost d.memory h) d h stands refl
asked_stands (asked.Dirty buffer) d h stands = asked_look (is_lost d.memory h) d h stands refl
asked_stands (asked.Shape buffer) d h stands = asked_look (is_lost d.memory h) d h stands refl
asked_stands asked.Surface d h stands = (d, stands, refl)
asked_stands asked.Desc d h stands = (d, stands, refl)

asked_may : (call : DupCall) (o : Option Duplicator) (h : History) → MayStand o h
    → (new : Option Duplicator) × MayStand new h × (memory new ≡ (client_reply call (memory o) h).1)
asked_may call None h stands = (None, tt, refl)
asked_may call (Some d) h stands =
    let a = asked_stands call d h stands in
    (Some a.0, a.1, ap Some a.2)

-- a client's memory is that of its duplicator
pub memory_there : (s : State) (k : ℕ) (run : IsRun s)
    → memory (slice_index_or run.dups (k - 1) None) ≡ memory_of s k
memory_there s k run =
    sym (get_or-map memory run.dups (k - 1) None)
    ∙ ap (λ (ms : List (Option Memory)). slice_index_or ms (k - 1) None) run.memories

run_asked : (s : State) (k : ℕ) (call : DupCall) → IsRun s → 1 ≤ k → k ≤ length s.clients
    → IsRun (asking_outcome s k call).1
run_asked s k call run from to =
    let h = s.history in
    let there = dup_place s k run from to in
    let o = slice_index_or run.dups (k - 1) None in
    let a = asked_may call o h (run.kept.stand (k - 1)) in
    let slot = slot_asked o a.0 call h (slice_index s.clients (k - 1)) a.2 (run.kept.slots (k - 1)) in
    let new = slice_set run.dups (k - 1) a.0 in
    record {
      legal = run.legal;
      dups = new;
      memories =
          memories-set run.dups (k - 1) a.0
          ∙ ap (slice_set (memories run.dups) (k - 1))
          (a.2 ∙ ap (λ m. (client_reply call m h).1) (memory_there s k run))
          ∙ ap (λ (ms : List (Option Memory)). slice_set ms (k - 1) (client_reply call (memory_of s k) h).1)
          run.memories;
      kept =
          kept_counted h s.clients new s.steps
          (kept_set h s.clients run.dups s.steps (k - 1) a.0 there run.kept a.1 slot.0 slot.1);
    }

-- ---- after a step

run_called : (s : State) (k : ℕ) (call : ClientCall) → IsRun s → 1 ≤ k → k ≤ length s.clients
    → IsRun (call_outcome s k call).1
run_called s k calls.Duplicate run from to = run_opened (opening s.history (app_of s k)) s k refl run from to
run_called s k calls.Close run from to =
    run_closed (closing s.history (slot_of (memory_of s k) s.history)) s k refl run from to
run_called s k (calls.Acquire timeout) run from to = run_asked s k asked.Acquire run from to
run_called s k calls.Release run from to = run_asked s k asked.Release run from to
run_called s k (calls.Moves buffer) run from to = run_asked s k (asked.Moves buffer) run from to
run_called s k (calls.Dirty buffer) run from to = run_asked s k (asked.Dirty buffer) run from to
run_called s k (calls.Shape buffer) run from to = run_asked s k (asked.Shape buffer) run from to
run_called s k calls.Surface run from to = run_asked s k asked.Surface run from to
run_called s k calls.Desc run from to = run_asked s k asked.Desc run from to

pub run_next : (s : State) (t : Step) → IsRun s → IsOfClient (length s.clients) t → IsRun (next s t).1
unfolding next
run_next s (steps.Draw drawing) run client = run_drawn s drawing run
run_next s (steps.Call k call) run client = run_called s k call run client.0 client.1

-- ---- a client's duplicator

-- where there is a memory, a duplicator with it stands on the list
abbrev pub StandsFor : Option Memory → History → Type 0
StandsFor None h = Unit {0}
StandsFor (Some m) h = (d : Duplicator) × (d.memory ≡ m) × Stands d h

stands_by : (o : Option Duplicator) (m : Option Memory) (h : History) → memory o ≡ m → MayStand o h → StandsFor m h
stands_by None None h is stands = tt
stands_by None (Some m) h is stands = cc
stands_by (Some d) None h is stands = tt
stands_by (Some d) (Some m) h is stands = (d, some_injective d.memory m is, stands) where
  some_injective : (a b : Memory) → Some a ≡ Some b → a ≡ b
  some_injective a b e = cc

pub stands_for : (s : State) (k : ℕ) → IsRun s → StandsFor (memory_of s k) s.history
stands_for s k run =
    stands_by (slice_index_or run.dups (k - 1) None) (memory_of s k) s.history (memory_there s k run)
    (run.kept.stand (k - 1))
