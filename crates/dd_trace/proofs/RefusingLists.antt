-- A drawing, an opening and a closing are refused by the first cause that stands.
use Rattle.std.proofs.Common.{◌≡◌, ℕ, ◌+◌, ◌-◌, Bool, true, false, ◌&&◌, ◌||◌, not, if◌then◌else◌, nat_lt, List, [], ◌∷◌, length, Option, Some, None, Ok, Err, refl, sym, ap, ◌∙◌}
use Rattle.std.specs.Prelude.{nat_le, is_none, is_some, option_map, unwrap_or, position, slice_index, slice_index_or}
use Rattle.std.specs.List.{list_any}
use Rattle.dd_calls.specs.declared.answers.Answer.TheVariants.{NotDrawn, NotOpened, NotClosed}
use Rattle.dd_log.specs.declared.refusal.LogRefusal.{LogRefusal}
use Rattle.dd_log.specs.declared.refusal.LogRefusal.TheVariants as undrawn
use Rattle.dd_calls.specs.declared.answers.OpenRefusal.TheVariants as unopened
use Rattle.dd_calls.specs.declared.answers.CloseRefusal.TheVariants as unclosed
use Rattle.dd_log.specs.declared.events.Draw.{Draw}
use Rattle.dd_log.specs.declared.events.Draw.TheVariants as drawings
use Rattle.dd_log.specs.Desk.{is_app}
use Rattle.dd_log.specs.History.{History, desk, desk_mode, any_ends, is_full, bad_draw}
use Rattle.dd_log.specs.Slots.{slot_at}
use Rattle.dd_log.proofs.Legal.{end_last}
use Rattle.dd_table.specs.Opening.{opening, closing, is_denied, is_duplicating, least_free}
use Rattle.dd_dup.specs.Reply.{Memory}
use Rattle.dd_dup.specs.Duplicator.{Duplicator}
use Rattle.dd_station.specs.Run.{State, app_of, memory_of, draw_answer, draw_outcome, opening_outcome, closing_outcome}
use Rattle.dd_dup.specs.Reply.{slot_of}
use Rattle.dd_dup.specs.Stands.{memory}
use Rattle.dd_station.specs.Station.{HasSlot}
use Rattle.dd_trace.specs.Causes.{Cause, cause, first_of, names_no_mode, first_misfit, draw_causes, open_causes, close_causes}
use Rattle.dd_calls.specs.Parts.{refusal_in}
use Rattle.dd_trace.proofs.Running.{IsRun, memory_there}
use Rattle.dd_trace.proofs.Finding.{less-not, any-found, none-free}

-- ---- a drawing

-- what a drawing by itself is refused for
abbrev misfit_causes : Bool → Option ℕ → List Cause
misfit_causes names misfit =
    cause names (NotDrawn undrawn.BadMode)
    ∷ cause (is_some misfit) (NotDrawn (undrawn.BadRect (unwrap_or misfit 0))) ∷ []

misfit_first : (names : Bool) (misfit : Option ℕ) (n : ℕ)
    → refusal_in (draw_answer (if names then Some undrawn.BadMode else option_map undrawn.BadRect misfit) n)
    ≡ first_of (misfit_causes names misfit)
misfit_first true misfit n = refl
misfit_first false None n = refl
misfit_first false (Some op) n = refl

draw_first : (ended full : Bool) (bad : Option LogRefusal) (names : Bool) (misfit : Option ℕ) (n : ℕ)
    → bad ≡ (if names then Some undrawn.BadMode else option_map undrawn.BadRect misfit)
    → refusal_in
    (draw_answer (if ended then Some undrawn.Ended else (if full && true then Some undrawn.Full else bad)) n)
    ≡ first_of
    (cause ended (NotDrawn undrawn.Ended) ∷ cause full (NotDrawn undrawn.Full) ∷ misfit_causes names misfit)
draw_first true full bad names misfit n e = refl
draw_first false true bad names misfit n e = refl
draw_first false false bad names misfit n e =
    ap (λ (b : Option LogRefusal). refusal_in (draw_answer b n)) e ∙ misfit_first names misfit n

unless : (less more : Bool) (why : LogRefusal) → less ≡ not more
    → (if less then None else Some why) ≡ (if more then Some why else None)
unless less true why e = ap (λ (b : Bool). if b then None else Some why) e
unless less false why e = ap (λ (b : Bool). if b then None else Some why) e

bad_is : (h : History) (d : Draw)
    → bad_draw h.spec.modes (desk_mode h) d
    ≡ (if names_no_mode h d then Some undrawn.BadMode else option_map undrawn.BadRect (first_misfit (desk_mode h) d))
bad_is h (drawings.Present ops) = refl
bad_is h (drawings.Pointer position visible) = refl
bad_is h (drawings.Shape shape) = refl
bad_is h (drawings.Mode index) =
    unless (nat_lt index (length h.spec.modes)) (nat_le (length h.spec.modes) index) undrawn.BadMode
    (less-not index (length h.spec.modes))
bad_is h (drawings.Switch secure) = refl
bad_is h drawings.Disconnect = refl
bad_is h drawings.Reconnect = refl

pub draw_refused : (s : State) (d : Draw) → refusal_in (draw_outcome s d).0 ≡ first_of (draw_causes s.history d)
draw_refused s d =
    let h = s.history in
    draw_first (desk h).ended (is_full h) (bad_draw h.spec.modes (desk_mode h) d) (names_no_mode h d)
    (first_misfit (desk_mode h) d) (length h.entries + 1) (bad_is h d)
    ∙ ap
    (λ (b : Bool). first_of
    (cause b (NotDrawn undrawn.Ended) ∷ cause (is_full h) (NotDrawn undrawn.Full)
    ∷ misfit_causes (names_no_mode h d) (first_misfit (desk_mode h) d)))
    (end_last h).0

-- ---- an opening

abbrev opening_causes : Bool → Bool → Bool → Bool → Bool → List Cause
opening_causes away denied one four full =
    cause away (NotOpened unopened.SessionDisconnected) ∷ cause denied (NotOpened unopened.AccessDenied)
    ∷ cause one (NotOpened unopened.AlreadyDuplicating) ∷ cause four (NotOpened unopened.NotAvailable)
    ∷ cause full (NotOpened unopened.Full) ∷ []

free_first : (slot : Option ℕ) (full : Bool) (s : State) (k : ℕ) → is_full s.history ≡ full
    → refusal_in (opening_outcome (least_free slot s.history) s k).0
    ≡ first_of (cause (is_none slot) (NotOpened unopened.NotAvailable) ∷ cause full (NotOpened unopened.Full) ∷ [])
free_first None full s k is = refl
free_first (Some slot) true s k is =
    ap (λ (b : Bool). refusal_in (opening_outcome (if b then Err unopened.Full else Ok slot) s k).0) is
free_first (Some slot) false s k is =
    ap (λ (b : Bool). refusal_in (opening_outcome (if b then Err unopened.Full else Ok slot) s k).0) is

open_first : (away denied one : Bool) (slot : Option ℕ) (s : State) (k : ℕ)
    → refusal_in
    (opening_outcome
    (if away then Err unopened.SessionDisconnected
    else (if denied then Err unopened.AccessDenied
    else (if one then Err unopened.AlreadyDuplicating else least_free slot s.history))) s k).0
    ≡ first_of (opening_causes away denied one (is_none slot) (is_full s.history))
open_first true denied one slot s k = refl
open_first false true one slot s k = refl
open_first false false true slot s k = refl
open_first false false false slot s k = free_first slot (is_full s.history) s k refl

pub open_refused : (s : State) (k : ℕ)
    → refusal_in (opening_outcome (opening s.history (app_of s k)) s k).0
    ≡ first_of (open_causes s.history (app_of s k))
open_refused s k =
    let h = s.history in
    let app = app_of s k in
    let free = position is_none (desk h).slots in
    open_first (not (desk h).connected || (desk h).ended) (is_denied h app) (is_duplicating h app) free s k
    ∙ ap
    (λ (b : Bool). first_of
    (opening_causes (not (desk h).connected || b) (is_denied h app) (is_duplicating h app) (is_none free)
    (is_full h)))
    (end_last h).0
    ∙ ap
    (λ (b : Bool). first_of
    (opening_causes (not (desk h).connected || any_ends h.entries) (is_denied h app) b (is_none free) (is_full h)))
    (any-found (is_app app) (desk h).slots)
    ∙ ap
    (λ (b : Bool). first_of
    (opening_causes (not (desk h).connected || any_ends h.entries) (is_denied h app)
    (list_any (is_app app) (desk h).slots) b (is_full h)))
    (none-free (desk h).slots)

-- ---- a closing

-- the slot of a client's duplicator is there
slot_stands : (o : Option Duplicator) (d : Memory) (h : History) (app : ℕ) → memory o ≡ Some d → HasSlot o h app
    → (slot : ℕ) × (slot_at h d.opened ≡ Some slot)
slot_stands None d h app e has = cc
slot_stands (Some x) d h app e has =
    (has.slot, ap (slot_at h) (sym (same x.memory d e)) ∙ has.opened) where
      same : (a b : Memory) → Some a ≡ Some b → a.opened ≡ b.opened
      same a b e = cc

close_first : (ended full : Bool) (slot : ℕ) (s : State) (k : ℕ)
    → refusal_in
    (closing_outcome (if ended then Err unclosed.Ended else (if full then Err unclosed.Full else Ok slot)) s k).0
    ≡ first_of
    (cause false (NotClosed unclosed.NoDuplicator) ∷ cause ended (NotClosed unclosed.Ended)
    ∷ cause full (NotClosed unclosed.Full) ∷ [])
close_first true full slot s k = refl
close_first false true slot s k = refl
close_first false false slot s k = refl

close_of : (o : Option Memory) (s : State) (k : ℕ) → memory_of s k ≡ o → IsRun s
    → refusal_in (closing_outcome (closing s.history (slot_of o s.history)) s k).0
    ≡ first_of (close_causes s.history o)
close_of None s k is run = refl
close_of (Some d) s k is run =
    let h = s.history in
    let found =
    slot_stands (slice_index_or run.dups (k - 1) None) d h (slice_index s.clients (k - 1))
    (memory_there s k run ∙ is) (run.kept.slots (k - 1)) in
    ap (λ (o : Option ℕ). refusal_in (closing_outcome (closing h o) s k).0) found.1
    ∙ close_first (desk h).ended (is_full h) found.0 s k
    ∙ ap
    (λ (b : Bool). first_of
    (cause false (NotClosed unclosed.NoDuplicator) ∷ cause b (NotClosed unclosed.Ended)
    ∷ cause (is_full h) (NotClosed unclosed.Full) ∷ []))
    (end_last h).0

pub close_refused : (s : State) (k : ℕ) → IsRun s
    → refusal_in (closing_outcome (closing s.history (slot_of (memory_of s k) s.history)) s k).0
    ≡ first_of (close_causes s.history (memory_of s k))
close_refused s k run = close_of (memory_of s k) s k refl run
