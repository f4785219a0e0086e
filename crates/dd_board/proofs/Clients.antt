-- What a client's opening and closing leave.
use Rattle.std.proofs.Common.{◌≡◌, ℕ, ◌+◌, List, [], ◌∷◌, length, take, drop, Option, Some, None, Result, Ok, Err, refl, sym, ap, ◌∙◌, subst, arith, length-append}
use Rattle.std.specs.Prelude.{IsOk}
use mathlib.Core.List.{IsPrefix}
use Rattle.std.proofs.lemmas.List.{take-append-drop, length-take-le}
use Rattle.dd_calls.specs.declared.answers.Answer.{Answer}
use Rattle.dd_calls.specs.declared.answers.Answer.TheVariants as answers
use Rattle.dd_calls.specs.declared.answers.OpenRefusal.{OpenRefusal}
use Rattle.dd_calls.specs.declared.answers.CloseRefusal.{CloseRefusal}
use Rattle.dd_log.specs.declared.events.Spec.{Spec}
use Rattle.dd_log.specs.declared.events.Entry.{Entry}
use Rattle.dd_log.specs.History.{History}
use Rattle.dd_table.specs.Opening.{opening, closing}
use Rattle.dd_dup.specs.Reply.{slot_of}
use Rattle.dd_dup.specs.Stands.{memory}
use Rattle.dd_board.specs.declared.holding.Holding.{Holding}
use Rattle.dd_board.specs.declared.painter.Attempt.TheVariants.{Done}
use Rattle.dd_board.specs.Lists.{listed, at_place}
use Rattle.dd_board.specs.Seats.{Seated, IsCall}
use Rattle.dd_board.specs.Clients.{ClientState}
use Rattle.dd_board.specs.Holding.{held_dup, client_state, MayHold}
use Rattle.dd_board.specs.Opening.{IsOpening, IsClosing, slot_in, IsFresh, opened_answer, held_after, closed_answer, held_closed, held_slot}
use Rattle.dd_board.specs.Openings.{opening_entry, opening_answer, opening_memory, closing_entry, closing_answer, closing_dup}
use Rattle.dd_board.specs.Wanting.{MayGrant}
use Rattle.dd_board.proofs.Prefixes.{prefix_trans}
use Rattle.dd_board.proofs.Standing.{slot_kept, may_hold_later}

-- a seat's view begins with what it was
pub call_begins : (old new : Seated) (place : ℕ) (own : Option Entry) → IsCall old new place own
    → IsPrefix old.view new.view
call_begins old new place own c =
    prefix_trans old.view (take place new.view) new.view c.begins
    (drop place new.view, take-append-drop place new.view)

-- and has one entry more than stood at the place, where the call entered one
one_past : (old new : Seated) (place : ℕ) (e : Entry) → IsCall old new place (Some e) → length new.view ≡ place + 1
one_past old new place e c =
    let long = ap length c.list in
    omega (arith, long, length-append (take place new.view) (e ∷ []), length-take-le place new.view c.within)

-- ---- an opening

pub record Duplicated (spec : Spec) (s : ClientState) (new : Seated) (later : Option Holding) (place step : ℕ)
    (answer : Answer) (told : List Entry) : Type 0 where
  pub holds : MayHold later (listed spec new.view)
  pub answered : answer ≡ opening_answer (opening (at_place spec told place) s.app) place
  pub call : IsCall s.actor new place
      (opening_entry (opening (at_place spec told place) s.app) s.actor.number step s.app)
  pub memory : memory (held_dup later) ≡ opening_memory (opening (at_place spec told place) s.app) (memory s.dup)
      (at_place spec told place) place

opened_told : (r : Result Holding OpenRefusal) (old new : Seated) (place number step app n : ℕ)
    → IsCall old new place (opening_entry (slot_in r) number step app) → n ≡ length new.view
    → opened_answer r n ≡ opening_answer (slot_in r) place
opened_told (Ok x) old new place number step app n c is =
    ap (λ (m : ℕ). answers.Opened m x.slot) (is ∙ one_past old new place _ c)
opened_told (Err cause) old new place number step app n c is = refl

opened_holds : (r : Result Holding OpenRefusal) (held : Option Holding) (spec : Spec) (es later : List Entry)
    (before : History) (place : ℕ) → IsPrefix es later → MayHold held (listed spec es)
    → IsFresh r before place (listed spec later) → MayHold (held_after r held) (listed spec later)
opened_holds (Ok x) held spec es later before place p m f = f.1
opened_holds (Err cause) held spec es later before place p m f = may_hold_later held spec es later p m

opened_memory : (r : Result Holding OpenRefusal) (held : Option Holding) (before : History) (place : ℕ) (h : History)
    → IsFresh r before place h
    → memory (held_dup (held_after r held)) ≡ opening_memory (slot_in r) (memory (held_dup held)) before place
opened_memory (Ok x) held before place h f = ap Some f.0
opened_memory (Err cause) held before place h f = refl

duplicated_here : (spec : Spec) (actor new : Seated) (app step : ℕ) (held later : Option Holding) (door : Option ℕ)
    (place number : ℕ) (r : Result Holding OpenRefusal) (answer : Answer) → MayHold held (listed spec actor.view)
    → IsOpening (Done place r) spec actor new app step → number ≡ length new.view → answer ≡ opened_answer r number
    → later ≡ held_after r held
    → Duplicated spec (client_state actor app held door) new later place step answer new.view
duplicated_here spec actor new app step held later door place number r answer m h n a l =
    let before : History = at_place spec new.view place in
    record {
      holds =
          subst (λ (o : Option Holding). MayHold o (listed spec new.view)) (sym l)
          (opened_holds r held spec actor.view new.view before place (call_begins actor new place _ h.1) m h.2);
      answered =
          a ∙ opened_told r actor new place actor.number step app number h.1 n
          ∙ ap (λ (q : Result ℕ OpenRefusal). opening_answer q place) h.0;
      call =
          subst (λ (q : Result ℕ OpenRefusal). IsCall actor new place (opening_entry q actor.number step app)) h.0
          h.1;
      memory =
          ap (λ (o : Option Holding). memory (held_dup o)) l
          ∙ opened_memory r held before place (listed spec new.view) h.2
          ∙ ap (λ (q : Result ℕ OpenRefusal). opening_memory q (memory (held_dup held)) before place) h.0;
    }

pub duplicated : (spec : Spec) (s : ClientState) (actor new : Seated) (app step : ℕ) (held later : Option Holding)
    (door : Option ℕ) (place number : ℕ) (r : Result Holding OpenRefusal) (answer : Answer) (told : List Entry)
    → client_state actor app held door ≡ s → MayHold held (listed spec actor.view)
    → IsOpening (Done place r) spec actor new app step → number ≡ length new.view → answer ≡ opened_answer r number
    → later ≡ held_after r held → told ≡ new.view → Duplicated spec s new later place step answer told
duplicated spec s actor new app step held later door place number r answer told is m h n a l t =
    subst (λ (x : ClientState). Duplicated spec x new later place step answer told) is
    (subst (λ (x : List Entry). Duplicated spec (client_state actor app held door) new later place step answer x)
    (sym t) (duplicated_here spec actor new app step held later door place number r answer m h n a l))

-- an opening that wanted memory
pub opening_wants : (spec : Spec) (seats : ℕ) (s : ClientState) (actor : Seated) (app step : ℕ) (held : Option Holding)
    (door : Option ℕ) → client_state actor app held door ≡ s
    → MayGrant spec seats actor step (λ h. IsOk (opening h app))
    → MayGrant spec seats s.actor step (λ h. IsOk (opening h s.app))
opening_wants spec seats s actor app step held door is w =
    subst (λ (x : ClientState). MayGrant spec seats x.actor step (λ h. IsOk (opening h x.app))) is w

-- ---- a closing

pub record ClosedBy (spec : Spec) (s : ClientState) (new : Seated) (later : Option Holding) (place step : ℕ)
    (answer : Answer) (told : List Entry) : Type 0 where
  pub holds : MayHold later (listed spec new.view)
  pub answered :
      answer
      ≡ closing_answer (closing (at_place spec told place) (slot_of (memory s.dup) (at_place spec told place))) place
  pub call : IsCall s.actor new place
      (closing_entry (closing (at_place spec told place) (slot_of (memory s.dup) (at_place spec told place)))
      s.actor.number step)
  pub dup :
      held_dup later
      ≡ closing_dup (closing (at_place spec told place) (slot_of (memory s.dup) (at_place spec told place))) s.dup

slot_is : (o : Option Holding) (spec : Spec) (xs ys : List Entry) → IsPrefix xs ys → MayHold o (listed spec xs)
    → held_slot o ≡ slot_of (memory (held_dup o)) (listed spec ys)
slot_is None spec xs ys p m = refl
slot_is (Some x) spec xs ys p m = sym (slot_kept xs ys x.dup.memory.opened x.slot p m.1)

closed_told : (r : Result ℕ CloseRefusal) (old new : Seated) (place number step n : ℕ)
    → IsCall old new place (closing_entry r number step) → n ≡ length new.view
    → closed_answer r n ≡ closing_answer r place
closed_told (Ok slot) old new place number step n c is = ap answers.Closed (is ∙ one_past old new place _ c)
closed_told (Err cause) old new place number step n c is = refl

closed_holds : (r : Result ℕ CloseRefusal) (held : Option Holding) (spec : Spec) (es later : List Entry)
    → IsPrefix es later → MayHold held (listed spec es) → MayHold (held_closed r held) (listed spec later)
closed_holds (Ok slot) held spec es later p m = tt
closed_holds (Err cause) held spec es later p m = may_hold_later held spec es later p m

closed_dup : (r : Result ℕ CloseRefusal) (held : Option Holding)
    → held_dup (held_closed r held) ≡ closing_dup r (held_dup held)
closed_dup (Ok slot) held = refl
closed_dup (Err cause) held = refl

closed_here : (spec : Spec) (actor new : Seated) (app step : ℕ) (held later : Option Holding) (door : Option ℕ)
    (place number : ℕ) (r : Result ℕ CloseRefusal) (answer : Answer) → MayHold held (listed spec actor.view)
    → IsClosing (Done place r) spec actor new (held_slot held) step → number ≡ length new.view
    → answer ≡ closed_answer r number → later ≡ held_closed r held
    → ClosedBy spec (client_state actor app held door) new later place step answer new.view
closed_here spec actor new app step held later door place number r answer m h n a l =
    let before : History = at_place spec new.view place in
    let told : r ≡ closing before (slot_of (memory (held_dup held)) before) =
    h.0 ∙ ap (closing before) (slot_is held spec actor.view (take place new.view) h.1.begins m) in
    record {
      holds =
          subst (λ (o : Option Holding). MayHold o (listed spec new.view)) (sym l)
          (closed_holds r held spec actor.view new.view (call_begins actor new place _ h.1) m);
      answered =
          a ∙ closed_told r actor new place actor.number step number h.1 n
          ∙ ap (λ (q : Result ℕ CloseRefusal). closing_answer q place) told;
      call =
          subst (λ (q : Result ℕ CloseRefusal). IsCall actor new place (closing_entry q actor.number step)) told h.1;
      dup =
          ap held_dup l ∙ closed_dup r held
          ∙ ap (λ (q : Result ℕ CloseRefusal). closing_dup q (held_dup held)) told;
    }

pub closed_by : (spec : Spec) (s : ClientState) (actor new : Seated) (app step : ℕ) (held later : Option Holding)
    (door : Option ℕ) (place number : ℕ) (r : Result ℕ CloseRefusal) (answer : Answer) (told : List Entry)
    (asked : Option ℕ) → client_state actor app held door ≡ s → MayHold held (listed spec actor.view)
    → asked ≡ held_slot held → IsClosing (Done place r) spec actor new asked step → number ≡ length new.view
    → answer ≡ closed_answer r number → later ≡ held_closed r held → told ≡ new.view
    → ClosedBy spec s new later place step answer told
closed_by spec s actor new app step held later door place number r answer told asked is m q h n a l t =
    let own = subst (λ (o : Option ℕ). IsClosing (Done place r) spec actor new o step) q h in
    subst (λ (x : ClientState). ClosedBy spec x new later place step answer told) is
    (subst (λ (x : List Entry). ClosedBy spec (client_state actor app held door) new later place step answer x)
    (sym t) (closed_here spec actor new app step held later door place number r answer m own n a l))

-- a closing that wanted memory, on a list that the client's slot is asked of
closing_wants_here : (spec : Spec) (seats : ℕ) (actor : Seated) (step : ℕ) (held : Option Holding)
    → MayHold held (listed spec actor.view)
    → MayGrant spec seats actor step (λ h. IsOk (closing h (held_slot held)))
    → MayGrant spec seats actor step (λ h. IsOk (closing h (slot_of (memory (held_dup held)) h)))
closing_wants_here spec seats actor step held m w =
    record {
      entries = w.entries;
      legal = w.legal;
      seated = w.seated;
      fits = w.fits;
      granted =
          subst (λ (o : Option ℕ). IsOk (closing (listed spec w.entries) o))
          (slot_is held spec actor.view w.entries w.fits.0 m) w.granted;
    }

pub closing_wants : (spec : Spec) (seats : ℕ) (s : ClientState) (actor : Seated) (app step : ℕ) (held : Option Holding)
    (door : Option ℕ) (asked : Option ℕ) → client_state actor app held door ≡ s
    → MayHold held (listed spec actor.view) → asked ≡ held_slot held
    → MayGrant spec seats actor step (λ h. IsOk (closing h asked))
    → MayGrant spec seats s.actor step (λ h. IsOk (closing h (slot_of (memory s.dup) h)))
closing_wants spec seats s actor app step held door asked is m q w =
    let own = subst (λ (o : Option ℕ). MayGrant spec seats actor step (λ h. IsOk (closing h o))) q w in
    subst (λ (x : ClientState). MayGrant spec seats x.actor step (λ h. IsOk (closing h (slot_of (memory x.dup) h)))) is
    (closing_wants_here spec seats actor step held m own)
