-- What entries do to the slots that are open.
use Rattle.std.proofs.Common.{◌≡◌, ◌≢◌, ℕ, suc, zero, ◌<◌, ◌≤◌, Bool, true, false, cond, List, [], ◌∷◌, ◌++◌, length, get_or, set, Option, Some, None, refl, sym, ap, ◌∙◌, arith, nat_lt}
use Rattle.std.specs.Prelude.{is_none, is_some, position, slice_get, Ok}
use Rattle.std.specs.List.{position_or_len}
use Rattle.std.proofs.Math.ListN.{length-set}
use Rattle.std.proofs.lemmas.Bool.{eq-eqb, eqb-true, ne_eqb, lt-ltb}
use Rattle.std.proofs.lemmas.List.{get_or-set_same, get_or-set_other}
use Rattle.std.proofs.lemmas.List.Folds.{position_or_len-set}
use Rattle.std.proofs.lemmas.List.Sums.{position_or_len_is, fails_before_first}
use Rattle.std.proofs.lemmas.List.Quantifiers.{position-Some}
use Rattle.std.proofs.lemmas.Option.{slice_get-get_or}
use Rattle.dd_log.specs.declared.events.Entry.{Entry}
use Rattle.dd_log.specs.declared.events.Draw.{Draw}
use Rattle.dd_log.specs.declared.events.Event.TheVariants.{Opened, Closed}
use Rattle.dd_log.specs.declared.events.Event.TheVariants as events
use Rattle.dd_log.specs.Desk.{is_app, is_taken, finds_slot, slots_after}
use Rattle.dd_log.specs.History.{History, desk, with_entry}
use Rattle.dd_log.specs.Slots.{slot_opened, entry_slot}
use Rattle.dd_log.proofs.Desks.{slots-push}
use Rattle.dd_table.specs.Opening.{opening}
use Rattle.dd_table.specs.Slots.{IsOpenFor}
use Rattle.dd_table.proofs.Openings.{granted, none_before}

abbrev slots : History → List (Option ℕ)
slots h = (desk h).slots

-- an element that fails a test, with another in its place that fails it
position-set : {A : Type 0} (p : A → Bool) (xs : List A) (i : ℕ) (y d : A) → p y ≡ p (get_or xs i d)
    → position p (set xs i y) ≡ position p xs
position-set p xs i y d e =
    ap (λ l. cond (nat_lt (position_or_len p (set xs i y)) l) (Some (position_or_len p (set xs i y))) None)
    (length-set xs i y)
    ∙ ap (λ n. cond (nat_lt n (length xs)) (Some n) None) (position_or_len-set p xs i y d e)

-- where none passes a test, the one that is put in is the first that does
position_put : {A : Type 0} (p : A → Bool) (xs : List A) (i : ℕ) (y d : A) → length xs ≤ position_or_len p xs
    → i < length xs → p y ≡ true → position p (set xs i y) ≡ Some i
position_put p xs i y d none i_in passes =
    let same : length (set xs i y) ≡ length xs = length-set xs i y in
    let first : position_or_len p (set xs i y) ≡ i =
    position_or_len_is p (set xs i y) i d (omega arith)
    (λ k (k_in : k < i). ap p (get_or-set_other xs i k y d (λ (e : k ≡ i). absurd (omega arith)))
    ∙ fails_before_first p xs k d (omega arith))
    (λ _. ap p (get_or-set_same xs i y d i_in) ∙ passes) in
    ap (λ n. cond (nat_lt n (length (set xs i y))) (Some n) None) first
    ∙ ap (λ b. cond b (Some i) None) (lt-ltb i (length (set xs i y)) (omega arith))

-- a slot is one application's
apart_of : (x : Option ℕ) (app other : ℕ) → app ≢ other → is_app other x ≡ true → is_app app x ≡ false
apart_of None app other apart e = cc
apart_of (Some a) app other apart e =
    let is : a ≡ other = eqb-true a other e in ne_eqb a app (λ (same : a ≡ app). apart (sym same ∙ is))

free_of : (x : Option ℕ) (app : ℕ) → is_none x ≡ true → is_app app x ≡ false
free_of None app e = refl
free_of (Some a) app e = cc

taken_of : (x : Option ℕ) (app : ℕ) → is_app app x ≡ true → is_taken (Some x) ≡ true
taken_of None app e = cc
taken_of (Some a) app e = refl

-- the open slot of an application may be closed
pub slot_taken : (h : History) (app slot : ℕ) → position (is_app app) (slots h) ≡ Some slot
    → finds_slot (slots h) (Closed slot) ≡ true
slot_taken h app slot stands =
    let s = position-Some (is_app app) (slots h) slot None stands in
    ap is_taken (slice_get-get_or (slots h) slot None s.0) ∙ taken_of (get_or (slots h) slot None) app s.1

-- an entry at a place stays there
slot_before : (es : List Entry) (place : ℕ) (e : Entry) (slot : ℕ) → entry_slot (slice_get es place) ≡ Some slot
    → entry_slot (slice_get (es ++ e ∷ []) place) ≡ Some slot
slot_before [] place e slot is = cc
slot_before (x ∷ es) zero e slot is = is
slot_before (x ∷ es) (suc place) e slot is = slot_before es place e slot is

slot_last : (es : List Entry) (e : Entry) → entry_slot (slice_get (es ++ e ∷ []) (length es)) ≡ slot_opened e.event
slot_last [] e = refl
slot_last (x ∷ es) e = slot_last es e

-- where an entry leaves the application's slot as it is
beside : (h : History) (e : Entry) (place app : ℕ)
    → position (is_app app) (slots_after (slots h) e.event) ≡ position (is_app app) (slots h)
    → IsOpenFor h place app → IsOpenFor (with_entry h e) place app
beside h e place app same o = record {
  slot = o.slot;
  opened = slot_before h.entries place e o.slot o.opened;
  stands = ap (position (is_app app)) (slots-push h.spec.modes h.entries e) ∙ same ∙ o.stands;
}

-- a drawing does
pub open_drawn : (h : History) (actor step : ℕ) (drawing : Draw) (place app : ℕ) → IsOpenFor h place app
    → IsOpenFor (with_entry h (record { actor = actor; step = step; event = events.Draw drawing })) place app
open_drawn h actor step drawing place app o =
    beside h (record { actor = actor; step = step; event = events.Draw drawing }) place app refl o

-- where an opening is granted, no slot is open for the application
pub not_another : (h : History) (other slot place app : ℕ) → opening h other ≡ Ok slot → IsOpenFor h place app
    → app ≢ other
not_another h other slot place app e o same =
    let none : is_some (position (is_app other) (slots h)) ≡ false = (granted h other slot e).apart in
    let some : position (is_app other) (slots h) ≡ Some o.slot =
    ap (λ a. position (is_app a) (slots h)) (sym same) ∙ o.stands in
    let yes : is_some (position (is_app other) (slots h)) ≡ true = ap is_some some in
    cc

-- and so does the opening for another application
pub open_beside_opening : (h : History) (actor step slot other place app : ℕ) → opening h other ≡ Ok slot
    → IsOpenFor h place app
    → IsOpenFor (with_entry h (record { actor = actor; step = step; event = Opened slot other })) place app
open_beside_opening h actor step slot other place app e o =
    let g = granted h other slot e in
    let free = position-Some is_none (slots h) slot None g.free in
    let apart = not_another h other slot place app e o in
    beside h (record { actor = actor; step = step; event = Opened slot other }) place app
    (position-set (is_app app) (slots h) slot (Some other) None
    (ne_eqb other app (λ (same : other ≡ app). apart (sym same))
    ∙ sym (free_of (get_or (slots h) slot None) app free.1))) o

-- the closing of another application's slot
pub open_beside_closing : (h : History) (actor step slot other place app : ℕ)
    → position (is_app other) (slots h) ≡ Some slot → app ≢ other → IsOpenFor h place app
    → IsOpenFor (with_entry h (record { actor = actor; step = step; event = Closed slot })) place app
open_beside_closing h actor step slot other place app stands apart o =
    let s = position-Some (is_app other) (slots h) slot None stands in
    beside h (record { actor = actor; step = step; event = Closed slot }) place app
    (position-set (is_app app) (slots h) slot None None
    (sym (apart_of (get_or (slots h) slot None) app other apart s.1))) o

-- an opening opens its slot
pub open_opened : (h : History) (actor step slot app : ℕ) → opening h app ≡ Ok slot
    → IsOpenFor (with_entry h (record { actor = actor; step = step; event = Opened slot app })) (length h.entries) app
open_opened h actor step slot app e =
    let g = granted h app slot e in
    let free = position-Some is_none (slots h) slot None g.free in
    let entry : Entry = record { actor = actor; step = step; event = Opened slot app } in
    record {
      slot = slot;
      opened = slot_last h.entries entry;
      stands =
          ap (position (is_app app)) (slots-push h.spec.modes h.entries entry)
          ∙ position_put (is_app app) (slots h) slot (Some app) None (none_before (is_app app) (slots h) g.apart) free.0
          (eq-eqb app app refl);
    }
