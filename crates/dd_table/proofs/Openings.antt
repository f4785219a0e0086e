-- What granted openings and closings say of the list.
use Rattle.std.proofs.Common.{◌≡◌, ℕ, ◌+◌, ◌≤◌, Bool, true, false, not, cond, List, [], ◌∷◌, length, get_or, Option, Some, None, refl, ap, ◌∙◌, if◌then◌else◌, arith, nat_lt, ◌&&◌, ◌||◌}
use Rattle.std.specs.Prelude.{is_none, is_some, position, Result, Ok, Err}
use Rattle.std.specs.List.{list_any, position_or_len}
use Rattle.std.proofs.lemmas.Bool.{and_from, ltb-false}
use Rattle.std.proofs.lemmas.List.Quantifiers.{position-Some}
use Rattle.std.proofs.lemmas.Option.{slice_get-get_or}
use Rattle.dd_log.specs.declared.events.Event.TheVariants.{Opened}
use Rattle.dd_calls.specs.declared.answers.OpenRefusal.{OpenRefusal}
use Rattle.dd_log.specs.declared.refusal.LogRefusal.TheVariants as refusals
use Rattle.dd_log.specs.Desk.{is_app, is_free, finds_slot}
use Rattle.dd_log.specs.History.{History, desk, is_full}
use Rattle.dd_calls.specs.declared.answers.CloseRefusal.TheVariants.{Ended}
use Rattle.dd_calls.specs.declared.answers.CloseRefusal.TheVariants as closings
use Rattle.dd_table.specs.Opening.{opening, closing, is_away, is_denied, is_duplicating, least_free, OpeningsFit}

-- where a cause comes first and the answer isn't it, it doesn't stand
passes : {A : Type 0} (b : Bool) (cause : OpenRefusal) (r : Result A OpenRefusal) (x : A)
    → (if b then Err cause else r) ≡ Ok x → (b ≡ false) × (r ≡ Ok x)
passes true cause r x e = cc
passes false cause r x e = (refl, e)

-- what a granted opening found
pub record Granted (h : History) (app slot : ℕ) : Type 0 where
  pub here : is_away h ≡ false
  pub apart : is_duplicating h app ≡ false
  pub free : position is_none (desk h).slots ≡ Some slot
  pub room : is_full h ≡ false

granted_free : (h : History) (found : Option ℕ) (slot : ℕ) → least_free found h ≡ Ok slot
    → (found ≡ Some slot) × (is_full h ≡ false)
granted_free h None slot e = cc
granted_free h (Some other) slot e = let p = passes (is_full h) _ (Ok other) slot e in (cc, p.0)

pub granted : (h : History) (app slot : ℕ) → opening h app ≡ Ok slot → Granted h app slot
granted h app slot e =
    let away = passes (is_away h) _ _ slot e in
    let denied = passes (is_denied h app) _ _ slot away.1 in
    let duplicating = passes (is_duplicating h app) _ _ slot denied.1 in
    let f = granted_free h (position is_none (desk h).slots) slot duplicating.1 in
    record { here = away.0; apart = duplicating.0; free = f.0; room = f.1 }

-- none has the application
none_step : {A : Type 0} (p : A → Bool) (x : A) (xs : List A) (n : ℕ) (b : Bool) → p x ≡ b
    → (length xs ≤ n → list_any p xs ≡ false) → length (x ∷ xs) ≤ cond (not (p x)) (1 + n) 0
    → list_any p (x ∷ xs) ≡ false
none_step p x xs n true e ih h = let k = rw e at h in absurd (omega arith)
none_step p x xs n false e ih h = let k = rw e at h in rw e (ih (omega arith))

none_passes : {A : Type 0} (p : A → Bool) (xs : List A) → length xs ≤ position_or_len p xs → list_any p xs ≡ false
none_passes p [] h = refl
none_passes p (x ∷ xs) h = none_step p x xs (position_or_len p xs) (p x) refl (none_passes p xs) h

found_none : (b : Bool) (n : ℕ) → is_some (cond b (Some n) None) ≡ false → b ≡ false
found_none true n e = cc
found_none false n e = refl

pub none_before : {A : Type 0} (p : A → Bool) (xs : List A) → is_some (position p xs) ≡ false
    → length xs ≤ position_or_len p xs
none_before p xs e =
    ltb-false _ _ (found_none (nat_lt (position_or_len p xs) (length xs)) (position_or_len p xs) e)

none_any : {A : Type 0} (p : A → Bool) (xs : List A) → is_some (position p xs) ≡ false → list_any p xs ≡ false
none_any p xs e = none_passes p xs (none_before p xs e)

free_slot : (s : Option ℕ) → is_none s ≡ true → is_free (Some s) ≡ true
free_slot None e = refl
free_slot (Some app) e = e

-- the least free slot is found, where none is open for the application
pub finds : (h : History) (app slot : ℕ) → is_duplicating h app ≡ false → position is_none (desk h).slots ≡ Some slot
    → finds_slot (desk h).slots (Opened slot app) ≡ true
finds h app slot apart free =
    let s = position-Some is_none (desk h).slots slot None free in
    and_from _ _
    (ap is_free (slice_get-get_or (desk h).slots slot None s.0) ∙ free_slot (get_or (desk h).slots slot None) s.1)
    (ap not (none_any (is_app app) (desk h).slots apart))

-- neither an end nor a want of room refuses it
goes_on : (connected ended : Bool) → (not connected || ended) ≡ false → ended ≡ false
goes_on true ended e = e
goes_on false ended e = cc

has_room : (ended full : Bool) → ended ≡ false → full ≡ false
    → (if ended then Some refusals.Ended else (if full && true then Some refusals.Full else None)) ≡ None
has_room false false e f = refl
has_room false true e f = cc
has_room true full e f = cc

pub openings_fit : OpeningsFit
openings_fit h app slot e =
    let g = granted h app slot e in (
      finds h app slot g.apart g.free,
      has_room (desk h).ended (is_full h) (goes_on (desk h).connected (desk h).ended g.here) g.room,
    )

-- nor has the list ended then
pub opening_goes_on : (h : History) (app slot : ℕ) → opening h app ≡ Ok slot → (desk h).ended ≡ false
opening_goes_on h app slot e = goes_on (desk h).connected (desk h).ended (granted h app slot e).here

-- a closing that is granted is of the slot that was given
pub closing_granted : (h : History) (o : Option ℕ) (slot : ℕ) → closing h o ≡ Ok slot → o ≡ Some slot
closing_granted h None slot e = cc
closing_granted h (Some other) slot e = own (desk h).ended (is_full h) e where
  own : (ended full : Bool) → (if ended then Err Ended else (if full then Err closings.Full else Ok other)) ≡ Ok slot
      → Some other ≡ Some slot
  own true full e = cc
  own false true e = cc
  own false false e = cc
