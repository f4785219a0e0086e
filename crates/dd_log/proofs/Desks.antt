-- The desk after one entry more, part by part, and what its parts tell of the entries.
use Rattle.std.proofs.Common.{◌≡◌, ℕ, ◌+◌, ◌-◌, ◌<◌, ◌||◌, Bool, true, false, List, [], ◌∷◌, ◌++◌, length, drop, get_or, set, nat_lt, eqb, sym, ap, ◌∙◌, refl, arith, if◌then◌else◌, ◌==◌}
use Rattle.std.specs.Prelude.{slice_index_or, slice_get, None}
use Rattle.std.proofs.lemmas.Bool.{cases_eq, eq-eqb, ne_eqb, cond-true, cond-false}
use Rattle.std.proofs.lemmas.List.{get_or-set_same, get_or-set_other, get_or-replicate, length-set, length-replicate, length_push}
use Rattle.std.proofs.lemmas.List.Sums.{fold_push}
use Rattle.std.proofs.Math.Logic.{⊎_elim}
use Rattle.dd_modes.specs.declared.modes.Mode.{Mode}
use Rattle.dd_log.specs.declared.desk.Desk.{Desk}
use Rattle.dd_log.specs.declared.events.Entry.{Entry}
use Rattle.dd_log.specs.declared.events.Event.{Event}
use Rattle.dd_log.specs.declared.events.TheConstants.{MAX_ACTORS}
use Rattle.dd_log.specs.Events.{begins_picture, cuts_off, is_present, is_pointing, has_shape, is_end, any_cuts_off, any_presents, any_points, any_ends, shape_at, last_present, last_pointed, last_shape}
use Rattle.dd_log.specs.Desk.{first_desk, desk_after, desk_of, mode_after, slots_after, place_after}
use Rattle.dd_log.specs.History.{last_step}
use Rattle.dd_log.proofs.Snoc.{by_snoc, any_push, Marks, Tells, tells}
use Rattle.dd_log.proofs.Lasts.{number_tells, shape_tells, no_shape}

-- one entry more
pub desk-push : (ms : List Mode) (es : List Entry) (e : Entry)
    → desk_of ms (es ++ e ∷ []) ≡ desk_after ms (desk_of ms es) e
unfolding desk_of
desk-push ms es e = fold_push (desk_after ms) (first_desk ms) es e

pub len-push : (ms : List Mode) (es : List Entry) (e : Entry)
    → (desk_of ms (es ++ e ∷ [])).len ≡ (desk_of ms es).len + 1
unfolding desk_after
len-push ms es e = ap (λ (d : Desk). d.len) (desk-push ms es e)

pub mode-push : (ms : List Mode) (es : List Entry) (e : Entry)
    → (desk_of ms (es ++ e ∷ [])).mode ≡ mode_after ms (desk_of ms es).mode e.event
unfolding desk_after
mode-push ms es e = ap (λ (d : Desk). d.mode) (desk-push ms es e)

pub ended-push : (ms : List Mode) (es : List Entry) (e : Entry)
    → (desk_of ms (es ++ e ∷ [])).ended ≡ ((desk_of ms es).ended || is_end e.event)
unfolding desk_after
ended-push ms es e = ap (λ (d : Desk). d.ended) (desk-push ms es e)

pub slots-push : (ms : List Mode) (es : List Entry) (e : Entry)
    → (desk_of ms (es ++ e ∷ [])).slots ≡ slots_after (desk_of ms es).slots e.event
unfolding desk_after
slots-push ms es e = ap (λ (d : Desk). d.slots) (desk-push ms es e)

pub steps-push : (ms : List Mode) (es : List Entry) (e : Entry)
    → (desk_of ms (es ++ e ∷ [])).steps ≡ set (desk_of ms es).steps e.actor e.step
unfolding desk_after
steps-push ms es e = ap (λ (d : Desk). d.steps) (desk-push ms es e)

-- its length is that of the list
pub len_tells : (ms : List Mode) (es : List Entry) → (desk_of ms es).len ≡ length es
unfolding desk_of first_desk
len_tells ms es =
    by_snoc (λ (xs : List Entry). (desk_of ms xs).len ≡ length xs) refl
    (λ (xs : List Entry) (x : Entry) (is : (desk_of ms xs).len ≡ length xs).
    len-push ms xs x ∙ ap (λ n. n + 1) is ∙ sym (length_push xs x)) es

-- a place after the last entry of a kind goes on as such
marks_by : (ms : List Mode) (is : Event → Bool) (field : Desk → ℕ) → field (first_desk ms) ≡ 0
    → ((d : Desk) (e : Entry) → field (desk_after ms d e) ≡ place_after (is e.event) d.len (field d))
    → Marks (λ (e : Entry). is e.event) (λ es. field (desk_of ms es))
unfolding desk_of
marks_by ms is field none more =
    record {
      none = none;
      more = λ es e. ap field (desk-push ms es e) ∙ more (desk_of ms es) e
          ∙ ap (λ n. place_after (is e.event) n (field (desk_of ms es))) (len_tells ms es);
    }

pub start_marks : (ms : List Mode) → Marks (λ (e : Entry). begins_picture e.event) (λ es. (desk_of ms es).picture_start)
unfolding first_desk desk_after
start_marks ms = marks_by ms begins_picture (λ (d : Desk). d.picture_start) refl (λ d e. refl)

cut_off_marks : (ms : List Mode) → Marks (λ (e : Entry). cuts_off e.event) (λ es. (desk_of ms es).cut_off)
unfolding first_desk desk_after
cut_off_marks ms = marks_by ms cuts_off (λ (d : Desk). d.cut_off) refl (λ d e. refl)

presented_marks : (ms : List Mode) → Marks (λ (e : Entry). is_present e.event) (λ es. (desk_of ms es).presented)
unfolding first_desk desk_after
presented_marks ms = marks_by ms is_present (λ (d : Desk). d.presented) refl (λ d e. refl)

pointed_marks : (ms : List Mode) → Marks (λ (e : Entry). is_pointing e.event) (λ es. (desk_of ms es).pointed)
unfolding first_desk desk_after
pointed_marks ms = marks_by ms is_pointing (λ (d : Desk). d.pointed) refl (λ d e. refl)

pub shaped_marks : (ms : List Mode) → Marks (λ (e : Entry). has_shape e.event) (λ es. (desk_of ms es).shaped)
unfolding first_desk desk_after
shaped_marks ms = marks_by ms has_shape (λ (d : Desk). d.shaped) refl (λ d e. refl)

pub start_tells : (ms : List Mode) (es : List Entry)
    → Tells (λ (e : Entry). begins_picture e.event) (λ xs. (desk_of ms xs).picture_start) es
start_tells ms es = tells _ _ (start_marks ms) es

pub cut_off_tells : (ms : List Mode) (es : List Entry) (place : ℕ)
    → nat_lt place (desk_of ms es).cut_off ≡ any_cuts_off (drop place es)
cut_off_tells ms es place = (tells _ _ (cut_off_marks ms) es).since place

pub presented_tells : (ms : List Mode) (es : List Entry) (place : ℕ)
    → nat_lt place (desk_of ms es).presented ≡ any_presents (drop place es)
presented_tells ms es place = (tells _ _ (presented_marks ms) es).since place

pub pointed_tells : (ms : List Mode) (es : List Entry) (place : ℕ)
    → nat_lt place (desk_of ms es).pointed ≡ any_points (drop place es)
pointed_tells ms es place = (tells _ _ (pointed_marks ms) es).since place

-- the last present, and the last entry that sets the pointer or its shape
pub last_present_tells : (ms : List Mode) (es : List Entry) (place : ℕ)
    → (if nat_lt place (desk_of ms es).presented then (desk_of ms es).presented else 0)
    ≡ last_present place (drop place es)
last_present_tells ms es place = number_tells is_present _ (presented_marks ms) es place

pub last_pointed_tells : (ms : List Mode) (es : List Entry) (place : ℕ)
    → (if nat_lt place (desk_of ms es).pointed then (desk_of ms es).pointed else 0)
    ≡ last_pointed place (drop place es)
last_pointed_tells ms es place = number_tells is_pointing _ (pointed_marks ms) es place

-- the last shape
pub last_shape_tells : (ms : List Mode) (es : List Entry) (place : ℕ) → nat_lt place (desk_of ms es).shaped ≡ true
    → last_shape (drop place es) ≡ shape_at (slice_get es ((desk_of ms es).shaped - 1))
last_shape_tells ms es place t = shape_tells _ (shaped_marks ms) es place t

pub no_shape_tells : (ms : List Mode) (es : List Entry) (place : ℕ) → nat_lt place (desk_of ms es).shaped ≡ false
    → last_shape (drop place es) ≡ None
no_shape_tells ms es place f =
    no_shape (drop place es) (sym ((tells _ _ (shaped_marks ms) es).since place) ∙ f)

-- whether the list has ended
pub ended_tells : (ms : List Mode) (es : List Entry) → (desk_of ms es).ended ≡ any_ends es
unfolding desk_of first_desk
ended_tells ms es =
    by_snoc (λ (xs : List Entry). (desk_of ms xs).ended ≡ any_ends xs) refl
    (λ (xs : List Entry) (x : Entry) (is : (desk_of ms xs).ended ≡ any_ends xs).
    ended-push ms xs x ∙ ap (λ b. b || is_end x.event) is ∙ sym (any_push (λ e. is_end e.event) xs x)) es

-- the last steps
record Steps (ms : List Mode) (es : List Entry) : Type 0 where
  len : length (desk_of ms es).steps ≡ MAX_ACTORS
  last : (actor : ℕ) → actor < MAX_ACTORS → get_or (desk_of ms es).steps actor 0 ≡ last_step es actor

step_set : (steps : List ℕ) (at actor step last : ℕ) → at < length steps → get_or steps at 0 ≡ last
    → get_or (set steps actor step) at 0 ≡ (if actor == at then step else last)
step_set steps at actor step last within is =
    ⊎_elim (λ (same : actor ≡ at). ap (λ n. get_or (set steps n step) at 0) same
    ∙ get_or-set_same steps at step 0 within
    ∙ sym (cond-true (eqb actor at) step last (eq-eqb actor at same)))
    (λ (other : actor ≡ at → ⊥). get_or-set_other steps actor at step 0 (λ (e : at ≡ actor). other (sym e)) ∙ is
    ∙ sym (cond-false (eqb actor at) step last (ne_eqb actor at other)))
    (cases_eq actor at)

steps_none : (ms : List Mode) → Steps ms []
unfolding desk_of first_desk
steps_none ms =
    record {
      len = length-replicate {A = ℕ} MAX_ACTORS 0;
      last = λ actor within. get_or-replicate MAX_ACTORS actor 0 0 within;
    }

steps_more : (ms : List Mode) (es : List Entry) (e : Entry) → Steps ms es → Steps ms (es ++ e ∷ [])
steps_more ms es e s =
    record {
      len = ap length (steps-push ms es e) ∙ length-set (desk_of ms es).steps e.actor e.step ∙ s.len;
      last = λ actor within. ap (λ (xs : List ℕ). get_or xs actor 0) (steps-push ms es e)
          ∙ step_set (desk_of ms es).steps actor e.actor e.step (last_step es actor) (omega (arith, s.len))
          (s.last actor within)
          ∙ sym (fold_push (λ last x. if x.actor == actor then x.step else last) 0 es e);
    }

steps_tell : (ms : List Mode) (es : List Entry) → Steps ms es
steps_tell ms es = by_snoc (Steps ms) (steps_none ms) (steps_more ms) es

pub len_of_steps : (ms : List Mode) (es : List Entry) → length (desk_of ms es).steps ≡ MAX_ACTORS
len_of_steps ms es = (steps_tell ms es).len

pub step_tells : (ms : List Mode) (es : List Entry) (actor : ℕ) → actor < MAX_ACTORS
    → slice_index_or (desk_of ms es).steps actor 0 ≡ last_step es actor
step_tells ms es actor within = (steps_tell ms es).last actor within
