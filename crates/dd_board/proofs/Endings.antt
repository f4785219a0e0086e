-- The end of a list.
use Rattle.std.proofs.Common.{◌≡◌, ℕ, ◌+◌, ◌-◌, ◌≤◌, ◌<◌, Bool, true, false, ◌&&◌, ◌||◌, ◌==◌, List, [], ◌∷◌, ◌++◌, length, Some, refl, sym, ap, ◌∙◌, subst, arith, if◌then◌else◌}
use Rattle.std.specs.Prelude.{IsTrue, nat_lt}
use Rattle.std.specs.List.{list_all}
use Rattle.std.proofs.lemmas.Bool.{and_parts, false≢true, cond-true, cond-false, eqb-true, eq-eqb, ne_eqb, ltb-true, and_from}
use Rattle.std.proofs.lemmas.List.Folds.{list_all-append}
use Rattle.std.proofs.lemmas.List.Sums.{fold_push}
use Rattle.std.proofs.Math.Bool.{and-true}
use Rattle.dd_log.specs.declared.events.TheConstants.{MAX_ACTORS}
use Rattle.dd_log.specs.declared.events.Spec.{Spec}
use Rattle.dd_log.specs.declared.events.Entry.{Entry}
use Rattle.dd_log.specs.declared.events.Event.{Event}
use Rattle.dd_log.specs.declared.events.Event.TheVariants.{Opened, Closed, End}
use Rattle.dd_log.specs.declared.events.Event.TheVariants as events
use Rattle.dd_log.specs.Desk.{desk_of, first_desk}
use Rattle.dd_log.specs.History.{desk, last_step, legal, may_add, is_end, before_end, end_of}
use Rattle.dd_log.proofs.Desks.{ended-push}
use Rattle.dd_log.proofs.Legal.{by_entries, Step, legal_added, may_add_of_parts, before_counts, end_last, may_end}
use Rattle.dd_board.specs.declared.press.Printed.{Printed}
use Rattle.dd_board.specs.declared.press.Printed.TheVariants.{Made, NoMemory}
use Rattle.dd_board.specs.Lists.{listed, is_seated, all_seated}
use Rattle.dd_board.specs.Press.{IsPrinted, IsEnding}
use Rattle.dd_board.specs.Ending.{HasEnded}
use Rattle.dd_board.proofs.Calls.{at_made}

event_is : (e : Event) → is_end e ≡ true → e ≡ End
event_is (events.Draw d) h = absurd (false≢true h)
event_is (Opened slot app) h = absurd (false≢true h)
event_is (Closed slot) h = absurd (false≢true h)
event_is End h = refl

-- an end that names a seat rightly
end_is : (seats : ℕ) (e : Entry) → is_end e.event ≡ true → IsTrue (is_seated seats e) → e ≡ end_of seats 1
end_is seats e ends seated =
    let parts = and_parts (e.actor == seats) (e.step == 1)
    (sym (cond-true (is_end e.event) (e.actor == seats && e.step == 1) _ ends) ∙ seated) in
    let actor : e.actor ≡ seats = eqb-true e.actor seats parts.0 in
    let step : e.step ≡ 1 = eqb-true e.step 1 parts.1 in
    ap (λ (n : ℕ). record { actor = n; step = e.step; event = e.event }) actor
    ∙ ap (λ (n : ℕ). record { actor = seats; step = n; event = e.event }) step
    ∙ ap (λ (x : Event). record { actor = seats; step = 1; event = x }) (event_is e.event ends)

last_seated : (seats : ℕ) (es : List Entry) (e : Entry) → IsTrue (all_seated seats (es ++ e ∷ []))
    → IsTrue (is_seated seats e)
unfolding all_seated
last_seated seats es e all =
    let parts = and_parts (list_all (is_seated seats) es) (is_seated seats e && true)
    (sym (list_all-append (is_seated seats) es (e ∷ [])) ∙ all) in
    sym (and-true (is_seated seats e)) ∙ parts.1

before_seated : (seats : ℕ) (es : List Entry) (e : Entry) → IsTrue (all_seated seats (es ++ e ∷ []))
    → IsTrue (all_seated seats es)
unfolding all_seated
before_seated seats es e all =
    (and_parts (list_all (is_seated seats) es) (is_seated seats e && true)
    (sym (list_all-append (is_seated seats) es (e ∷ [])) ∙ all)).0

-- an entry that isn't the end is of a seat
of_seat : (seats : ℕ) (e : Entry) → is_end e.event ≡ false → IsTrue (is_seated seats e) → e.actor < seats
of_seat seats e goes seated =
    ltb-true e.actor seats
    (sym (cond-false (is_end e.event) (e.actor == seats && e.step == 1) (nat_lt e.actor seats) goes) ∙ seated)

other_actor : (actor seats step last : ℕ) → actor < seats → last ≡ 0 → (if actor == seats then step else last) ≡ 0
other_actor actor seats step last within is =
    cond-false (actor == seats) step last (ne_eqb actor seats (λ (e : actor ≡ seats). absurd (omega arith))) ∙ is

-- the actor after the seats has no step in a list that goes on
pub no_step_after : (spec : Spec) (seats : ℕ) (es : List Entry) → IsTrue (legal (listed spec es))
    → IsTrue (all_seated seats es) → (desk (listed spec es)).ended ≡ false → last_step es seats ≡ 0
no_step_after spec seats es is =
    by_entries spec
    (λ (xs : List Entry). IsTrue (all_seated seats xs) → (desk_of spec.modes xs).ended ≡ false
    → last_step xs seats ≡ 0)
    (λ seated goes. refl)
    (λ (xs : List Entry) (e : Entry) (s : Step (listed spec xs) e) ih
    (seated : IsTrue (all_seated seats (xs ++ e ∷ []))) (goes : (desk_of spec.modes (xs ++ e ∷ [])).ended ≡ false).
    let kind : is_end e.event ≡ false =
    sym (ended-push spec.modes xs e ∙ ap (λ b. b || is_end e.event) s.allowed.going) ∙ goes in
    let within : e.actor < seats = of_seat seats e kind (last_seated seats xs e seated) in
    fold_push (λ last x. if x.actor == seats then x.step else last) 0 xs e
    ∙ other_actor e.actor seats e.step (last_step xs seats) within
    (ih (before_seated seats xs e seated) s.allowed.going)) es is

pub going : (ended : Bool) (n before : ℕ) → ended ≡ false → n ≡ (if ended then before + 1 else before) → before ≡ n
going true n before f is = absurd (false≢true (sym f))
going false n before f is = sym is

-- all entries of a list that goes on stand before its end
pub all_before : (spec : Spec) (es : List Entry) → IsTrue (legal (listed spec es))
    → (desk (listed spec es)).ended ≡ false → before_end es ≡ length es
all_before spec es is f =
    going (desk (listed spec es)).ended (length es) (before_end es) f ((end_last (listed spec es)).1 is)

-- and the end leaves them
pub end_counts : (spec : Spec) (es : List Entry) (e : Entry) → IsTrue (legal (listed spec es))
    → IsTrue (may_add (listed spec es) e) → is_end e.event ≡ true → before_end (es ++ e ∷ []) ≡ before_end es
end_counts spec es e is may ends =
    before_counts (listed spec es) e (legal_added (listed spec es) e is may)
    ∙ cond-true (is_end e.event) (before_end es) (before_end es + 1) ends

-- a list that has ended has its end last
pub has_ended : (spec : Spec) (seats : ℕ) (es : List Entry) → IsTrue (legal (listed spec es))
    → IsTrue (all_seated seats es) → (desk (listed spec es)).ended ≡ true → HasEnded seats es
unfolding desk_of first_desk
has_ended spec seats es is =
    by_entries spec
    (λ (xs : List Entry). IsTrue (all_seated seats xs) → (desk_of spec.modes xs).ended ≡ true → HasEnded seats xs)
    (λ seated ended. absurd (false≢true ended))
    (λ (xs : List Entry) (e : Entry) (s : Step (listed spec xs) e) ih
    (seated : IsTrue (all_seated seats (xs ++ e ∷ []))) (ended : (desk_of spec.modes (xs ++ e ∷ [])).ended ≡ true).
    let ends : is_end e.event ≡ true =
    sym (ended-push spec.modes xs e ∙ ap (λ b. b || is_end e.event) s.allowed.going) ∙ ended in
    let may : IsTrue (may_add (listed spec xs) e) = may_add_of_parts (listed spec xs) e s.may in
    let count : before_end (xs ++ e ∷ []) ≡ length xs =
    end_counts spec xs e s.legal may ends ∙ all_before spec xs s.legal s.allowed.going in
    ap (λ (x : Entry). xs ++ x ∷ []) (end_is seats e ends (last_seated seats xs e seated))
    ∙ ap (λ (l : List Entry). l ++ end_of seats 1 ∷ []) (sym (at_made xs e (before_end (xs ++ e ∷ [])) count))) es is

-- the end names the number after the seats
pub end_is_seated : (seats : ℕ) → IsTrue (is_seated seats (end_of seats 1))
end_is_seated seats = and_from (seats == seats) true (eq-eqb seats seats refl) refl

-- what the end of a list that went on leaves
pub end_total : {L : Type 0} (p : Printed L) (old new : List Entry) (e : Entry) → IsPrinted p old new e
    → before_end (old ++ e ∷ []) ≡ before_end old → before_end new ≡ before_end old
end_total (Made told) old new e h same = ap before_end h.0 ∙ same
end_total NoMemory old new e h same = ap before_end h

pub ending : {L : Type 0} (p : Printed L) (spec : Spec) (seats at_least : ℕ) (old new : List Entry)
    → IsPrinted p old new (end_of seats 1) → at_least ≤ before_end old → IsTrue (legal (listed spec old))
    → IsTrue (may_add (listed spec old) (end_of seats 1)) → (desk (listed spec old)).ended ≡ false
    → IsEnding (Some p) seats at_least old
ending (Made told) spec seats at_least old new h least is may goes =
    let whole : told ≡ old ++ end_of seats 1 ∷ [] = h.1 ∙ h.0 in
    let count : before_end (old ++ end_of seats 1 ∷ []) ≡ before_end old =
    end_counts spec old (end_of seats 1) is may refl in
    let all : before_end old ≡ length old = all_before spec old is goes in
    let P : List Entry → Type 0 = λ t. (at_least ≤ before_end t) × HasEnded seats t in
    subst P (sym whole) (
      omega (arith, count, least),
      ap (λ (l : List Entry). l ++ end_of seats 1 ∷ [])
          (sym (at_made old (end_of seats 1) (before_end (old ++ end_of seats 1 ∷ [])) (count ∙ all))),
    )
ending NoMemory spec seats at_least old new h least is may goes = tt

pub one_less : (ended : Bool) (n before : ℕ) → ended ≡ true → n ≡ (if ended then before + 1 else before)
    → n - 1 ≡ before
one_less true n before t is = omega (arith, is)
one_less false n before t is = absurd (false≢true t)

-- the actor after the seats may end a list that goes on
pub may_be_ended : (spec : Spec) (seats : ℕ) (es : List Entry) → seats < MAX_ACTORS → IsTrue (legal (listed spec es))
    → IsTrue (all_seated seats es) → (desk (listed spec es)).ended ≡ false
    → IsTrue (may_add (listed spec es) (end_of seats 1))
may_be_ended spec seats es within is seated goes =
    let none : last_step es seats ≡ 0 = no_step_after spec seats es is seated goes in
    may_end (listed spec es) seats 1 goes within (omega (arith, none))

pub printed_by : {L : Type 0} (p : Printed L) (old es new : List Entry) (n m : ℕ) → old ≡ es → n ≡ m
    → IsPrinted p old new (end_of n 1) → IsPrinted p es new (end_of m 1)
printed_by {L = L} p old es new n m same is h =
    subst (λ (k : ℕ). IsPrinted p es new (end_of k 1)) is
    (subst (λ (l : List Entry). IsPrinted p l new (end_of n 1)) same h)
