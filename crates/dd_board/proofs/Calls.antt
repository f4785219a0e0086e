-- What a seat's call leaves, told by the list that it found.
use Rattle.std.proofs.Common.{◌≡◌, ℕ, ◌<◌, false, List, [], ◌∷◌, ◌++◌, length, take, refl, sym, ap, ◌∙◌, subst, arith, length-append, Option, Some, None, Result, Ok}
use Rattle.std.specs.Prelude.{IsTrue, is_none}
use Rattle.std.proofs.lemmas.Bool.{lt-ltb, cond-false}
use Rattle.std.proofs.lemmas.List.{take-append-le, take_all}
use mathlib.Core.List.{IsPrefix}
use Rattle.dd_log.specs.declared.refusal.LogRefusal.{LogRefusal}
use Rattle.dd_log.specs.declared.events.TheConstants.{MAX_ACTORS}
use Rattle.dd_log.specs.declared.events.Spec.{Spec}
use Rattle.dd_log.specs.declared.events.Entry.{Entry}
use Rattle.dd_log.specs.Desk.{finds_slot}
use Rattle.dd_log.specs.History.{desk, last_step, refusal, verdict, may_add, is_end}
use Rattle.dd_log.proofs.Legal.{may_add_of_parts}
use Rattle.dd_board.specs.Lists.{listed, is_seated}
use Rattle.dd_board.specs.Seats.{Seated, seeing, entering, IsCall}
use Rattle.dd_board.proofs.Prefixes.{prefix_length}

-- the entry of a seat that no cause refuses may be added, and names the seat
pub seat_may_add : (spec : Spec) (seats number : ℕ) (es : List Entry) (e : Entry) → e.actor ≡ number → number < seats
    → seats < MAX_ACTORS → last_step es number < e.step → refusal (listed spec es) e.event ≡ None
    → IsTrue (finds_slot (desk (listed spec es)).slots e.event) → IsTrue (may_add (listed spec es) e)
seat_may_add spec seats number es e is within few past allowed slot = may_add_of_parts (listed spec es) e (record {
  actor = omega arith;
  step = subst (λ (n : ℕ). last_step es n < e.step) (sym is) past;
  allowed = ap is_none allowed;
  slot = slot;
})

pub seat_is_seated : (seats number : ℕ) (e : Entry) → e.actor ≡ number → number < seats → is_end e.event ≡ false
    → IsTrue (is_seated seats e)
seat_is_seated seats number e is within kind =
    cond-false (is_end e.event) _ _ kind ∙ lt-ltb e.actor seats (omega (arith, is))

-- the list at the place where an entry was added is the list without it
pub at_made : (es : List Entry) (e : Entry) (place : ℕ) → place ≡ length es → take place (es ++ e ∷ []) ≡ es
at_made es e place is =
    ap (λ (n : ℕ). take n (es ++ e ∷ [])) is ∙ take-append-le (length es) es (e ∷ []) (omega arith)
    ∙ take_all (length es) es (omega arith)

pub at_end : (es : List Entry) (place : ℕ) → place ≡ length es → take place es ≡ es
at_end es place is = take_all place es (omega (arith, is))

-- a call that entered something
pub made_call : (old new : Seated) (es : List Entry) (e : Entry) (place : ℕ) → IsPrefix old.view es → place ≡ length es
    → new ≡ entering old (es ++ e ∷ []) → IsCall old new place (Some e)
made_call old new es e place begins is new_is =
    let here = at_made es e place is in
    let P : Seated → Type 0 = λ n. IsCall old n place (Some e) in
    subst P (sym new_is) (record {
      number = refl;
      begins = subst (λ (l : List Entry). IsPrefix old.view l) (sym here) begins;
      later = omega (arith, prefix_length old.view es begins, is);
      within = omega (arith, length-append es (e ∷ []), is);
      list = ap (λ (l : List Entry). l ++ e ∷ []) (sym here);
      made = refl;
    })

-- and one that was refused
pub refused_call : (old new : Seated) (es : List Entry) (place : ℕ) → IsPrefix old.view es
    → place ≡ length es → new ≡ seeing old es → IsCall old new place None
refused_call old new es place begins is new_is =
    let here = at_end es place is in
    let P : Seated → Type 0 = λ n. IsCall old n place None in
    subst P (sym new_is) (record {
      number = refl;
      begins = subst (λ (l : List Entry). IsPrefix old.view l) (sym here) begins;
      later = omega (arith, prefix_length old.view es begins, is);
      within = omega (arith, is);
      list = sym here;
      made = refl;
    })

-- what an answer says of the cause
pub none_of_ok : (cause : Option LogRefusal) (x : Unit {0}) → Ok x ≡ verdict cause → cause ≡ None
none_of_ok None x e = refl
none_of_ok (Some cause) x e = cc

-- a drawing that was made, and one that was refused
pub answer_made : (spec : Spec) (old new : Seated) (es : List Entry) (e : Entry) (place : ℕ)
    (answer : Result (Unit {0}) LogRefusal) → place ≡ length es → new ≡ entering old (es ++ e ∷ [])
    → answer ≡ verdict (refusal (listed spec es) e.event)
    → answer ≡ verdict (refusal (listed spec (take place new.view)) e.event)
answer_made spec old new es e place answer is new_is told =
    told ∙ ap (λ (l : List Entry). verdict (refusal (listed spec l) e.event))
    (sym (at_made es e place is) ∙ ap (λ (n : Seated). take place n.view) (sym new_is))

pub answer_refused : (spec : Spec) (old new : Seated) (es : List Entry) (e : Entry) (place : ℕ)
    (answer : Result (Unit {0}) LogRefusal) → place ≡ length es → new ≡ seeing old es
    → answer ≡ verdict (refusal (listed spec es) e.event)
    → answer ≡ verdict (refusal (listed spec (take place new.view)) e.event)
answer_refused spec old new es e place answer is new_is told =
    told ∙ ap (λ (l : List Entry). verdict (refusal (listed spec l) e.event))
    (sym (at_end es place is) ∙ ap (λ (n : Seated). take place n.view) (sym new_is))
