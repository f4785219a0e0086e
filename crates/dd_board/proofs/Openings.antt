-- What an opening or a closing on the locked list leaves.
use Rattle.std.proofs.Common.{◌≡◌, ℕ, false, List, [], ◌∷◌, ◌++◌, length, take, Option, Some, Result, Ok, Err, refl, sym, ap, ◌∙◌, subst}
use Rattle.std.specs.Prelude.{slice_get, option_map, unwrap_or}
use mathlib.Core.List.{IsPrefix}
use Rattle.dd_calls.specs.declared.answers.OpenRefusal.{OpenRefusal}
use Rattle.dd_calls.specs.declared.answers.CloseRefusal.{CloseRefusal}
use Rattle.dd_log.specs.declared.events.Spec.{Spec}
use Rattle.dd_log.specs.declared.events.Entry.{Entry}
use Rattle.dd_log.specs.declared.events.Event.TheVariants.{Opened, Closed}
use Rattle.dd_log.specs.History.{is_opening}
use Rattle.dd_log.specs.Slots.{entry_slot}
use Rattle.dd_table.specs.Opening.{opening, closing}
use Rattle.dd_dup.specs.Reply.{Memory, fresh_memory}
use Rattle.dd_dup.specs.Stands.{StandsOnceOpened}
use Rattle.dd_board.specs.declared.holding.Holding.{Holding}
use Rattle.dd_board.specs.declared.painter.Entering.{Entering}
use Rattle.dd_board.specs.declared.painter.Entering.TheVariants.{Made, NoMemory}
use Rattle.dd_board.specs.declared.painter.Attempt.{Attempt}
use Rattle.dd_board.specs.declared.painter.Attempt.TheVariants.{Done}
use Rattle.dd_board.specs.Lists.{listed}
use Rattle.dd_board.specs.Seats.{Seated, seeing, entering}
use Rattle.dd_board.specs.Holding.{MayHold}
use Rattle.dd_board.specs.Painting.{IsEntering, attempt_of}
use Rattle.dd_board.specs.Opening.{IsOpening, IsClosing}
use Rattle.dd_board.proofs.Calls.{at_made, at_end, made_call, refused_call}
use Rattle.dd_board.proofs.Prefixes.{prefix_of}
use Rattle.dd_board.proofs.Standing.{begins_with}

last_there : (es : List Entry) (e : Entry) → slice_get (es ++ e ∷ []) (length es) ≡ Some e
last_there [] e = refl
last_there (x ∷ es) e = last_there es e

abbrev opened_entry : ℕ → ℕ → ℕ → ℕ → Entry
opened_entry actor step slot app = record { actor = actor; step = step; event = Opened slot app }

abbrev closed_entry : ℕ → ℕ → ℕ → Entry
closed_entry actor step slot = record { actor = actor; step = step; event = Closed slot }

-- what was opened holds its slot on the list with its opening
holds_once_opened : (spec : Spec) (es : List Entry) (place actor step app : ℕ) (x : Holding) → place ≡ length es
    → x.dup.memory ≡ fresh_memory (listed spec es) place → StandsOnceOpened x.dup (listed spec es)
    → MayHold (Some x) (listed spec (es ++ opened_entry actor step x.slot app ∷ []))
holds_once_opened spec es place actor step app x is fresh stands =
    let e = opened_entry actor step x.slot app in
    let there : x.dup.memory.opened ≡ length es = ap (λ (m : Memory). m.opened) fresh ∙ is in
    let found : slice_get (es ++ e ∷ []) x.dup.memory.opened ≡ Some e =
    ap (slice_get (es ++ e ∷ [])) there ∙ last_there es e in (
      stands (listed spec (es ++ e ∷ [])) (begins_with spec es (es ++ e ∷ []) (prefix_of es (e ∷ [])))
          (ap (λ (o : Option Entry). unwrap_or (option_map (λ y. is_opening y.event) o) false) found),
      ap entry_slot found,
    )

opened : (spec : Spec) (old new : Seated) (es : List Entry) (place number app step : ℕ) (x : Holding)
    → IsPrefix old.view es → place ≡ length es → number ≡ old.number
    → new ≡ entering old (es ++ opened_entry number step x.slot app ∷ []) → Ok x.slot ≡ opening (listed spec es) app
    → x.dup.memory ≡ fresh_memory (listed spec es) place → StandsOnceOpened x.dup (listed spec es)
    → IsOpening (Done place (Ok x)) spec old new app step
opened spec old new es place number app step x begins is own new_is answer fresh stands =
    let e = opened_entry old.number step x.slot app in
    let now : new ≡ entering old (es ++ e ∷ []) =
    new_is ∙ ap (λ (n : ℕ). entering old (es ++ opened_entry n step x.slot app ∷ [])) own in
    let here : take place new.view ≡ es = ap (λ (s : Seated). take place s.view) now ∙ at_made es e place is in (
      answer ∙ ap (λ (l : List Entry). opening (listed spec l) app) (sym here),
      made_call old new es e place begins is now,
      (
        fresh ∙ ap (λ (l : List Entry). fresh_memory (listed spec l) place) (sym here),
        subst (λ (s : Seated). MayHold (Some x) (listed spec s.view)) (sym now)
            (holds_once_opened spec es place old.number step app x is fresh stands),
      ),
    )

pub not_opened : (spec : Spec) (old new : Seated) (es : List Entry) (place app step : ℕ) (cause : OpenRefusal)
    → IsPrefix old.view es → place ≡ length es → new ≡ seeing old es → Err cause ≡ opening (listed spec es) app
    → IsOpening (Done place (Err cause)) spec old new app step
not_opened spec old new es place app step cause begins is new_is answer =
    let here : take place new.view ≡ es = ap (λ (s : Seated). take place s.view) new_is ∙ at_end es place is in (
      answer ∙ ap (λ (l : List Entry). opening (listed spec l) app) (sym here),
      refused_call old new es place begins is new_is,
      tt,
    )

-- however its entry went
pub opening_went : (went : Entering) (spec : Spec) (old new : Seated) (es later : List Entry)
    (place number app step : ℕ) (x : Holding) → IsPrefix old.view es → place ≡ length es → number ≡ old.number
    → IsEntering went es later old new (opened_entry number step x.slot app)
    → Ok x.slot ≡ opening (listed spec es) app → x.dup.memory ≡ fresh_memory (listed spec es) place
    → StandsOnceOpened x.dup (listed spec es)
    → IsOpening (attempt_of went place (Ok x)) spec old new app step
opening_went Made spec old new es later place number app step x begins is own went answer fresh stands =
    opened spec old new es place number app step x begins is own (went.1 ∙ ap (entering old) went.0) answer fresh stands
opening_went NoMemory spec old new es later place number app step x begins is own went answer fresh stands = went.1

pub opening_is : (p q : Attempt (Result Holding OpenRefusal)) (spec : Spec) (old new : Seated) (app step : ℕ)
    → p ≡ q → IsOpening q spec old new app step → IsOpening p spec old new app step
opening_is p q spec old new app step is h =
    subst (λ (a : Attempt (Result Holding OpenRefusal)). IsOpening a spec old new app step) (sym is) h

-- the same of closings
closed : (spec : Spec) (old new : Seated) (es : List Entry) (place number step slot : ℕ) (asked : Option ℕ)
    → IsPrefix old.view es → place ≡ length es → number ≡ old.number
    → new ≡ entering old (es ++ closed_entry number step slot ∷ []) → Ok slot ≡ closing (listed spec es) asked
    → IsClosing (Done place (Ok slot)) spec old new asked step
closed spec old new es place number step slot asked begins is own new_is answer =
    let e = closed_entry old.number step slot in
    let now : new ≡ entering old (es ++ e ∷ []) =
    new_is ∙ ap (λ (n : ℕ). entering old (es ++ closed_entry n step slot ∷ [])) own in
    let here : take place new.view ≡ es = ap (λ (s : Seated). take place s.view) now ∙ at_made es e place is in (
      answer ∙ ap (λ (l : List Entry). closing (listed spec l) asked) (sym here),
      made_call old new es e place begins is now,
    )

pub not_closed : (spec : Spec) (old new : Seated) (es : List Entry) (place step : ℕ) (cause : CloseRefusal)
    (asked : Option ℕ) → IsPrefix old.view es → place ≡ length es → new ≡ seeing old es
    → Err cause ≡ closing (listed spec es) asked → IsClosing (Done place (Err cause)) spec old new asked step
not_closed spec old new es place step cause asked begins is new_is answer =
    let here : take place new.view ≡ es = ap (λ (s : Seated). take place s.view) new_is ∙ at_end es place is in (
      answer ∙ ap (λ (l : List Entry). closing (listed spec l) asked) (sym here),
      refused_call old new es place begins is new_is,
    )

pub closing_went : (went : Entering) (spec : Spec) (old new : Seated) (es later : List Entry)
    (place number step slot : ℕ) (asked : Option ℕ) → IsPrefix old.view es → place ≡ length es → number ≡ old.number
    → IsEntering went es later old new (closed_entry number step slot) → Ok slot ≡ closing (listed spec es) asked
    → IsClosing (attempt_of went place (Ok slot)) spec old new asked step
closing_went Made spec old new es later place number step slot asked begins is own went answer =
    closed spec old new es place number step slot asked begins is own (went.1 ∙ ap (entering old) went.0) answer
closing_went NoMemory spec old new es later place number step slot asked begins is own went answer = went.1

pub closing_is : (p q : Attempt (Result ℕ CloseRefusal)) (spec : Spec) (old new : Seated) (asked : Option ℕ) (step : ℕ)
    → p ≡ q → IsClosing q spec old new asked step → IsClosing p spec old new asked step
closing_is p q spec old new asked step is h =
    subst (λ (a : Attempt (Result ℕ CloseRefusal)). IsClosing a spec old new asked step) (sym is) h
