-- What was printed, where it is known which way it went.
use Rattle.std.proofs.Common.{◌≡◌, ◌∙◌, ℕ, List, [], ◌∷◌, ◌++◌, length, ap, sym, subst, Result, Ok, Err}
use mathlib.Core.List.{IsPrefix}
use Rattle.dd_log.specs.declared.refusal.LogRefusal.{LogRefusal}
use Rattle.dd_log.specs.declared.events.Spec.{Spec}
use Rattle.dd_log.specs.declared.events.Entry.{Entry}
use Rattle.dd_log.specs.History.{refusal, verdict}
use Rattle.dd_board.specs.declared.painter.Entering.{Entering}
use Rattle.dd_board.specs.declared.painter.Entering.TheVariants.{Made, NoMemory}
use Rattle.dd_board.specs.declared.painter.Attempt.{Attempt}
use Rattle.dd_board.specs.declared.painter.Attempt.TheVariants.{Done}
use Rattle.dd_board.specs.Lists.{listed}
use Rattle.dd_board.specs.Seats.{Seated, seeing, entering}
use Rattle.dd_board.specs.Painting.{IsEntering, IsDrawing, attempt_of}
use Rattle.dd_board.proofs.Calls.{made_call, refused_call, answer_made, answer_refused}
use Rattle.dd_board.specs.declared.press.Printed.{Printed}
use Rattle.dd_board.specs.Press.{IsPrinted}

pub printed_is : {L : Type 0} (p q : Printed L) (old new : List Entry) (e : Entry) → p ≡ q → IsPrinted p old new e
    → IsPrinted q old new e
printed_is {L = L} p q old new e is h = subst (λ (x : Printed L). IsPrinted x old new e) is h

pub entering_is : (p q : Entering) (old new : List Entry) (s t : Seated) (e : Entry) → p ≡ q
    → IsEntering p old new s t e → IsEntering q old new s t e
entering_is p q old new s t e is h = subst (λ (x : Entering). IsEntering x old new s t e) is h

pub drawing_is : (p q : Attempt (Result (Unit {0}) LogRefusal)) (spec : Spec) (s t : Seated) (e : Entry) → p ≡ q
    → IsDrawing q spec s t e → IsDrawing p spec s t e
drawing_is p q spec s t e is h =
    subst (λ (x : Attempt (Result (Unit {0}) LogRefusal)). IsDrawing x spec s t e) (sym is) h

-- a drawing that was made, and one that was refused
pub drawn : (spec : Spec) (old new : Seated) (es : List Entry) (e : Entry) (place : ℕ) → IsPrefix old.view es
    → place ≡ length es → new ≡ entering old (es ++ e ∷ []) → Ok tt ≡ verdict (refusal (listed spec es) e.event)
    → IsDrawing (Done place (Ok tt)) spec old new e
drawn spec old new es e place begins is new_is told =
    (made_call old new es e place begins is new_is, answer_made spec old new es e place (Ok tt) is new_is told)

pub not_drawn : (spec : Spec) (old new : Seated) (es : List Entry) (e : Entry) (place : ℕ) (cause : LogRefusal)
    → IsPrefix old.view es → place ≡ length es → new ≡ seeing old es
    → Err cause ≡ verdict (refusal (listed spec es) e.event) → IsDrawing (Done place (Err cause)) spec old new e
not_drawn spec old new es e place cause begins is new_is told = (
  refused_call old new es place begins is new_is,
  answer_refused spec old new es e place (Err cause) is new_is told,
)

-- however its entry went
pub drawing_went : (went : Entering) (spec : Spec) (old new : Seated) (es later : List Entry) (e : Entry) (place : ℕ)
    → IsPrefix old.view es → place ≡ length es → IsEntering went es later old new e
    → Ok tt ≡ verdict (refusal (listed spec es) e.event) → IsDrawing (attempt_of went place (Ok tt)) spec old new e
drawing_went Made spec old new es later e place begins is went told =
    drawn spec old new es e place begins is (went.1 ∙ ap (entering old) went.0) told
drawing_went NoMemory spec old new es later e place begins is went told = went.1
