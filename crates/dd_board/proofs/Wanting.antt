-- The list on which a call was granted that wanted memory, and how an attempt went whose entry went so.
use Rattle.std.proofs.Common.{◌≡◌, ℕ, List, Result, Ok, Err, refl, subst, sym}
use Rattle.std.specs.Prelude.{IsTrue, IsOk, OnErr}
use Rattle.dd_log.specs.declared.events.Spec.{Spec}
use Rattle.dd_log.specs.declared.events.Entry.{Entry}
use Rattle.dd_log.specs.History.{History, legal}
use Rattle.dd_board.specs.declared.painter.Entering.{Entering}
use Rattle.dd_board.specs.declared.painter.Entering.TheVariants.{Made, NoMemory}
use Rattle.dd_board.specs.declared.painter.Attempt.{Attempt}
use Rattle.dd_board.specs.declared.painter.Attempt.TheVariants as attempts
use Rattle.dd_board.specs.Lists.{listed, all_seated}
use Rattle.dd_board.specs.Seats.{Seated}
use Rattle.dd_board.specs.Painting.{attempt_of}
use Rattle.dd_board.specs.Wanting.{Fits, MayGrant, OnWant}

-- the locked list, as its length tells of it
pub may_grant : (spec : Spec) (seats : ℕ) (s : Seated) (step : ℕ) (IsGranted : History → Type 0) (told es : List Entry)
    → told ≡ es → IsTrue (legal (listed spec told)) → IsTrue (all_seated seats told) → Fits es s step
    → IsGranted (listed spec es) → MayGrant spec seats s step IsGranted
may_grant spec seats s step IsGranted told es is legal_told seated_told fits granted =
    record {
      entries = es;
      legal = subst (λ (l : List Entry). IsTrue (legal (listed spec l))) is legal_told;
      seated = subst (λ (l : List Entry). IsTrue (all_seated seats l)) is seated_told;
      fits = fits;
      granted = granted;
    }

want_went : {A : Type 0} (went : Entering) (place : ℕ) (answer : A) (holds : Type 0)
    → holds → OnWant (attempt_of went place answer) holds
want_went Made place answer holds h = tt
want_went NoMemory place answer holds h = h

pub want_of : {A : Type 0} (went : Entering) (place : ℕ) (answer : A) (holds : Type 0) (p : Attempt A)
    → p ≡ attempt_of went place answer → holds → OnWant p holds
want_of {A = A} went place answer holds p is h =
    subst (λ (q : Attempt A). OnWant q holds) (sym is) (want_went went place answer holds h)

pub wanted : {A : Type 0} (p : Attempt A) (holds : Type 0) → p ≡ attempts.NoMemory → OnWant p holds → holds
wanted {A = A} p holds is h = subst (λ (q : Attempt A). OnWant q holds) is h

pub on_err : {A B : Type 0} (r : Result A B) (holds : Type 0) → holds → OnErr r holds
on_err (Ok x) holds h = tt
on_err (Err error) holds h = h

-- what an answer that is an Ok says
pub ok_is : {A B : Type 0} (x : A) (r : Result A B) → Ok x ≡ r → IsOk r
ok_is {A = A} {B = B} x r is = subst (λ (q : Result A B). IsOk q) is refl
