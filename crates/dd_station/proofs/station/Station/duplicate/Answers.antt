-- The answer, the state and what is kept, once an opening for client k was made or refused.
use Rattle.std.proofs.Common.{◌≡◌, ℕ, ◌+◌, ◌-◌, ◌<◌, ◌≤◌, ◌∙◌, List, Option, Some, Ok, Err, Result, length, get_or, sym, ap, subst, arith}
use Rattle.std.specs.Prelude.{slice_set}
use Rattle.dd_log.specs.declared.events.Entry.{Entry}
use Rattle.dd_log.specs.declared.events.Event.TheVariants as events
use Rattle.dd_calls.specs.declared.answers.Answer.{Answer}
use Rattle.dd_calls.specs.declared.answers.Answer.TheVariants.{Opened, NotOpened}
use Rattle.dd_calls.specs.declared.answers.OpenRefusal.{OpenRefusal}
use Rattle.dd_log.specs.History.{History, with_entry}
use Rattle.dd_table.specs.Opening.{opening}
use Rattle.dd_dup.specs.Reply.{Memory}
use Rattle.dd_dup.specs.Duplicator.{Duplicator}
use Rattle.dd_dup.specs.Stands.{Stands}
use Rattle.dd_station.specs.declared.opening.Attempt.{Attempt}
use Rattle.dd_station.specs.Opening.{IsAttempt}
use Rattle.dd_station.specs.Run.{State, opening_outcome, app_of}
use Rattle.dd_station.specs.Station.{memories, state, IsKept}
use Rattle.dd_station.proofs.Kept.{kept_opened, app_there, memories-set}
use Rattle.dd_station.proofs.station.Station.duplicate.Goals as goal

abbrev with_memories : History → List ℕ → List (Option Memory) → ℕ → State
with_memories h clients ms n = record { history = h; clients = clients; memories = ms; steps = n }

-- what an opening for a client is answered, and the state then
abbrev outcome : State → ℕ → Answer × State
outcome s k = opening_outcome (opening s.history (app_of s k)) s k

-- the client has a place, and the application is its own
own_app : (h : History) (clients : List ℕ) (dups : List (Option Duplicator)) (n k app : ℕ) (s : State)
    → state h clients dups n ≡ s → 1 ≤ k → k ≤ length s.clients → app ≡ get_or clients (k - 1) app
    → (k - 1 < length clients) × (app ≡ app_of (state h clients dups n) k)
own_app h clients dups n k app s is from to there =
    let same : length clients ≡ length s.clients = ap (λ (t : State). length t.clients) is in
    let i_in : k - 1 < length clients = omega (arith, same, from, to) in
    (i_in, app_there clients (k - 1) app i_in there)

-- an opening that was made
made : (h new : History) (clients : List ℕ) (dups : List (Option Duplicator)) (n k entry slot app : ℕ)
    (dup : Duplicator) (s : State) (attempt : Attempt) → state h clients dups n ≡ s → 1 ≤ k → k ≤ length s.clients
    → app ≡ get_or clients (k - 1) app → attempt ≡ Attempt.Made entry slot dup
    → IsAttempt attempt h new app k (n + 1)
    → (IsKept h clients dups n → IsKept new clients (slice_set dups (k - 1) (Some dup)) (n + 1))
    × (Opened entry slot ≡ (outcome s k).0)
    × (state new clients (slice_set dups (k - 1) (Some dup)) (n + 1) ≡ (outcome s k).1)
made h new clients dups n k entry slot app dup s attempt is from to there tried attempted =
    let a = subst (λ (x : Attempt). IsAttempt x h new app k (n + 1)) tried attempted in
    let own = own_app h clients dups n k app s is from to there in
    let old = state h clients dups n in
    let entry_for : ℕ → Entry = λ x. record { actor = k; step = n + 1; event = events.Opened slot x } in
    let new_is : new ≡ with_entry h (entry_for (app_of old k)) = a.1 ∙ ap (λ x. with_entry h (entry_for x)) own.1 in
    let granted : opening h (app_of old k) ≡ Ok slot = ap (opening h) (sym own.1) ∙ a.0 in
    let for_result = λ (r : Result ℕ OpenRefusal). opening_outcome r old k in (
      λ kept. let i_there : k - 1 < length dups = omega (arith, own.0, kept.places) in
          subst (λ (g : History). IsKept g clients (slice_set dups (k - 1) (Some dup)) (n + 1)) (sym new_is)
          (kept_opened h k n slot clients dups (k - 1) dup i_there kept granted (ap (λ (m : Memory). m.opened) a.3)
          (subst (λ (g : History). Stands dup g) new_is a.4)),
      ap (λ m. Opened m slot) a.2 ∙ ap (λ r. (for_result r).0) (sym granted) ∙ ap (λ t. (outcome t k).0) is,
      ap (λ (g : History). state g clients (slice_set dups (k - 1) (Some dup)) (n + 1)) new_is
          ∙ ap (λ (ms : List (Option Memory)).
          with_memories (with_entry h (entry_for (app_of old k))) clients ms (n + 1))
          (memories-set dups (k - 1) (Some dup) ∙ ap (λ (m : Memory). slice_set (memories dups) (k - 1) (Some m)) a.3)
          ∙ ap (λ r. (for_result r).1) (sym granted)
          ∙ ap (λ t. (outcome t k).1) is,
    )

-- and one that was refused
refused : (h new : History) (clients : List ℕ) (dups : List (Option Duplicator)) (n k app : ℕ) (cause : OpenRefusal)
    (s : State) (attempt : Attempt) → state h clients dups n ≡ s → 1 ≤ k → k ≤ length s.clients
    → app ≡ get_or clients (k - 1) app → attempt ≡ Attempt.Refused cause → IsAttempt attempt h new app k (n + 1)
    → (NotOpened cause ≡ (outcome s k).0) × (state new clients dups (n + 1) ≡ (outcome s k).1)
refused h new clients dups n k app cause s attempt is from to there tried attempted =
    let a = subst (λ (x : Attempt). IsAttempt x h new app k (n + 1)) tried attempted in
    let own = own_app h clients dups n k app s is from to there in
    let old = state h clients dups n in
    let denied : opening h (app_of old k) ≡ Err cause = ap (opening h) (sym own.1) ∙ a.0 in
    let for_result = λ (r : Result ℕ OpenRefusal). opening_outcome r old k in (
      ap (λ r. (for_result r).0) (sym denied) ∙ ap (λ t. (outcome t k).0) is,
      ap (λ (g : History). state g clients dups (n + 1)) a.1
          ∙ ap (λ r. (for_result r).1) (sym denied)
          ∙ ap (λ t. (outcome t k).1) is,
    )

pub invariant_of-self-in-Made : goal.invariant_of-self-in-Made
invariant_of-self-in-Made c =
    (made c.self.inside.log c.open.new.log c.self.inside.clients.items c.self.inside.dups.items c.self.inside.steps
    c.args.client c.in-Made.entry c.in-Made.slot c.index-app.result.now c.in-Made.dup c.args.self.now _ c.self.view_is
    c.requires.from c.requires.to c.index-app.ensures c.in-Made.is c.in_ok-attempt.ensures.attempt).0 c.self.invariant

pub returns-in-Made-clause-answer : goal.returns-in-Made-clause-answer
returns-in-Made-clause-answer c =
    (made c.self.inside.log c.open.new.log c.self.inside.clients.items c.self.inside.dups.items c.self.inside.steps
    c.args.client c.in-Made.entry c.in-Made.slot c.index-app.result.now c.in-Made.dup c.args.self.now _ c.self.view_is
    c.requires.from c.requires.to c.index-app.ensures c.in-Made.is c.in_ok-attempt.ensures.attempt).1

pub returns-in-Made-clause-state : goal.returns-in-Made-clause-state
returns-in-Made-clause-state c =
    (made c.self.inside.log c.open.new.log c.self.inside.clients.items c.self.inside.dups.items c.self.inside.steps
    c.args.client c.in-Made.entry c.in-Made.slot c.index-app.result.now c.in-Made.dup c.args.self.now _ c.self.view_is
    c.requires.from c.requires.to c.index-app.ensures c.in-Made.is c.in_ok-attempt.ensures.attempt).2

pub returns-in-Refused-clause-answer : goal.returns-in-Refused-clause-answer
returns-in-Refused-clause-answer c =
    (refused c.self.inside.log c.open.new.log c.self.inside.clients.items c.self.inside.dups.items c.self.inside.steps
    c.args.client c.index-app.result.now c.in-Refused.cause c.args.self.now _ c.self.view_is c.requires.from
    c.requires.to c.index-app.ensures c.in-Refused.is c.in_ok-attempt.ensures.attempt).0

pub returns-in-Refused-clause-state : goal.returns-in-Refused-clause-state
returns-in-Refused-clause-state c =
    (refused c.self.inside.log c.open.new.log c.self.inside.clients.items c.self.inside.dups.items c.self.inside.steps
    c.args.client c.index-app.result.now c.in-Refused.cause c.args.self.now _ c.self.view_is c.requires.from
    c.requires.to c.index-app.ensures c.in-Refused.is c.in_ok-attempt.ensures.attempt).1
