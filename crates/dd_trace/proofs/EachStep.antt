-- Each step of a run is right.
use Rattle.std.proofs.Common.{◌≡◌, ℕ, ◌+◌, ◌-◌, ◌≤◌, List, [], ◌∷◌, ◌++◌, length, Option, None, refl, sym, ap, ◌∙◌, subst, append_assoc, append-nil}
use Rattle.std.specs.List.{AllByRecursion, cons_option}
use Rattle.std.proofs.lemmas.List.{length_push}
use Rattle.dd_log.specs.declared.events.Entry.{Entry}
use Rattle.dd_log.specs.History.{History, Begins, begun, first_entries}
use Rattle.dd_dup.specs.Reply.{Memory}
use Rattle.dd_calls.specs.declared.steps.Script.{Script}
use Rattle.dd_calls.specs.declared.steps.Step.{Step}
use Rattle.dd_calls.specs.declared.steps.Step.TheVariants as steps
use Rattle.dd_calls.specs.declared.steps.TheConstants.{MAX_CLIENTS}
use Rattle.dd_station.specs.Run.{State, start, next, after}
use Rattle.dd_calls.specs.Calls.{IsOfClient}
use Rattle.dd_trace.specs.Trace.{Moment, moment_of, moments, trace, whole_list, caller_memory}
use Rattle.dd_trace.specs.Causes.{first_of, step_causes}
use Rattle.dd_trace.specs.Entered.{entry_told, entries_told, ListIsTold}
use Rattle.dd_trace.specs.Headline.{MayRemember, IsRemembered, IsRight, HeadlineHolds}
use Rattle.dd_station.proofs.Stepped.{stepped_next}
use Rattle.dd_trace.proofs.Running.{IsRun, none_there, run_begun, run_next}
use Rattle.dd_trace.proofs.Others.{begins_after, begins_first}
use Rattle.dd_trace.proofs.ToldNext.{Told, told_next}
use Rattle.dd_trace.proofs.Refusing.{next_refused}
use Rattle.dd_trace.proofs.Showing.{next_shows}
use Rattle.dd_trace.proofs.ShowingBuffers.{next_buffer}
use Rattle.dd_trace.proofs.ShowingSlots.{next_slot}
use Rattle.dd_trace.proofs.Earlier.{BeginsWithEach, each_next}
use Rattle.dd_trace.proofs.Granting.{next_granted}
use Rattle.dd_trace.proofs.SlotsTold.{SlotIsTold, SlotsTold, slots_next}
use Rattle.dd_trace.proofs.ToldMore.{told-more}
use Rattle.dd_trace.proofs.Entering.{Enters, enters_next, entered_there}

-- In a run of a script, steps are left from a state on, after these moments: the clients are the script's, what is left
-- leads to the whole list, as many steps are done as moments, the list begins with that of each of them, and what it
-- has, what each duplicator remembers and the slot that it has were told.
record IsOnItsWay (script : Script) (done : List Moment) (s : State) (left : List Step) : Type 0 where
  apps : s.clients ≡ script.clients
  whole : (after s left).history ≡ whole_list script
  run : IsRun s
  calls : AllByRecursion (IsOfClient (length script.clients)) left
  counted : s.steps ≡ length done
  listed : s.history.entries ≡ entries_told script.clients [] done
  begun : BeginsWithEach done s.history
  told : Told (length script.clients) done s
  slots : SlotsTold (length script.clients) done s

-- ---- the next step

-- what holds of the script's clients holds of the state's
at_state : (P : ℕ → Type 0) (script : Script) (s : State) → s.clients ≡ script.clients → P (length script.clients)
    → P (length s.clients)
at_state P script s same p = subst (λ (apps : List ℕ). P (length apps)) (sym same) p

at_script : (P : ℕ → Type 0) (script : Script) (s : State) → s.clients ≡ script.clients → P (length s.clients)
    → P (length script.clients)
at_script P script s same p = subst (λ (apps : List ℕ). P (length apps)) same p

-- what the next step enters
way_enters : (script : Script) (done : List Moment) (s : State) (t : Step) (ts : List Step)
    → IsOnItsWay script done s (t ∷ ts) → Enters script.clients done (moment_of s t) (next s t).1.history
way_enters script done s t ts way =
    subst (λ (apps : List ℕ). Enters apps done (moment_of s t) (next s t).1.history) way.apps
    (enters_next s t done (at_state (λ n. IsOfClient n t) script s way.apps way.calls.0) way.counted
    (at_state (λ n. SlotsTold n done s) script s way.apps way.slots))

-- after it the run is on its way still
way_next : (script : Script) (done : List Moment) (s : State) (t : Step) (ts : List Step)
    → IsOnItsWay script done s (t ∷ ts) → IsOnItsWay script (done ++ moment_of s t ∷ []) (next s t).1 ts
way_next script done s t ts way =
    let now = done ++ moment_of s t ∷ [] in
    let later = (next s t).1 in
    let client = at_state (λ n. IsOfClient n t) script s way.apps way.calls.0 in
    let entry = entry_told script.clients done (moment_of s t) in
    record {
      apps = (stepped_next s t).0 ∙ way.apps;
      whole = way.whole;
      run = run_next s t way.run client;
      calls = way.calls.1;
      counted = (stepped_next s t).1 ∙ ap (λ n. n + 1) way.counted ∙ sym (length_push done (moment_of s t));
      listed =
          (way_enters script done s t ts way).entries
          ∙ ap (λ (es : List Entry). es ++ cons_option entry []) way.listed
          ∙ sym (told-more script.clients [] done (moment_of s t));
      begun = each_next s t done way.begun;
      told =
          at_script (λ n. Told n now later) script s way.apps
          (told_next s t done way.run client (at_state (λ n. Told n done s) script s way.apps way.told));
      slots =
          at_script (λ n. SlotsTold n now later) script s way.apps
          (slots_next s t done way.run client (at_state (λ n. SlotsTold n done s) script s way.apps way.slots));
    }

remembered : (s : State) (t : Step) (before : List Moment) → IsOfClient (length s.clients) t
    → Told (length s.clients) before s → IsRemembered before (caller_memory s t) t
remembered s (steps.Draw d) before client told = tt
remembered s (steps.Call k call) before client told = told k client.0 client.1

-- it is right
right_next : (script : Script) (done : List Moment) (s : State) (t : Step) (ts : List Step)
    → IsOnItsWay script done s (t ∷ ts) → IsRight script done (moment_of s t)
right_next script done s t ts way =
    let client = at_state (λ n. IsOfClient n t) script s way.apps way.calls.0 in
    let told = at_state (λ n. Told n done s) script s way.apps way.told in
    let shown = next_shows s t done way.run client way.begun told in
    record {
      one_list =
          begins_first s.history (after s (t ∷ ts)).history (begins_after s (t ∷ ts))
          ∙ ap (first_entries (length s.history.entries)) way.whole;
      listed = way.listed;
      remembered = remembered s t done client told;
      refused =
          next_refused s t way.run
          ∙ ap (λ (apps : List ℕ). first_of (step_causes apps s.history (caller_memory s t) t)) way.apps;
      granted = next_granted s t;
      frame = shown.0;
      surface = shown.1;
      desc = shown.2;
      buffer = next_buffer s t done client told;
      slot = next_slot s t;
      entered =
          entered_there script.clients done (moment_of s t) (next s t).1.history (whole_list script)
          (way_enters script done s t ts way)
          (subst (λ (h : History). Begins (next s t).1.history h) way.whole (begins_after (next s t).1 ts));
    }

-- ---- all steps

heads_same : {A : Type 0} (x y : A) (xs ys : List A) → x ∷ xs ≡ y ∷ ys → x ≡ y
heads_same x y xs ys e = cc

tails_same : {A : Type 0} (x y : A) (xs ys : List A) → x ∷ xs ≡ y ∷ ys → xs ≡ ys
tails_same x y xs ys e = cc

right_all : (script : Script) (done : List Moment) (s : State) (left : List Step) (before later : List Moment)
    (m : Moment) → IsOnItsWay script done s left → moments s left ≡ before ++ m ∷ later
    → IsRight script (done ++ before) m
right_all script done s [] [] later m way e = cc
right_all script done s [] (x ∷ before) later m way e = cc
right_all script done s (t ∷ ts) [] later m way e =
    subst (λ (n : Moment). IsRight script (done ++ []) n) (heads_same (moment_of s t) m _ later e)
    (subst (λ (ms : List Moment). IsRight script ms (moment_of s t)) (sym (append-nil done))
    (right_next script done s t ts way))
right_all script done s (t ∷ ts) (x ∷ before) later m way e =
    let same = heads_same (moment_of s t) x _ (before ++ m ∷ later) e in
    subst (λ (n : Moment). IsRight script (done ++ n ∷ before) m) same
    (subst (λ (ms : List Moment). IsRight script ms m) (append_assoc done (moment_of s t ∷ []) before)
    (right_all script (done ++ moment_of s t ∷ []) (next s t).1 ts before later m (way_next script done s t ts way)
    (tails_same (moment_of s t) x _ (before ++ m ∷ later) e)))

-- ---- the whole run

abbrev no_memory : Option Memory
no_memory = None

-- before the first step nothing was told, and nobody remembers anything
none_told : (script : Script) → Told (length script.clients) [] (start script.spec script.clients)
none_told script = λ k one to.
    subst (λ (m : Option Memory). MayRemember k [] m)
    (sym (none_there (length script.clients) (k - 1) no_memory refl)) refl

none_slots : (script : Script) → SlotsTold (length script.clients) [] (start script.spec script.clients)
none_slots script = λ k one to.
    subst (λ (m : Option Memory). SlotIsTold k [] m (begun script.spec))
    (sym (none_there (length script.clients) (k - 1) no_memory refl)) tt

way_begun : (script : Script) → length script.clients ≤ MAX_CLIENTS
    → AllByRecursion (IsOfClient (length script.clients)) script.steps
    → IsOnItsWay script [] (start script.spec script.clients) script.steps
unfolding whole_list
way_begun script few calls = record {
  apps = refl;
  whole = refl;
  run = run_begun script.spec script.clients few;
  calls = calls;
  counted = refl;
  listed = refl;
  begun = tt;
  told = none_told script;
  slots = none_slots script;
}

pub headline_holds : HeadlineHolds
unfolding trace
headline_holds script few calls before later m e =
    right_all script [] (start script.spec script.clients) script.steps before later m (way_begun script few calls) e

-- ---- the one list

listed_all : (script : Script) (done : List Moment) (s : State) (left : List Step) → IsOnItsWay script done s left
    → (after s left).history.entries ≡ entries_told script.clients [] (done ++ moments s left)
listed_all script done s [] way =
    way.listed ∙ ap (λ (ms : List Moment). entries_told script.clients [] ms) (sym (append-nil done))
listed_all script done s (t ∷ ts) way =
    listed_all script (done ++ moment_of s t ∷ []) (next s t).1 ts (way_next script done s t ts way)
    ∙ ap (λ (ms : List Moment). entries_told script.clients [] ms)
    (append_assoc done (moment_of s t ∷ []) (moments (next s t).1 ts))

pub list_told : ListIsTold
unfolding trace whole_list
list_told script few calls =
    listed_all script [] (start script.spec script.clients) script.steps (way_begun script few calls)
