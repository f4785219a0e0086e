-- No step of the script of a seed is refused: from its openings, over its rounds, to its closings.
use Rattle.std.proofs.Common.{◌≡◌, ℕ, ◌+◌, ◌<◌, ◌≤◌, true, false, Bool, List, [], ◌∷◌, ◌++◌, length, Option, Some, None, Result, Ok, Err, refl, ap, sym, ◌∙◌, arith}
use Rattle.std.specs.Prelude.{if◌then◌else◌}
use Rattle.std.proofs.lemmas.Bool.{false≢true}
use Rattle.dd_calls.specs.declared.answers.Answer.TheVariants.{Closed}
use Rattle.dd_calls.specs.declared.answers.CloseRefusal.{CloseRefusal}
use Rattle.dd_calls.specs.declared.answers.CloseRefusal.TheVariants as closings
use Rattle.dd_log.specs.declared.events.Entry.{Entry}
use Rattle.dd_log.specs.declared.events.Event.TheVariants as events
use Rattle.dd_log.specs.declared.events.Spec.{Spec}
use Rattle.dd_log.specs.Desk.{first_desk, desk_after, desk_of}
use Rattle.dd_log.specs.Slots.{slot_at}
use Rattle.dd_log.specs.History.{History, with_entry, desk, is_full}
use Rattle.dd_table.specs.Opening.{closing}
use Rattle.dd_dup.specs.Reply.{Memory}
use Rattle.dd_calls.specs.declared.steps.Step.{Step}
use Rattle.dd_calls.specs.declared.steps.Step.TheVariants.{Call}
use Rattle.dd_calls.specs.declared.steps.ClientCall.TheVariants.{Duplicate, Close}
use Rattle.dd_station.specs.Run.{State, start, next, run, next_number, closing_outcome}
use Rattle.dd_gen.specs.Generator.{screen, rounds, each_calls, made_steps, made}
use Rattle.dd_playback.specs.MadeScripts.{MadeScriptsAreGranted}
use Rattle.dd_playback.proofs.Calm.{Calm, calm_next, has_room}
use Rattle.dd_playback.proofs.Rests.{Grants, grants_one, grants_both, Waits, Rest, state_at, Rests}
use Rattle.dd_playback.proofs.RoundsGranted.{rounds_go}

-- ---- openings

abbrev made_spec : Spec
made_spec = record { modes = screen ∷ []; capacity = 4096; privileged = [] }

abbrev opened_by : ℕ → ℕ → Entry
opened_by slot client = record { actor = client; step = client; event = events.Opened slot client }

abbrev fresh : ℕ → Memory
fresh place = record { opened = place; mark = 0; pointer_mark = 0; held = None; lost = false }

-- the three have opened their duplicators
abbrev opened : Rest
opened =
    record {
      list = record { spec = made_spec; entries = opened_by 0 1 ∷ opened_by 1 2 ∷ opened_by 2 3 ∷ [] };
      first = fresh 0;
      second = fresh 1;
      third = fresh 2;
      steps = 3;
    }

open_grants : Grants (start made_spec (1 ∷ 2 ∷ 3 ∷ [])) (each_calls Duplicate) (state_at opened)
unfolding next desk_of first_desk desk_after
open_grants = record { granted = refl; after = refl }

fresh_waits : (place : ℕ) (h : History) → Waits place h (fresh place)
fresh_waits place h = record { opened = refl; held = refl; lost = refl; within = omega arith }

open_rests : Rests 3 opened
unfolding desk_of first_desk desk_after
open_rests =
    record {
      calm =
          record {
            modes = refl;
            capacity = refl;
            count = refl;
            goes_on = refl;
            mode = refl;
            keeps = refl;
            first = refl;
            second = refl;
            third = refl;
          };
      first = fresh_waits 0 opened.list;
      second = fresh_waits 1 opened.list;
      third = fresh_waits 2 opened.list;
    }

-- ---- closings

-- the slot, unless a cause stands
abbrev freed : Bool → Bool → ℕ → Result ℕ CloseRefusal
freed ended full slot = if ended then Err closings.Ended else (if full then Err closings.Full else Ok slot)

closed_where : (ended full : Bool) (slot : ℕ) → ended ≡ false → full ≡ false
    → freed ended full slot ≡ Ok slot
closed_where false false slot e f = refl
closed_where true full slot e f = absurd (false≢true (sym e))
closed_where false true slot e f = absurd (false≢true (sym f))

-- a client's duplicator closes
closes : (n : ℕ) (h : History) (m : Memory) (place slot : ℕ) → Calm n h → n + 1 < 4096 → m.opened ≡ place
    → slot_at h place ≡ Some slot → closing h (slot_at h m.opened) ≡ Ok slot
closes n h m place slot c room opened_at is =
    ap (λ (p : ℕ). closing h (slot_at h p)) opened_at ∙ ap (closing h) is
    ∙ closed_where (desk h).ended (is_full h) slot c.goes_on (has_room n h c room)

-- a list with a closing more is calm still
abbrev closed_by : History → ℕ → ℕ → ℕ → History
closed_by h client step slot =
    with_entry h (record { actor = client; step = step; event = events.Closed slot })

calm_closed : (n : ℕ) (h : History) (client step slot : ℕ) → 3 ≤ n → Calm n h
    → Calm (n + 1) (closed_by h client step slot)
calm_closed n h client step slot some c =
    calm_next n h _ some c (record { goes_on = refl; keeps = refl; mode = refl })

-- the clients may have closed
abbrev state_of : History → Option Memory → Option Memory → Option Memory → ℕ → State
state_of h first second third steps =
    record { history = h; clients = 1 ∷ 2 ∷ 3 ∷ []; memories = first ∷ second ∷ third ∷ []; steps = steps }

close_grants : (s : State) (k slot : ℕ) (o : Result ℕ CloseRefusal) (r : State)
    → next s (Call k Close) ≡ closing_outcome o s k → o ≡ Ok slot → (closing_outcome (Ok slot) s k).1 ≡ r
    → Grants s (Call k Close ∷ []) r
close_grants s k slot o r is ok then_is =
    grants_one s (Call k Close) (Closed (next_number s)) r
    (is ∙ ap (λ (x : Result ℕ CloseRefusal). closing_outcome x s k) ok
    ∙ ap (λ (z : State). (Closed (next_number s), z)) then_is)
    refl

record EndsAt (s : State) (ts : List Step) (n : ℕ) : Type 0 where
  then_is : State
  grants : Grants s ts then_is
  count : length then_is.history.entries ≡ n

close_all : (n : ℕ) (r : Rest) → Rests n r → 3 ≤ n → n + 3 < 4096 → EndsAt (state_at r) (each_calls Close) (n + 3)
unfolding next
close_all n r rests some room =
    let a = r.first in
    let b = r.second in
    let c = r.third in
    let k = r.steps in
    let h0 = r.list in
    let h1 = closed_by h0 1 (k + 1) 0 in
    let h2 = closed_by h1 2 (k + 1 + 1) 1 in
    let h3 = closed_by h2 3 (k + 1 + 1 + 1) 2 in
    let calm1 = calm_closed n h0 1 (k + 1) 0 some rests.calm in
    let calm2 = calm_closed (n + 1) h1 2 (k + 1 + 1) 1 (omega arith) calm1 in
    let calm3 = calm_closed (n + 1 + 1) h2 3 (k + 1 + 1 + 1) 2 (omega arith) calm2 in
    let s0 = state_of h0 (Some a) (Some b) (Some c) k in
    let s1 = state_of h1 None (Some b) (Some c) (k + 1) in
    let s2 = state_of h2 None None (Some c) (k + 1 + 1) in
    let s3 = state_of h3 None None None (k + 1 + 1 + 1) in
    let count = calm3.count in
    record {
      then_is = s3;
      grants =
          grants_both s0 s2 s3 (Call 1 Close ∷ Call 2 Close ∷ []) (Call 3 Close ∷ [])
          (grants_both s0 s1 s2 (Call 1 Close ∷ []) (Call 2 Close ∷ [])
          (close_grants s0 1 0 (closing h0 (slot_at h0 a.opened)) s1 refl
          (closes n h0 a 0 0 rests.calm (omega arith) rests.first.opened rests.calm.first) refl)
          (close_grants s1 2 1 (closing h1 (slot_at h1 b.opened)) s2 refl
          (closes (n + 1) h1 b 1 1 calm1 (omega arith) rests.second.opened calm1.second) refl))
          (close_grants s2 3 2 (closing h2 (slot_at h2 c.opened)) s3 refl
          (closes (n + 1 + 1) h2 c 2 2 calm2 (omega arith) rests.third.opened calm2.third) refl);
      count = omega (arith, count);
    }

-- ---- the whole script

all_go : (seed : ℕ) → EndsAt (start made_spec (1 ∷ 2 ∷ 3 ∷ [])) (made_steps seed) 406
unfolding made_steps
all_go seed =
    let begun = start made_spec (1 ∷ 2 ∷ 3 ∷ []) in
    let all = (rounds 300 seed).value in
    let going = rounds_go 300 seed opened open_rests (omega arith) in
    let ends = close_all 403 going.rest going.rests (omega arith) (omega arith) in
    record {
      then_is = ends.then_is;
      grants =
          grants_both begun (state_at going.rest) ends.then_is (each_calls Duplicate ++ all) (each_calls Close)
          (grants_both begun (state_at opened) (state_at going.rest) (each_calls Duplicate) all open_grants
          going.grants) ends.grants;
      count = ends.count;
    }

pub made_granted : MadeScriptsAreGranted
unfolding made run
made_granted seed =
    let all = all_go seed in
    record {
      answers = all.grants.granted;
      entered = ap (λ (z : State). length z.history.entries) all.grants.after ∙ all.count;
    }
