-- The clients of a made script between two looks, and what a look makes of them.
use Rattle.std.proofs.Common.{◌≡◌, ℕ, zero, suc, ◌+◌, ◌≤◌, true, false, Bool, ◌||◌, List, [], ◌∷◌, ◌++◌, length, drop, Some, None, Result, Ok, Err, refl, ap, sym, ◌∙◌, subst, arith}
use Rattle.std.specs.Prelude.{if◌then◌else◌, is_some}
use Rattle.std.specs.List.{list_all, list_any}
use Rattle.std.proofs.lemmas.Bool.{and_from, or_parts, false≢true}
use Rattle.std.proofs.lemmas.List.Folds.{list_all-append}
use Rattle.dd_calls.specs.declared.answers.Answer.{Answer}
use Rattle.dd_calls.specs.declared.answers.Answer.TheVariants as answers
use Rattle.dd_calls.specs.declared.answers.DupRefusal.{DupRefusal}
use Rattle.dd_calls.specs.declared.answers.DupRefusal.TheVariants.{AccessLost, InvalidCall, WaitTimeout}
use Rattle.dd_log.specs.declared.events.Entry.{Entry}
use Rattle.dd_log.specs.History.{History, any_cuts_off, any_presents, any_points, cuts_off}
use Rattle.dd_calls.specs.declared.dup_call.DupCall.TheVariants as asked
use Rattle.dd_dup.specs.declared.frame.Frame.{Frame}
use Rattle.dd_dup.specs.News.{frame}
use Rattle.dd_dup.specs.Reply.{Memory, is_lost, is_new, granted, acquire_reply, acquire_answer, acquire_memory, with_frame, without_frame, lost_memory, memory_after, release_answer, reply}
use Rattle.dd_calls.specs.declared.steps.Step.{Step}
use Rattle.dd_calls.specs.declared.steps.Step.TheVariants.{Call}
use Rattle.dd_calls.specs.declared.steps.ClientCall.TheVariants.{Acquire, Release}
use Rattle.dd_station.specs.Run.{State, next, answers, after}
use Rattle.dd_gen.specs.Generator.{look}
use Rattle.dd_playback.specs.MadeScripts.{is_no_refusal}
use Rattle.dd_playback.proofs.Calm.{Calm}

-- ---- steps that are granted

-- no step is refused, and then the state is this
pub record Grants (s : State) (ts : List Step) (then_is : State) : Type 0 where
  pub granted : list_all is_no_refusal (answers s ts) ≡ true
  pub after : after s ts ≡ then_is

answers-append : (s : State) (ts us : List Step) → answers s (ts ++ us) ≡ answers s ts ++ answers (after s ts) us
answers-append s [] us = refl
answers-append s (t ∷ ts) us = ap (λ (others : List Answer). (next s t).0 ∷ others) (answers-append (next s t).1 ts us)

after-append : (s : State) (ts us : List Step) → after s (ts ++ us) ≡ after (after s ts) us
after-append s [] us = refl
after-append s (t ∷ ts) us = after-append (next s t).1 ts us

pub grants_none : (s : State) → Grants s [] s
grants_none s = record { granted = refl; after = refl }

pub grants_one : (s : State) (t : Step) (a : Answer) (r : State) → next s t ≡ (a, r) → is_no_refusal a ≡ true
    → Grants s (t ∷ []) r
grants_one s t a r e g =
    record {
      granted = and_from _ _ (ap (λ (p : Answer × State). is_no_refusal p.0) e ∙ g) refl;
      after = ap (λ (p : Answer × State). p.1) e;
    }

pub grants_both : (s r q : State) (ts us : List Step) → Grants s ts r → Grants r us q → Grants s (ts ++ us) q
grants_both s r q ts us one two =
    let later = subst (λ (z : State). list_all is_no_refusal (answers z us) ≡ true) (sym one.after) two.granted in
    record {
      granted =
          ap (list_all is_no_refusal) (answers-append s ts us)
          ∙ list_all-append is_no_refusal (answers s ts) (answers (after s ts) us)
          ∙ and_from _ _ one.granted later;
      after = after-append s ts us ∙ ap (λ (z : State). after z us) one.after ∙ two.after;
    }

-- ---- one duplicator

-- a duplicator whose opening stands at a place holds no frame, isn't lost, and has seen no more than the list
pub record Waits (place : ℕ) (h : History) (m : Memory) : Type 0 where
  pub opened : m.opened ≡ place
  pub held : m.held ≡ None
  pub lost : m.lost ≡ false
  pub within : m.mark ≤ length h.entries

-- and a present is new to it
abbrev pub HasNews : History → Memory → Type 0
HasNews h m = any_presents (drop m.mark h.entries) ≡ true

-- after a look
abbrev pub looked : History → Memory → Memory
looked h m = record m { mark = length h.entries; pointer_mark = length h.entries; held = None }

none_behind : {A : Type 0} (p : A → Bool) (n : ℕ) (xs : List A) → list_any p xs ≡ false → list_any p (drop n xs) ≡ false
none_behind p zero xs none = none
none_behind p (suc n) [] none = refl
none_behind p (suc n) (x ∷ xs) none = none_behind p n xs (or_parts (p x) (list_any p xs) none).1

-- it isn't lost on a list where nothing loses duplicators
still_there : (h : History) (m : Memory) → m.lost ≡ false → any_cuts_off h.entries ≡ false → is_lost m h ≡ false
still_there h m there none =
    ap (λ b. b || any_cuts_off (drop (m.opened + 1) h.entries)) there
    ∙ none_behind (λ (e : Entry). cuts_off e.event) (m.opened + 1) h.entries none

-- what is given, unless a cause stands
abbrev answered : {A : Type 0} → Bool → Bool → Bool → A → Result A DupRefusal
answered lost held new given =
    if lost then Err AccessLost
    else if held then Err InvalidCall
    else (if new then Ok given else Err WaitTimeout)

ok_where : {A : Type 0} (lost held new : Bool) (given : A) → lost ≡ false → held ≡ false → new ≡ true
    → answered lost held new given ≡ Ok given
ok_where false false true given l h n = refl
ok_where true held new given l h n = absurd (false≢true (sym l))
ok_where false true new given l h n = absurd (false≢true (sym h))
ok_where false false false given l h n = absurd (false≢true n)

frame_granted : {A : Type 0} (h : History) (m : Memory) (given : A) → is_lost m h ≡ false → m.held ≡ None → HasNews h m
    → granted m h given ≡ Ok given
frame_granted h m given there none new =
    ok_where (is_lost m h) (is_some m.held) (is_new m h) given there (ap is_some none)
    (ap (λ b. b || any_points (drop m.pointer_mark h.entries)) new)

-- ---- a look

acquired : (h : History) (m : Memory) (place : ℕ) → Waits place h m → any_cuts_off h.entries ≡ false → HasNews h m
    → let f = frame h m.mark m.pointer_mark in
    reply asked.Acquire m h ≡ (answers.Frame f.info f.moves f.dirt, with_frame m (length h.entries) f)
acquired h m place w none new =
    let f = frame h m.mark m.pointer_mark in
    let there = still_there h m w.lost none in
    let is : acquire_reply m h ≡ Ok f = frame_granted h m f there w.held new in
    ap (λ (r : Result Frame DupRefusal). (acquire_answer r, acquire_memory m h)) is
    ∙ ap (λ (b : Bool).
    (acquire_answer (Ok f), if b then lost_memory m else memory_after m h (acquire_reply m h))) there
    ∙ ap (λ (r : Result Frame DupRefusal). (acquire_answer (Ok f), memory_after m h r)) is

released : (h : History) (m : Memory) (f : Frame) → is_lost m h ≡ false
    → let held = with_frame m (length h.entries) f in reply asked.Release held h ≡ (answers.Released, looked h m)
released h m f there =
    let held = with_frame m (length h.entries) f in
    ap (λ (b : Bool).
    (release_answer (if b then Err AccessLost else Ok tt), if b then lost_memory held else without_frame held)) there

-- A client looks, where the states differ in its memory and in the number of steps alone.
look_grants : (k : ℕ) (h : History) (with_it : Memory → ℕ → State)
    → ((x : Memory) (n : ℕ) → next (with_it x n) (Call k (Acquire 0))
    ≡ ((reply asked.Acquire x h).0, with_it (reply asked.Acquire x h).1 (n + 1)))
    → ((x : Memory) (n : ℕ) → next (with_it x n) (Call k Release)
    ≡ ((reply asked.Release x h).0, with_it (reply asked.Release x h).1 (n + 1)))
    → (m : Memory) (n place : ℕ) → Waits place h m → any_cuts_off h.entries ≡ false → HasNews h m
    → Grants (with_it m n) (look k) (with_it (looked h m) (n + 1 + 1))
look_grants k h with_it acquires releases m n place w none new =
    let f = frame h m.mark m.pointer_mark in
    let held = with_frame m (length h.entries) f in
    let there = still_there h m w.lost none in
    grants_both (with_it m n) (with_it held (n + 1)) (with_it (looked h m) (n + 1 + 1))
    (Call k (Acquire 0) ∷ []) (Call k Release ∷ [])
    (grants_one _ _ _ _
    (acquires m n ∙ ap (λ (q : Answer × Memory). (q.0, with_it q.1 (n + 1))) (acquired h m place w none new)) refl)
    (grants_one _ _ _ _
    (releases held (n + 1) ∙ ap (λ (q : Answer × Memory). (q.0, with_it q.1 (n + 1 + 1))) (released h m f there)) refl)

-- ---- all three clients

-- a list, the memories of the three clients, and the number of steps so far
pub record Rest : Type 0 where
  pub list : History
  pub first : Memory
  pub second : Memory
  pub third : Memory
  pub steps : ℕ

abbrev pub state_at : Rest → State
state_at r =
    record {
      history = r.list;
      clients = 1 ∷ 2 ∷ 3 ∷ [];
      memories = Some r.first ∷ Some r.second ∷ Some r.third ∷ [];
      steps = r.steps;
    }

-- the list is calm, and the three wait
pub record Rests (n : ℕ) (r : Rest) : Type 0 where
  pub calm : Calm n r.list
  pub first : Waits 0 r.list r.first
  pub second : Waits 1 r.list r.second
  pub third : Waits 2 r.list r.third

waits_looked : (place : ℕ) (h : History) (m : Memory) → Waits place h m → Waits place h (looked h m)
waits_looked place h m w = record { opened = w.opened; held = refl; lost = w.lost; within = omega arith }

-- what some steps make of three that rest: nothing is refused, and they rest again
pub record Goes (r : Rest) (ts : List Step) (n : ℕ) : Type 0 where
  pub rest : Rest
  pub grants : Grants (state_at r) ts (state_at rest)
  pub rests : Rests n rest

-- client 1 looks, and the others' news stay
pub looks_1 : (n : ℕ) (r : Rest) → Rests n r → HasNews r.list r.first → HasNews r.list r.second → HasNews r.list r.third
    → (g : Goes r (look 1) n) × HasNews g.rest.list g.rest.second × HasNews g.rest.list g.rest.third
unfolding next
looks_1 n r rests one two three =
    let with_it = λ (x : Memory) (k : ℕ). state_at (record r { first = x; steps = k }) in (
      record {
        rest = record r { first = looked r.list r.first; steps = r.steps + 1 + 1 };
        grants =
            look_grants 1 r.list with_it (λ x k. refl) (λ x k. refl) r.first r.steps 0 rests.first
            rests.calm.keeps one;
        rests =
            record {
              calm = rests.calm;
              first = waits_looked 0 r.list r.first rests.first;
              second = rests.second;
              third = rests.third;
            };
      },
      two,
      three,
    )

-- so does client 2 at times
pub looks_2 : (b : Bool) (n : ℕ) (r : Rest) → Rests n r → HasNews r.list r.second → HasNews r.list r.third
    → (g : Goes r (if b then look 2 else []) n) × HasNews g.rest.list g.rest.third
unfolding next
looks_2 false n r rests two three = (record { rest = r; grants = grants_none (state_at r); rests = rests }, three)
looks_2 true n r rests two three =
    let with_it = λ (x : Memory) (k : ℕ). state_at (record r { second = x; steps = k }) in (
      record {
        rest = record r { second = looked r.list r.second; steps = r.steps + 1 + 1 };
        grants =
            look_grants 2 r.list with_it (λ x k. refl) (λ x k. refl) r.second r.steps 1 rests.second
            rests.calm.keeps two;
        rests =
            record {
              calm = rests.calm;
              first = rests.first;
              second = waits_looked 1 r.list r.second rests.second;
              third = rests.third;
            };
      },
      three,
    )

-- and client 3
pub looks_3 : (b : Bool) (n : ℕ) (r : Rest) → Rests n r → HasNews r.list r.third → Goes r (if b then look 3 else []) n
unfolding next
looks_3 false n r rests three = record { rest = r; grants = grants_none (state_at r); rests = rests }
looks_3 true n r rests three =
    let with_it = λ (x : Memory) (k : ℕ). state_at (record r { third = x; steps = k }) in
    record {
      rest = record r { third = looked r.list r.third; steps = r.steps + 1 + 1 };
      grants =
          look_grants 3 r.list with_it (λ x k. refl) (λ x k. refl) r.third r.steps 2 rests.third
          rests.calm.keeps three;
      rests =
          record {
            calm = rests.calm;
            first = rests.first;
            second = rests.second;
            third = waits_looked 2 r.list r.third rests.third;
          };
    }
