-- No step of the rounds of a made script is refused.
use Rattle.std.proofs.Common.{◌≡◌, ℕ, zero, suc, ◌+◌, ◌*◌, ◌%◌, ◌<◌, ◌≤◌, true, false, Bool, ◌||◌, List, [], ◌∷◌, ◌++◌, length, drop, Option, refl, ap, sym, ◌∙◌, subst, arith, add-zero, length-append}
use Rattle.std.specs.Prelude.{if◌then◌else◌, ◌==◌}
use Rattle.std.proofs.lemmas.Bool.{or_right}
use Rattle.dd_ops.specs.declared.operations.Op.{Op}
use Rattle.dd_log.specs.declared.refusal.LogRefusal.{LogRefusal}
use Rattle.dd_log.specs.declared.events.Draw as draws
use Rattle.dd_log.specs.declared.events.Draw.TheVariants as drawings
use Rattle.dd_log.specs.declared.events.Entry.{Entry}
use Rattle.dd_log.specs.declared.events.Event.TheVariants as events
use Rattle.dd_log.specs.History.{History, with_entry, is_present, any_presents}
use Rattle.dd_log.proofs.Snoc.{any_drop_push}
use Rattle.dd_dup.specs.Reply.{Memory}
use Rattle.dd_calls.specs.declared.steps.Step.{Step}
use Rattle.dd_calls.specs.declared.steps.Step.TheVariants.{Draw}
use Rattle.dd_station.specs.Run.{next, next_number, one_step_on, draw_answer, draw_history}
use Rattle.dd_gen.specs.Making.{Making, give}
use Rattle.dd_gen.specs.Generator.{operations, point, pointer, look, looks_of, looks, round, rounds}
use Rattle.dd_gen.specs.EverySeed.{is_made_drawing}
use Rattle.dd_gen.proofs.Passing.{operations-pass, point-passes}
use Rattle.dd_playback.proofs.Calm.{calm_next, calm_drawing, drawing_allowed}
use Rattle.dd_playback.proofs.Rests.{Grants, grants_none, grants_one, grants_both, Waits, HasNews, Rest, state_at, Rests, Goes, looks_1, looks_2, looks_3}

-- ---- drawing

waits_next : (place : ℕ) (h : History) (e : Entry) (m : Memory) → Waits place h m → Waits place (with_entry h e) m
waits_next place h e m w =
    let within = w.within in
    record {
      opened = w.opened;
      held = w.held;
      lost = w.lost;
      within = simp length-append (omega (arith, within));
    }

-- a present is new to those that wait, and what was new is new still
news_present : (place : ℕ) (h : History) (e : Entry) (m : Memory) → Waits place h m → is_present e.event ≡ true
    → HasNews (with_entry h e) m
news_present place h e m w here =
    any_drop_push (λ (x : Entry). is_present x.event) m.mark h.entries e w.within
    ∙ or_right (any_presents (drop m.mark h.entries)) (is_present e.event) here

news_next : (place : ℕ) (h : History) (e : Entry) (m : Memory) → Waits place h m → HasNews h m
    → HasNews (with_entry h e) m
news_next place h e m w new =
    any_drop_push (λ (x : Entry). is_present x.event) m.mark h.entries e w.within
    ∙ ap (λ b. b || is_present e.event) new

abbrev entry : Rest → draws.Draw → Entry
entry r d = record { actor = 0; step = r.steps + 1; event = events.Draw d }

abbrev drawn : Rest → draws.Draw → Rest
drawn r d = record r { list = with_entry r.list (entry r d); steps = r.steps + 1 }

draw_grants : (n : ℕ) (r : Rest) (d : draws.Draw) → Rests n r → n + 1 < 4096 → is_made_drawing d ≡ true
    → Grants (state_at r) (Draw d ∷ []) (state_at (drawn r d))
unfolding next
draw_grants n r d rests room t =
    let s = state_at r in
    grants_one s (Draw d) _ _
    (ap (λ (o : Option LogRefusal). (draw_answer o (next_number s), one_step_on s (draw_history o r.list (entry r d))))
    (drawing_allowed n r.list d rests.calm room t))
    refl

draw_rests : (n : ℕ) (r : Rest) (d : draws.Draw) → Rests n r → 3 ≤ n → is_made_drawing d ≡ true
    → Rests (n + 1) (drawn r d)
draw_rests n r d rests some t =
    record {
      calm = calm_next n r.list (entry r d) some rests.calm (calm_drawing r.list d t);
      first = waits_next 0 r.list (entry r d) r.first rests.first;
      second = waits_next 1 r.list (entry r d) r.second rests.second;
      third = waits_next 2 r.list (entry r d) r.third rests.third;
    }

-- what is drawn is new to all three
record News (r : Rest) : Type 0 where
  first : HasNews r.list r.first
  second : HasNews r.list r.second
  third : HasNews r.list r.third

record GoesOn (r : Rest) (ts : List Step) (n : ℕ) : Type 0 where
  goes : Goes r ts n
  news : News goes.rest

present_goes : (n : ℕ) (r : Rest) (ops : List Op) → Rests n r → 3 ≤ n → n + 1 < 4096
    → is_made_drawing (drawings.Present ops) ≡ true → GoesOn r (Draw (drawings.Present ops) ∷ []) (n + 1)
present_goes n r ops rests some room t =
    let d = drawings.Present ops in
    record {
      goes =
          record {
            rest = drawn r d;
            grants = draw_grants n r d rests room t;
            rests = draw_rests n r d rests some t;
          };
      news =
          record {
            first = news_present 0 r.list (entry r d) r.first rests.first refl;
            second = news_present 1 r.list (entry r d) r.second rests.second refl;
            third = news_present 2 r.list (entry r d) r.third rests.third refl;
          };
    }

-- so many entries, where something is entered at times
abbrev pub part : Bool → ℕ
part b = if b then 1 else 0

pointer_goes : (b : Bool) (make : Making (List Step)) (g n : ℕ) (r : Rest) (d : draws.Draw) → Rests n r → News r → 3 ≤ n
    → n + 1 < 4096 → (make g).value ≡ Draw d ∷ [] → is_made_drawing d ≡ true
    → GoesOn r ((if b then make else give []) g).value (n + part b)
pointer_goes false make g n r d rests news some room is t =
    let same = subst (λ (k : ℕ). Rests k r) (sym (add-zero n)) rests in
    record { goes = record { rest = r; grants = grants_none (state_at r); rests = same }; news = news }
pointer_goes true make g n r d rests news some room is t =
    subst (λ (ts : List Step). GoesOn r ts (n + 1)) (sym is)
    (record {
      goes =
          record {
            rest = drawn r d;
            grants = draw_grants n r d rests room t;
            rests = draw_rests n r d rests some t;
          };
      news =
          record {
            first = news_next 0 r.list (entry r d) r.first rests.first news.first;
            second = news_next 1 r.list (entry r d) r.second rests.second news.second;
            third = news_next 2 r.list (entry r d) r.third rests.third news.third;
          };
    })

-- ---- rounds

pointed : (i g n : ℕ) (r : Rest) → Rests n r → News r → 3 ≤ n → n + 1 < 4096
    → GoesOn r (pointer i g).value (n + part (i % 3 == 0))
unfolding pointer
pointed i g n r rests news some room =
    pointer_goes (i % 3 == 0) _ g n r (drawings.Pointer (point g).value true) rests news some room refl (point-passes g)

abbrev both_go : (r : Rest) (ts us : List Step) (m n : ℕ) → (g : Goes r ts m) → Goes g.rest us n → Goes r (ts ++ us) n
both_go r ts us m n g k =
    record {
      rest = k.rest;
      grants = grants_both (state_at r) (state_at g.rest) (state_at k.rest) ts us g.grants k.grants;
      rests = k.rests;
    }

looks_go : (i n : ℕ) (r : Rest) → Rests n r → News r → Goes r (looks i) n
unfolding looks
looks_go i n r rests news =
    let one = looks_1 n r rests news.first news.second news.third in
    let two = looks_2 (i % 4 == 0) n one.0.rest one.0.rests one.1 one.2 in
    let three = looks_3 (i % 25 == 0) n two.0.rest two.0.rests two.1 in
    both_go r (look 1 ++ looks_of 2 4 i) (looks_of 3 25 i) n n
    (both_go r (look 1) (looks_of 2 4 i) n n one.0 two.0) three

round_goes : (i g n : ℕ) (r : Rest) → Rests n r → 3 ≤ n → n + 2 < 4096
    → Goes r (round i g).value (n + 1 + part (i % 3 == 0))
unfolding round
round_goes i g n r rests some room =
    let ops = (operations i g).value in
    let later = (operations i g).state in
    let k = n + 1 + part (i % 3 == 0) in
    let present = present_goes n r ops rests some (omega arith) (operations-pass i g) in
    let at = present.goes in
    let pointed_at = pointed i later (n + 1) at.rest at.rests present.news (omega arith) (omega arith) in
    let looked = looks_go i k pointed_at.goes.rest pointed_at.goes.rests pointed_at.news in
    both_go r (Draw (drawings.Present ops) ∷ []) ((pointer i later).value ++ looks i) (n + 1) k at
    (both_go at.rest (pointer i later).value (looks i) k k pointed_at.goes looked)

-- so many entries have the first rounds
abbrev pub entered : ℕ → ℕ
entered zero = 0
entered (suc n) = entered n + (1 + part (suc n % 3 == 0))

part_small : (b : Bool) → part b ≤ 1
part_small true = omega arith
part_small false = omega arith

entered_few : (m : ℕ) → entered m ≤ 2 * m
entered_few zero = omega arith
entered_few (suc m) =
    let before = entered_few m in
    let one = part_small (suc m % 3 == 0) in
    omega (arith, before, one)

pub rounds_go : (m g : ℕ) (r : Rest) → Rests 3 r → m ≤ 300 → Goes r (rounds m g).value (3 + entered m)
unfolding rounds
rounds_go zero g r rests few = record { rest = r; grants = grants_none (state_at r); rests = rests }
rounds_go (suc m) g r rests few =
    let before = rounds_go m g r rests (omega arith) in
    let small = entered_few m in
    let later = (rounds m g).state in
    let here = 3 + entered m in
    let last = round_goes (suc m) later here before.rest before.rests (omega arith) (omega (arith, small, few)) in
    let same : here + 1 + part (suc m % 3 == 0) ≡ 3 + entered (suc m) = omega arith in
    subst (Goes r ((rounds m g).value ++ (round (suc m) later).value)) same
    (both_go r (rounds m g).value (round (suc m) later).value here (here + 1 + part (suc m % 3 == 0)) before last)
