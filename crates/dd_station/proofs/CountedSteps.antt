-- Steps counted one after another: what was counted so far, and what is left to count. No count passes its type's end.
use Rattle.std.proofs.Common.{◌≡◌, ℕ, zero, suc, ◌+◌, ◌*◌, ◌^◌, ◌<◌, ◌≤◌, Bool, true, false, List, [], ◌∷◌, ◌++◌, length, drop, get_or, refl, sym, ap, ◌∙◌, subst, arith, append_assoc}
use Rattle.dd_calls.specs.declared.answers.Answer.{Answer}
use Rattle.dd_calls.specs.declared.answers.Answer.TheVariants as answer
use Rattle.dd_dup.specs.Reply.{IsBounded}
use Rattle.dd_calls.specs.declared.counting.Counts.{Counts}
use Rattle.dd_calls.specs.declared.steps.Step.{Step}
use Rattle.dd_station.specs.Run.{State, next, answers, after}
use Rattle.dd_calls.specs.Parts.{is_frame}
use Rattle.dd_calls.specs.Counting.{is_coalesced, is_entry, is_refusal, presents_counted, moves_counted, rects_counted, one_if, counts_of, counted, CountsFit}
use Rattle.dd_calls.proofs.Counted.{counted_more}
use Rattle.dd_station.proofs.Stepped.{stepped_next}

-- ---- no count is too large

-- the counts of k answers: no answer adds more than 32 bits hold
pub record AreWithin (c : Counts) (k : ℕ) : Type 0 where
  pub acquired : c.acquired ≤ k * 2 ^ 32
  pub coalesced : c.coalesced ≤ k * 2 ^ 32
  pub entries : c.entries ≤ k * 2 ^ 32
  pub frames : c.frames ≤ k * 2 ^ 32
  pub moves : c.moves ≤ k * 2 ^ 32
  pub rects : c.rects ≤ k * 2 ^ 32
  pub refused : c.refused ≤ k * 2 ^ 32
  pub steps : c.steps ≤ k * 2 ^ 32

none_within : AreWithin (counts_of []) 0
unfolding counts_of
none_within = record {
  acquired = omega arith;
  coalesced = omega arith;
  entries = omega arith;
  frames = omega arith;
  moves = omega arith;
  rects = omega arith;
  refused = omega arith;
  steps = omega arith;
}

at_most_one : (b : Bool) → one_if b ≤ 1
at_most_one true = omega arith
at_most_one false = omega arith

-- what an answer tells of fits 32 bits
record TellsFew (a : Answer) : Type 0 where
  presents : presents_counted a ≤ 2 ^ 32
  moves : moves_counted a ≤ 2 ^ 32
  rects : rects_counted a ≤ 2 ^ 32

no_frame : (a : Answer) → presents_counted a ≡ 0 → moves_counted a ≡ 0 → rects_counted a ≡ 0 → TellsFew a
no_frame a p m r = record { presents = omega (arith, p); moves = omega (arith, m); rects = omega (arith, r) }

tells_few : (a : Answer) → IsBounded a → TellsFew a
tells_few (answer.Frame info moves dirt) h =
    record { presents = omega (arith, h.2); moves = omega (arith, h.0); rects = omega (arith, h.1) }
tells_few a h = no_frame a refl refl refl

more_within : (c : Counts) (k : ℕ) (a : Answer) → AreWithin c k → IsBounded a → AreWithin (counted c a) (k + 1)
unfolding counted
more_within c k a w h =
    let few = tells_few a h in
    record {
      acquired = omega (arith, w.acquired, at_most_one (is_frame a));
      coalesced = omega (arith, w.coalesced, at_most_one (is_coalesced a));
      entries = omega (arith, w.entries, at_most_one (is_entry a));
      frames = omega (arith, w.frames, few.presents);
      moves = omega (arith, w.moves, few.moves);
      rects = omega (arith, w.rects, few.rects);
      refused = omega (arith, w.refused, at_most_one (is_refusal a));
      steps = omega (arith, w.steps);
    }

within_fits : (c : Counts) (k : ℕ) → AreWithin c k → k < 2 ^ 32 → CountsFit c
within_fits c k w few = record {
  acquired = omega (arith, w.acquired);
  coalesced = omega (arith, w.coalesced);
  entries = omega (arith, w.entries);
  frames = omega (arith, w.frames);
  moves = omega (arith, w.moves);
  rects = omega (arith, w.rects);
  refused = omega (arith, w.refused);
  steps = omega (arith, w.steps);
}

-- ---- the steps

-- The counts are of the answers so far; those that are left make all answers, and the state at the end.
pub record SoFar (counts : Counts) (first state : State) (ss : List Step) (k : ℕ) : Type 0 where
  pub told : List Answer
  pub counted : counts ≡ counts_of told
  pub rest : told ++ answers state (drop k ss) ≡ answers first ss
  pub end : after state (drop k ss) ≡ after first ss
  pub clients : state.clients ≡ first.clients
  pub steps : state.steps ≡ first.steps + k
  pub within : AreWithin counts k

-- the steps that are left begin with the one at the place
left_at : (ss : List Step) (k : ℕ) (t : Step) → k < length ss → t ≡ get_or ss k t → drop k ss ≡ t ∷ drop (k + 1) ss
left_at [] k t k_in is = absurd (omega arith)
left_at (s ∷ ss) zero t k_in is = ap (λ (x : Step). x ∷ ss) (sym is)
left_at (s ∷ ss) (suc k) t k_in is =
    let one_on : suc (k + 1) ≡ suc k + 1 = omega arith in
    left_at ss k t (omega arith) is ∙ ap (λ n. t ∷ drop n (s ∷ ss)) one_on

pub none_so_far : (c : Counts) (first : State) (ss : List Step) → c ≡ counts_of [] → SoFar c first first ss 0
none_so_far c first ss e = record {
  told = [];
  counted = e;
  rest = refl;
  end = refl;
  clients = refl;
  steps = omega arith;
  within = subst (λ x. AreWithin x 0) (sym e) none_within;
}

-- the next answer can be counted
pub next_fits : (c : Counts) (first state : State) (ss : List Step) (k : ℕ) (a : Answer) → SoFar c first state ss k
    → IsBounded a → k < length ss → length ss < 2 ^ 32 → CountsFit (counted c a)
next_fits c first state ss k a so h k_in few =
    within_fits (counted c a) (k + 1) (more_within c k a so.within h) (omega arith)

-- one step more
pub one_so_far : (c d : Counts) (first state later : State) (ss : List Step) (k : ℕ) (t : Step) (a : Answer)
    → SoFar c first state ss k → k < length ss → t ≡ get_or ss k t → a ≡ (next state t).0 → later ≡ (next state t).1
    → IsBounded a → d ≡ counted c a → SoFar d first later ss (k + 1)
one_so_far c d first state later ss k t a so k_in is a_is later_is h d_is =
    let stays = stepped_next state t in
    let left = left_at ss k t k_in is in
    let tail = drop (k + 1) ss in
    let counted_now : d ≡ counts_of (so.told ++ a ∷ []) =
    d_is ∙ ap (λ x. counted x a) so.counted ∙ sym (counted_more so.told a) in
    let told_now : (so.told ++ a ∷ []) ++ answers later tail ≡ answers first ss =
    append_assoc so.told (a ∷ []) (answers later tail)
    ∙ ap (λ (x : Answer). so.told ++ x ∷ answers later tail) a_is
    ∙ ap (λ (s : State). so.told ++ (next state t).0 ∷ answers s tail) later_is
    ∙ ap (λ (ts : List Step). so.told ++ answers state ts) (sym left)
    ∙ so.rest in
    record {
      told = so.told ++ a ∷ [];
      counted = counted_now;
      rest = told_now;
      end = ap (λ (s : State). after s tail) later_is ∙ ap (after state) (sym left) ∙ so.end;
      clients = ap (λ (s : State). s.clients) later_is ∙ stays.0 ∙ so.clients;
      steps = omega (arith, ap (λ (s : State). s.steps) later_is, stays.1, so.steps);
      within = subst (λ x. AreWithin x (k + 1)) (sym d_is) (more_within c k a so.within h);
    }
