-- Steps played one after another: what was written and kept so far, and what is left to write.
use Rattle.std.proofs.Common.{◌≡◌, ℕ, zero, suc, ◌+◌, ◌<◌, ◌≤◌, List, [], ◌∷◌, ◌++◌, length, drop, get_or, Option, Result, Ok, Err, refl, sym, ap, ◌∙◌, subst, arith, append_assoc, append-nil}
use Rattle.std.specs.List.{AllByRecursion}
use Rattle.std.specs.Io.KnownBytes.{Appends}
use Rattle.std.proofs.lemmas.List.{drop_all}
use Rattle.std.proofs.KnownBytes.{Appends-nil, Appends-trans}
use Rattle.dd_calls.specs.declared.steps.Step.{Step}
use Rattle.dd_station.specs.Run.{State, next, answers}
use Rattle.dd_calls.specs.Calls.{IsOfClient}
use Rattle.dd_station.proofs.Stepped.{stepped_next}
use Rattle.dd_script_write.specs.Texts.{line, text}
use Rattle.dd_prog.specs.declared.fault.RunFault.{RunFault}
use Rattle.dd_prog.specs.Exchange.{Side, side, Took}
use Rattle.dd_prog.specs.Outcome.{WritesText}
use Rattle.dd_prog.specs.Keeping.{KeepsRest}
use Rattle.dd_prog.proofs.Kept.{stopped_in_all}

-- Of the text of all answers a front was written, what follows is kept, and the rest is the text of the answers to the
-- steps that are left.
pub record SoFar {K : Type 0} (sink : Side K) (kept : List ℕ) (first state : State) (ss : List Step) (k : ℕ)
    : Type 0 where
  pub wrote : List ℕ
  pub took : Took sink wrote
  pub rest : wrote ++ (kept ++ text (answers state (drop k ss))) ≡ text (answers first ss)
  pub clients : state.clients ≡ first.clients
  pub steps : state.steps ≡ first.steps + k
  pub later : sink.faults sink.old ≤ sink.faults sink.new

text-cons : (s : State) (t : Step) (ts : List Step) → text (answers s (t ∷ ts)) ≡ line (next s t).0
    ++ text (answers (next s t).1 ts)
unfolding text
text-cons s t ts = refl

text-none : (s : State) → text (answers s []) ≡ []
unfolding text
text-none s = refl

-- the step at a place, of a client
pub of_client_at : (n : ℕ) (ss : List Step) (k : ℕ) (t : Step) → AllByRecursion (IsOfClient n) ss → k < length ss
    → t ≡ get_or ss k t → IsOfClient n t
of_client_at n [] k t all k_in is = absurd (omega arith)
of_client_at n (s ∷ ss) zero t all k_in is = subst (IsOfClient n) (sym is) all.0
of_client_at n (s ∷ ss) (suc k) t all k_in is = of_client_at n ss k t all.1 (omega arith) is

-- the steps that are left begin with the one at the place
pub left_at : (ss : List Step) (k : ℕ) (t : Step) → k < length ss → t ≡ get_or ss k t → drop k ss ≡ t ∷ drop (k + 1) ss
left_at [] k t k_in is = absurd (omega arith)
left_at (s ∷ ss) zero t k_in is = ap (λ (x : Step). x ∷ ss) (sym is)
left_at (s ∷ ss) (suc k) t k_in is =
    let one_on : suc (k + 1) ≡ suc k + 1 = omega arith in
    left_at ss k t (omega arith) is ∙ ap (λ n. t ∷ drop n (s ∷ ss)) one_on

-- the text of the answers that are left begins with the line of the step at the place
next_line : (state : State) (ss : List Step) (k : ℕ) (t : Step) → k < length ss → t ≡ get_or ss k t
    → text (answers state (drop k ss)) ≡ line (next state t).0 ++ text (answers (next state t).1 (drop (k + 1) ss))
next_line state ss k t k_in is =
    ap (λ ts. text (answers state ts)) (left_at ss k t k_in is)
    ∙ text-cons state t (drop (k + 1) ss)

-- nothing was played yet
pub so_far_none : {K : Type 0} (held : K → Option (List ℕ)) (count : K → ℕ) (sink : K) (kept : List ℕ) (first : State)
    (ss : List Step) → kept ≡ [] → SoFar (side held count sink sink) kept first first ss 0
so_far_none held count sink kept first ss none = record {
  wrote = [];
  took = Appends-nil (held sink);
  rest = ap (λ xs. xs ++ text (answers first ss)) none;
  clients = refl;
  steps = omega arith;
  later = omega arith;
}

-- one step more was played, of which the sink took some and the rest is kept
pub so_far_more : {K : Type 0} (held : K → Option (List ℕ)) (count : K → ℕ) (a b c : K) (kept now : List ℕ)
    (first state later : State) (ss : List Step) (k : ℕ) (t : Step) → SoFar (side held count a b) kept first state ss k
    → k < length ss → t ≡ get_or ss k t → KeepsRest (side held count b c) kept now (line (next state t).0)
    → count b ≤ count c → later ≡ (next state t).1 → SoFar (side held count a c) now first later ss (k + 1)
so_far_more held count a b c kept now first state later ss k t so k_in is keeps rises later_is =
    let stays = stepped_next state t in
    let so_later = so.later in
    let counted = so.steps in
    let lines = line (next state t).0 in
    let rest = text (answers (next state t).1 (drop (k + 1) ss)) in
    subst (λ (s : State). SoFar (side held count a c) now first s ss (k + 1)) (sym later_is) (record {
      wrote = so.wrote ++ keeps.0;
      took = Appends-trans (held a) (held b) (held c) so.wrote keeps.0 so.took keeps.1;
      rest =
          moved_on so.wrote keeps.0 now kept lines rest keeps.2
          ∙ ap (λ xs. so.wrote ++ (kept ++ xs)) (sym (next_line state ss k t k_in is))
          ∙ so.rest;
      clients = stays.0 ∙ so.clients;
      steps = omega (arith, stays.1, counted);
      later = omega arith;
    }) where
      moved_on : (wrote more now kept lines rest : List ℕ) → more ++ now ≡ kept ++ lines
          → (wrote ++ more) ++ (now ++ rest) ≡ wrote ++ (kept ++ (lines ++ rest))
      moved_on wrote more now kept lines rest is =
          append_assoc wrote more (now ++ rest)
          ∙ ap (λ xs. wrote ++ xs)
          (sym (append_assoc more now rest)
          ∙ ap (λ xs. xs ++ rest) is
          ∙ append_assoc kept lines rest)

-- all steps were played, and what was kept is written
pub so_far_all : (r : Result (Unit {0}) RunFault) {K : Type 0} (held : K → Option (List ℕ)) (count : K → ℕ) (a b c : K)
    (kept : List ℕ) (first state : State) (ss : List Step) (k : ℕ) → SoFar (side held count a b) kept first state ss k
    → length ss ≤ k → WritesText (side held count b c) kept r → WritesText (side held count a c) (text (answers first ss)) r
so_far_all (Ok x) held count a b c kept first state ss k so all writes =
    let none_left = sym (text-none state) ∙ ap (λ ts. text (answers state ts)) (sym (drop_all k ss all)) in
    subst (Appends (held a) (held c))
    (ap (λ xs. so.wrote ++ xs) (sym (append-nil kept) ∙ ap (λ xs. kept ++ xs) none_left) ∙ so.rest)
    (Appends-trans (held a) (held b) (held c) so.wrote kept so.took writes)
so_far_all (Err fault) held count a b c kept first state ss k so all writes =
    stopped_in_all fault held count a b c so.wrote kept (text (answers state (drop k ss))) (text (answers first ss))
    so.rest so.later so.took writes

-- what a run wrote, where one of its steps stopped it
pub stopped : (fault : RunFault) {K : Type 0} (held : K → Option (List ℕ)) (count : K → ℕ) (a b c : K) (kept : List ℕ)
    (first state : State) (ss : List Step) (k : ℕ) (t : Step) → SoFar (side held count a b) kept first state ss k
    → k < length ss → t ≡ get_or ss k t → WritesText (side held count b c) (kept ++ line (next state t).0) (Err fault)
    → WritesText (side held count a c) (text (answers first ss)) (Err fault)
stopped fault held count a b c kept first state ss k t so k_in is writes =
    let lines = line (next state t).0 in
    let rest = text (answers (next state t).1 (drop (k + 1) ss)) in
    stopped_in_all fault held count a b c so.wrote (kept ++ lines) rest (text (answers first ss))
    (ap (λ xs. so.wrote ++ xs) (append_assoc kept lines rest
    ∙ ap (λ xs. kept ++ xs) (sym (next_line state ss k t k_in is))) ∙ so.rest)
    so.later so.took writes
