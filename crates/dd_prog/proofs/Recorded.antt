-- Steps recorded one after another: what was written so far, and what is left to write.
use Rattle.std.proofs.Common.{◌≡◌, ℕ, ◌+◌, ◌<◌, ◌≤◌, List, [], ◌++◌, length, drop, get_or, Option, Some, None, Err, refl, sym, ap, ◌∙◌, subst, arith, append_assoc, append-nil}
use Rattle.std.specs.List.{flat_map, cons_option}
use Rattle.std.specs.Io.KnownBytes.{Appends}
use Rattle.std.proofs.lemmas.List.{drop_all}
use Rattle.std.proofs.lemmas.List.Concat.{flat_map-cons}
use Rattle.std.proofs.KnownBytes.{Appends-nil, Appends-trans}
use Rattle.dd_record.specs.declared.chunk.Chunk.{Chunk}
use Rattle.dd_record.specs.Writing.{chunk_bytes}
use Rattle.dd_calls.specs.declared.steps.Step.{Step}
use Rattle.dd_station.specs.Run.{State, next}
use Rattle.dd_trace.specs.Trace.{moment_of, moments}
use Rattle.dd_station.proofs.Stepped.{stepped_next}
use Rattle.dd_prog.specs.declared.fault.RunFault.{RunFault}
use Rattle.dd_prog.specs.Exchange.{Side, side, Took}
use Rattle.dd_prog.specs.Leaving.{bytes_left}
use Rattle.dd_prog.specs.Outcome.{WritesText}
use Rattle.dd_prog.specs.Recording.{chunk_at, recorded}
use Rattle.dd_prog.proofs.Kept.{stopped_in_all}
use Rattle.dd_prog.proofs.Playing.{left_at}

-- the bytes of what steps leave
abbrev bytes_of : ℕ → State → List Step → List ℕ
bytes_of c s ts = flat_map chunk_bytes (recorded c (moments s ts))

-- Of the bytes of what all steps leave a front was written, and the rest is what the steps that are left leave.
pub record SoFarRecorded {K : Type 0} (sink : Side K) (c : ℕ) (first state : State) (ss : List Step) (k : ℕ)
    : Type 0 where
  pub wrote : List ℕ
  pub took : Took sink wrote
  pub rest : wrote ++ flat_map chunk_bytes (recorded c (moments state (drop k ss))) ≡ flat_map chunk_bytes (recorded c (moments first ss))
  pub clients : state.clients ≡ first.clients
  pub steps : state.steps ≡ first.steps + k
  pub later : sink.faults sink.old ≤ sink.faults sink.new

one_left : (chunk : Option Chunk) (chunks : List Chunk)
    → flat_map chunk_bytes (cons_option chunk chunks) ≡ bytes_left chunk ++ flat_map chunk_bytes chunks
one_left None chunks = refl
one_left (Some chunk) chunks = flat_map-cons chunk_bytes chunk chunks

-- what the steps that are left leave begins with what the one at the place leaves
next_left : (c : ℕ) (state : State) (ss : List Step) (k : ℕ) (t : Step) → k < length ss → t ≡ get_or ss k t
    → bytes_of c state (drop k ss)
    ≡ bytes_left (chunk_at c (moment_of state t)) ++ bytes_of c (next state t).1 (drop (k + 1) ss)
next_left c state ss k t k_in is =
    ap (bytes_of c state) (left_at ss k t k_in is)
    ∙ one_left (chunk_at c (moment_of state t)) (recorded c (moments (next state t).1 (drop (k + 1) ss)))

-- no step was done yet
pub recorded_none : {K : Type 0} (held : K → Option (List ℕ)) (count : K → ℕ) (sink : K) (c : ℕ) (first : State)
    (ss : List Step) → SoFarRecorded (side held count sink sink) c first first ss 0
recorded_none held count sink c first ss = record {
  wrote = [];
  took = Appends-nil (held sink);
  rest = refl;
  clients = refl;
  steps = omega arith;
  later = omega arith;
}

-- one step more was done
pub recorded_more : {K : Type 0} (held : K → Option (List ℕ)) (count : K → ℕ) (x y z : K) (c : ℕ)
    (first state later : State) (ss : List Step) (k : ℕ) (t : Step)
    → SoFarRecorded (side held count x y) c first state ss k → k < length ss → t ≡ get_or ss k t
    → Took (side held count y z) (bytes_left (chunk_at c (moment_of state t))) → count y ≤ count z → later ≡ (next state t).1
    → SoFarRecorded (side held count x z) c first later ss (k + 1)
recorded_more held count x y z c first state later ss k t so k_in is took rises later_is =
    let stays = stepped_next state t in
    let so_later = so.later in
    let counted = so.steps in
    let bytes = bytes_left (chunk_at c (moment_of state t)) in
    subst (λ (s : State). SoFarRecorded (side held count x z) c first s ss (k + 1)) (sym later_is) (record {
      wrote = so.wrote ++ bytes;
      took = Appends-trans (held x) (held y) (held z) so.wrote bytes so.took took;
      rest =
          append_assoc so.wrote bytes (bytes_of c (next state t).1 (drop (k + 1) ss))
          ∙ ap (λ xs. so.wrote ++ xs) (sym (next_left c state ss k t k_in is))
          ∙ so.rest;
      clients = stays.0 ∙ so.clients;
      steps = omega (arith, stays.1, counted);
      later = omega arith;
    })

-- all steps were done
pub recorded_all : {K : Type 0} (held : K → Option (List ℕ)) (count : K → ℕ) (x y : K) (c : ℕ) (first state : State)
    (ss : List Step) (k : ℕ) → SoFarRecorded (side held count x y) c first state ss k → length ss ≤ k
    → Took (side held count x y) (flat_map chunk_bytes (recorded c (moments first ss)))
recorded_all held count x y c first state ss k so all =
    let none : bytes_of c state (drop k ss) ≡ [] = ap (bytes_of c state) (drop_all k ss all) in
    subst (Appends (held x) (held y))
    (sym (append-nil so.wrote) ∙ ap (λ xs. so.wrote ++ xs) (sym none) ∙ so.rest) so.took

-- what was written, where one of the steps stopped the run
pub recorded_stopped : (fault : RunFault) {K : Type 0} (held : K → Option (List ℕ)) (count : K → ℕ) (x y z : K) (c : ℕ)
    (first state : State) (ss : List Step) (k : ℕ) (t : Step) → SoFarRecorded (side held count x y) c first state ss k
    → k < length ss → t ≡ get_or ss k t → WritesText (side held count y z) (bytes_left (chunk_at c (moment_of state t))) (Err fault)
    → WritesText (side held count x z) (flat_map chunk_bytes (recorded c (moments first ss))) (Err fault)
recorded_stopped fault held count x y z c first state ss k t so k_in is writes =
    stopped_in_all fault held count x y z so.wrote (bytes_left (chunk_at c (moment_of state t)))
    (bytes_of c (next state t).1 (drop (k + 1) ss)) (flat_map chunk_bytes (recorded c (moments first ss)))
    (ap (λ xs. so.wrote ++ xs) (sym (next_left c state ss k t k_in is)) ∙ so.rest) so.later so.took writes
