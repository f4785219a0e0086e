-- How many steps there are.
use Rattle.std.proofs.Common.{◌≡◌, ℕ, zero, suc, ◌+◌, ◌%◌, [], List, Bool, true, false, length, refl, arith, length-append}
use Rattle.std.specs.Prelude.{◌==◌, if◌then◌else◌}
use Rattle.dd_calls.specs.declared.steps.Step.{Step}
use Rattle.dd_gen.specs.Making.{Making, give}
use Rattle.dd_gen.specs.Generator.{pointer, look, looks, operations, round, rounds, made_steps}

-- a part that a round has at times
abbrev part : Bool → ℕ → ℕ
part b n = if b then n else 0

-- how many steps round i has, and the first n rounds
abbrev pub round_count : ℕ → ℕ
round_count i = (1 + part (i % 3 == 0) 1) + ((2 + part (i % 4 == 0) 2) + part (i % 25 == 0) 2)

abbrev pub rounds_count : ℕ → ℕ
rounds_count zero = 0
rounds_count (suc n) = rounds_count n + round_count (suc n)

given : (b : Bool) (make : Making (List Step)) (n s : ℕ) → length (make s).value ≡ n
    → length ((if b then make else give []) s).value ≡ part b n
given true make n s h = h
given false make n s h = refl

listed : (b : Bool) (steps : List Step) → length (if b then steps else []) ≡ part b (length steps)
listed true steps = refl
listed false steps = refl

pointer-count : (i s : ℕ) → length (pointer i s).value ≡ part (i % 3 == 0) 1
unfolding pointer
pointer-count i s = given (i % 3 == 0) _ 1 s refl

looks-count : (i : ℕ) → length (looks i) ≡ (2 + part (i % 4 == 0) 2) + part (i % 25 == 0) 2
unfolding looks
looks-count i =
    let two = listed (i % 4 == 0) (look 2) in
    let three = listed (i % 25 == 0) (look 3) in
    simp length-append (omega (arith, two, three))

round-count : (i s : ℕ) → length (round i s).value ≡ round_count i
unfolding round
round-count i s =
    let pointers = pointer-count i (operations i s).state in
    let all = looks-count i in
    simp length-append (omega (arith, pointers, all))

rounds-count : (n s : ℕ) → length (rounds n s).value ≡ rounds_count n
unfolding rounds
rounds-count zero s = refl
rounds-count (suc n) s =
    let before = rounds-count n s in
    let last = round-count (suc n) (rounds n s).state in
    simp length-append (omega (arith, before, last))

-- the first 300 rounds have 1174 steps
all_rounds-count : (s : ℕ) → length (rounds 300 s).value ≡ 1174
all_rounds-count s = rounds-count 300 s

pub steps-count : (seed : ℕ) → length (made_steps seed) ≡ 1180
unfolding made_steps
steps-count seed =
    let all = all_rounds-count seed in
    simp length-append (omega (arith, all))
