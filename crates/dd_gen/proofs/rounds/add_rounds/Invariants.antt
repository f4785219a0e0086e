-- So far the steps of the first rounds are added.
use Rattle.std.proofs.Common.{◌≡◌, ◌++◌}
use Rattle.dd_gen.specs.Generator.{rounds}
use Rattle.dd_gen.proofs.rounds.add_rounds.Given as goal

abbrev pub invariant-loop-before : goal.invariant-loop-before
invariant-loop-before l =
    (l.steps.items ≡ l.fn.steps.items ++ (rounds l.before l.fn.numbers).value)
    × (l.numbers ≡ (rounds l.before l.fn.numbers).state)
