-- So far there are as many fills as iterations.
use Rattle.std.proofs.Common.{◌≡◌, length}
use Rattle.dd_gen.specs.Generator.{fills}
use Rattle.dd_gen.proofs.drawing.fills.Given as goal

abbrev pub invariant-loop : goal.invariant-loop
invariant-loop l =
    (l.ops ≡ (fills l.counter l.fn.numbers).value)
    × (l.numbers ≡ (fills l.counter l.fn.numbers).state)
    × (length l.ops ≡ l.counter)
