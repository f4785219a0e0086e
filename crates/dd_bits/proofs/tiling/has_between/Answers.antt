-- A row with a marked cell settles the answer, and a row with none is one more.
use Rattle.std.proofs.Common.{arith}
use Rattle.dd_bits.proofs.RoundLemmas.{some_between-found, rows_blank-more, some_between-none}
use Rattle.dd_bits.proofs.tiling.has_between.Goals as goal

pub returns-then-has_marked : goal.returns-then-has_marked
returns-then-has_marked c =
    some_between-found c.args.width c.args.height c.loop-y.y c.args.sides c.args.cells.now c.has_marked.result
    c.requires.inside (omega arith) (omega arith) c.requires.cells c.has_marked.ensures c.if-has_marked.true

pub loop-y-preserved : goal.loop-y-preserved
loop-y-preserved c =
    rows_blank-more c.args.width c.args.height c.loop-y.y c.args.sides c.args.cells.now c.has_marked.result
    c.requires.inside (omega arith) c.requires.cells c.has_marked.ensures c.if-has_marked.false c.loop-y.invariant

pub returns : goal.returns
returns c =
    some_between-none c.args.width c.args.height c.args.sides c.args.cells.now c.requires.inside
    (λ r l u. c.loop-y.invariant r l (omega arith))
