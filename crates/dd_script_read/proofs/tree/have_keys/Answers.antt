use Rattle.std.proofs.Common.{◌+◌, ◌==◌, ap, ◌∙◌, sym, arith}
use Rattle.std.proofs.lemmas.Bool.{ne_eqb}
use Rattle.dd_script_read.proofs.Keys.{count_before-le, count_more, count_all}
use Rattle.dd_script_read.proofs.tree.have_keys.Goals as goal
use Rattle.dd_script_read.proofs.tree.have_keys.Goals.{then-not-has_key+else-count-n, else-not-has_key}

-- n keys stand before the member, and its own is another
pub returns-then-count-n : goal.returns-then-count-n
returns-then-count-n c =
    let ms = c.args.members.now in
    let i = c.loop-i.i in
    let more = count_more ms i c.index-members-i.result c.has_key.result c.loop-i-test.true c.has_key.ensures in
    let new = rw c.if-not-has_key.true at more in
    sym (ne_eqb _ _ (λ same. omega (arith, count_before-le ms (i + 1))))

pub loop-i-preserved : goal.loop-i-preserved
loop-i-preserved c =
    let ms = c.args.members.now in
    let more =
    count_more ms c.loop-i.i c.index-members-i.result c.has_key.result c.loop-i-test.true c.has_key.ensures in
    elim c.if-not-has_key.branch [
      | then-not-has_key+else-count-n w ↦
          let h = rw w.if-not-has_key.true at more in
          record { counted = omega arith; within = omega arith }
      | else-not-has_key w ↦
          let h = rw w.if-not-has_key.false at more in
          record { counted = omega arith; within = omega arith }
    ]

pub returns : goal.returns
returns c = ap (λ k. k == c.args.n) (c.loop-i.invariant.counted ∙ count_all _ _ c.loop-i-test.false)
