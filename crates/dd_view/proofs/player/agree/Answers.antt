use Rattle.std.proofs.Common.{◌≤◌, length, ◌⊎◌, inl, inr, sym, ◌∙◌, arith}
use Rattle.std.proofs.lemmas.Bool.{cases_lt}
use Rattle.dd_view.proofs.Agreeing.{ends}
use Rattle.dd_view.proofs.player.agree.Goals as goal

pub returns : goal.returns
returns c =
    let i = c.loop-i.i in
    let one = length c.args.bytes.now in
    let two = length c.args.others.now in
    let past : (one ≤ i) ⊎ (two ≤ i) =
    elim (cases_lt i one) [
      | inl within ↦ inr (omega (arith, within, c.loop-i-test.false, c.min-i-end.ensures))
      | inr behind ↦ inl behind
    ]
    in
    sym (ends c.args.bytes.now c.args.others.now i past) ∙ c.loop-i.invariant
