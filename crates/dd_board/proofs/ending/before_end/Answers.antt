use Rattle.std.proofs.Common.{◌∙◌, ◌-◌, ℕ, length, sym, ap}
use Rattle.dd_log.specs.History.{desk, before_end}
use Rattle.dd_log.proofs.Legal.{end_last}
use Rattle.dd_board.proofs.Endings.{going, one_less}
use Rattle.dd_board.proofs.ending.before_end.Goals as goal

pub returns-then-ended : goal.returns-then-ended
returns-then-ended c =
    let h = c.args.log.now in
    ap (λ (n : ℕ). n - 1) c.len-len.ensures.len
    ∙ one_less (desk h).ended (length h.entries) (before_end h.entries) (sym c.ended.ensures.value ∙ c.if-ended.true)
    ((end_last h).1 c.len-len.ensures.legal)

pub returns-else-ended : goal.returns-else-ended
returns-else-ended c =
    let h = c.args.log.now in
    c.len-len.ensures.len
    ∙ sym (going (desk h).ended (length h.entries) (before_end h.entries)
    (sym c.ended.ensures.value ∙ c.if-ended.false) ((end_last h).1 c.len-len.ensures.legal))
