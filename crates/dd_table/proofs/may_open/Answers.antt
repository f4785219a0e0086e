use Rattle.std.proofs.Common.{◌∙◌, sym}
use Rattle.dd_table.proofs.Openings.{finds}
use Rattle.dd_table.proofs.may_open.Goals as goal

pub returns-clause-fits : goal.returns-clause-fits
returns-clause-fits c = finds c.args.log.now c.args.app c.in-Some.slot
    (sym c.is_duplicating.ensures ∙ c.if-is_duplicating.false)
    (sym c.free_slot.ensures ∙ c.in-Some.is)
