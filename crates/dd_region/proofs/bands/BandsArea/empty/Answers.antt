use Rattle.std.proofs.Common.{◌∙◌, arith}
use Rattle.dd_region.proofs.KeptLemmas.{empty_grid}
use Rattle.dd_region.proofs.bands.BandsArea.empty.Goals as goal

pub returns : goal.returns
returns c =
    empty_grid c.args.w c.args.h c.close.new.self
    (λ y l. c.in_ok-close.ensures.last y (omega (arith, c.new-rows.ensures.depth)) l
    ∙ c.deref.ensures.value ∙ c.new-row.ensures.items)
