use Rattle.std.proofs.Common.{◌-◌, arith, refl}
use Rattle.dd_region.proofs.BandLemmas.{HasBandMore-longer}
use Rattle.dd_region.proofs.rows.Rows.lengthen.Goals as goal

pub returns : goal.returns
returns c d =
    HasBandMore-longer c.args.self.now _ (c.len-count.result - 1) _ c.args.bottom d
    c.index_mut.result.now c.requires.rows
    (omega arith) (omega arith) c.index_mut.ensures.value c.requires.bottom refl refl
