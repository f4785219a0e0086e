use Rattle.std.proofs.Common.{arith, subst}
use Rattle.dd_region.specs.declared.rows.Band.{Band}
use Rattle.dd_region.specs.Rows.{HasBandMore}
use Rattle.dd_region.proofs.BandLemmas.{HasBandMore-push}
use Rattle.dd_region.proofs.rows.Rows.close.Goals as goal

pub returns : goal.returns
returns c =
    HasBandMore-push c.args.self.now _ c.args.row.now _ c.requires.rows c.requires.row c.requires.bottom
    c.in_ok-extend_from_slice.ensures.items c.in_ok-push.ensures.items (omega arith) (omega arith)

pub returns-then-ends_with : goal.returns-then-ends_with
returns-then-ends_with c =
    let d : Band = record { bottom = 0; start = 0; end = 0 } in
    subst (λ row. HasBandMore c.args.self.now row c.args.bottom c.lengthen.new.self) (c.if-ends_with.ensures.last d)
    (c.lengthen.ensures d)
