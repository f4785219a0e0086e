use Rattle.std.proofs.Common.{Bool}
use Rattle.dd_geom.specs.Grid.{Grid}
use Rattle.dd_region.proofs.BandList.{AreRowsOf, AreRowsOf-from, IsArea-kept, blank_test}
use Rattle.dd_region.proofs.bands.BandsArea.is_empty.Goals as goal

pub returns-clause-empty : goal.returns-clause-empty
returns-clause-empty c =
    let b = c.self.inside in
    let g : Grid Bool = c.args.self.now in
    let of : AreRowsOf g b.rows = AreRowsOf-from b.width b.height b.rows g c.self.invariant c.self.view_is in
    let test = blank_test g b.rows of in (
      λ t. test.0 (c.are_blank.ensures.0 t),
      λ none. c.are_blank.ensures.1 (test.1 none),
    )

pub returns-clause-area : goal.returns-clause-area
returns-clause-area c =
    let b = c.self.inside in
    let g : Grid Bool = c.args.self.now in
    IsArea-kept g b.rows (AreRowsOf-from b.width b.height b.rows g c.self.invariant c.self.view_is)
