use Rattle.std.proofs.Common.{◌∙◌, Bool, ap, subst}
use Rattle.std.specs.List.{list_any}
use Rattle.dd_geom.specs.Grid.{Grid}
use Rattle.dd_bits.specs.Area.{IsArea}
use Rattle.dd_bits.proofs.PlaneGrids.{blank_test}
use Rattle.dd_bits.proofs.plane.PlaneArea.is_empty.Goals as goal

pub returns-clause-empty : goal.returns-clause-empty
returns-clause-empty c =
    let is : IsArea c.args.self.now = subst IsArea c.self.view_is c.self.invariant in
    blank_test c.args.self.now c.has_marked.result is.whole
    (c.has_marked.ensures ∙ ap (list_any (λ b. b)) c.deref.ensures.value
    ∙ ap (λ (g : Grid Bool). list_any (λ b. b) g.cells) c.self.view_is)
