use Rattle.std.proofs.Common.{◌≡◌, ◌∙◌, List, Bool, ap, length, arith}
use Rattle.std.proofs.lemmas.List.{with_items_is}
use Rattle.dd_geom.specs.Grid.{Grid}
use Rattle.dd_bits.proofs.PlaneGrids.{cleared_rect}
use Rattle.dd_bits.proofs.plane.PlaneArea.remove.Goals as goal

pub returns-clause-ok : goal.returns-clause-ok
returns-clause-ok c =
    let p = c.self.inside in
    let of : List Bool → Grid Bool = λ cs. record { width = p.width; height = p.height; cells = cs } in
    let long : length c.paint.new.cells ≡ p.cells.len = omega arith in
    let before = c.deref_mut.ensures.value in
    ap of (with_items_is p.cells c.paint.new.cells long)
    ∙ cleared_rect p.width p.height c.args.r c.sides_of.result _ _ _ c.sides_of.ensures
    (ap of before ∙ c.self.view_is)
    (ap length before ∙ c.self.invariant.whole)
    (omega (arith, c.self.invariant.whole))
    c.paint.ensures
