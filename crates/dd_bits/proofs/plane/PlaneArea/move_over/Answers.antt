use Rattle.std.proofs.Common.{◌≡◌, ◌∙◌, List, Bool, false, ap, length, arith}
use Rattle.std.proofs.lemmas.List.{with_items_is}
use Rattle.dd_geom.specs.Grid.{Grid}
use Rattle.dd_bits.specs.Area.{moved_over}
use Rattle.dd_bits.proofs.plane.PlaneArea.move_over.Goals as goal

pub returns-clause-ok : goal.returns-clause-ok
returns-clause-ok c =
    let p = c.self.inside in
    let of : List Bool → Grid Bool = λ cs. record { width = p.width; height = p.height; cells = cs } in
    let long : length c.scroll.new.cells ≡ p.cells.len = omega arith in
    ap of (with_items_is p.cells c.scroll.new.cells long)
    ∙ c.scroll.ensures false
    ∙ ap (λ (cs : List Bool). moved_over (of cs) c.args.m) c.deref_mut.ensures.value
    ∙ ap (λ (g : Grid Bool). moved_over g c.args.m) c.self.view_is
