-- The scrolled cells are the moved picture, which shows all where the old one does.
use Rattle.std.proofs.Common.{◌≡◌, List, sym, ap, ◌∙◌, subst, arith}
use Rattle.std.proofs.lemmas.List.{with_items_is}
use Rattle.std.specs.Vec.{with_items}
use Rattle.dd_geom.specs.Grid.{Grid}
use Rattle.dd_grid.specs.Cell.{Cell}
use Rattle.dd_grid.specs.Drawing.{IsPicture, ShowsAll, moved_cells}
use Rattle.dd_grid.proofs.MovingLemmas.{IsPicture-moved, ShowsAll-moved}
use Rattle.dd_grid.proofs.picture.Picture.scroll.Goals as goal

pub invariant_of-self : goal.invariant_of-self
invariant_of-self c =
    let p = c.self.inside in
    let at : List Cell → Grid Cell = λ cs. record { width = p.width; height = p.height; cells = cs } in
    let old : Grid Cell = at p.cells.items in
    let is_moved : at (with_items p.cells c.move_cells.new.cells).items ≡ moved_cells old c.args.m =
    ap at (with_items_is p.cells c.move_cells.new.cells (omega arith))
    ∙ (c.move_cells.ensures ∙ ap (λ cs. moved_cells (at cs) c.args.m) c.deref_mut.ensures.value) in (
      subst IsPicture (sym is_moved) (IsPicture-moved old c.args.m c.self.invariant.0),
      λ none. subst ShowsAll (sym is_moved) (ShowsAll-moved old c.args.m (c.self.invariant.1 none)),
    )
