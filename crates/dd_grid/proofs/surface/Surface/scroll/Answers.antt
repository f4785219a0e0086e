-- The scrolled colours are the moved surface.
use Rattle.std.proofs.Common.{◌≡◌, ℕ, List, sym, ap, ◌∙◌, subst, arith}
use Rattle.std.proofs.lemmas.List.{with_items_is}
use Rattle.std.specs.Vec.{with_items}
use Rattle.dd_geom.specs.Grid.{Grid}
use Rattle.dd_grid.specs.Drawing.{IsSurface, moved}
use Rattle.dd_grid.proofs.MovingLemmas.{IsSurface-moved}
use Rattle.dd_grid.proofs.surface.Surface.scroll.Goals as goal

pub invariant_of-self : goal.invariant_of-self
invariant_of-self c =
    let s = c.self.inside in
    let at : List ℕ → Grid ℕ = λ cs. record { width = s.width; height = s.height; cells = cs } in
    let old : Grid ℕ = at s.colours.items in
    let is_moved : at (with_items s.colours c.scroll.new.cells).items ≡ moved old c.args.m =
    ap at (with_items_is s.colours c.scroll.new.cells (omega arith))
    ∙ (c.scroll.ensures 0 ∙ ap (λ cs. moved (at cs) c.args.m) c.deref_mut.ensures.value) in
    subst IsSurface (sym is_moved) (IsSurface-moved old c.args.m c.self.invariant)
