-- The cells that are drawn with what is seen are the taken surface.
use Rattle.std.proofs.Common.{ℕ, List, ap, ◌∙◌, arith}
use Rattle.std.proofs.lemmas.List.{with_items_is}
use Rattle.dd_geom.specs.Grid.{Grid}
use Rattle.dd_grid.specs.Drawing.{taken}
use Rattle.dd_grid.proofs.DrawingLemmas.{taken_from_drawn}
use Rattle.dd_grid.proofs.surface.Surface.take.Goals as goal

pub returns-clause-taken : goal.returns-clause-taken
returns-clause-taken c =
    let s = c.self.inside in
    let view : Grid ℕ = record { width = s.width; height = s.height; cells = s.colours.items } in
    let at : List ℕ → Grid ℕ = λ cs. record { width = s.width; height = s.height; cells = cs } in
    ap at (with_items_is s.colours c.take_rows.new.colours (omega arith))
    ∙ (taken_from_drawn view c.args.r c.args.from.now c.sides_of.result c.deref_mut.result.now c.take_rows.new.colours
    c.sides_of.ensures c.deref_mut.ensures.value (omega arith) (omega arith) c.take_rows.ensures.taken
    ∙ ap (λ n. taken n c.args.r c.args.from.now) c.self.view_is)
