use Rattle.std.proofs.Common.{◌≡◌, ℕ, ap, ◌∙◌, arith}
use Rattle.dd_geom.specs.Grid.{Grid, row}
use Rattle.dd_grid.specs.Drawing.{imaged}
use Rattle.dd_view.specs.Screens.{row_at, first_rows}
use Rattle.dd_view.proofs.Copying.{row_more, all_rows}
use Rattle.dd_view.proofs.screen.copied.Goals as goal

pub loop-y-preserved : goal.loop-y-preserved
loop-y-preserved c =
    let s : Grid ℕ = c.args.surface.now in
    let y = c.loop-y.y in
    c.copy_row.ensures.drawn
    ∙ ap (λ (g : Grid ℕ). imaged g (row_at s.width y) (row s y)) c.loop-y.invariant
    ∙ row_more s y (omega (arith, c.loop-y-test.true, c.height-y-end.ensures.height))

pub returns : goal.returns
returns c =
    let s : Grid ℕ = c.args.surface.now in
    let end : c.loop-y.y ≡ s.height =
    omega (arith, c.loop-y-test.false, c.loop-y.auto.y-end, c.height-y-end.ensures.height) in
    c.loop-y.invariant ∙ ap (first_rows s) end ∙ all_rows s c.height-y-end.ensures.surface
