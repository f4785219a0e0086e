-- The tile is painted where it has a point, and left where it has none.
use Rattle.std.proofs.Common.{Bool, sym, ap, ◌∙◌, arith}
use Rattle.dd_geom.specs.Grid.{Grid}
use Rattle.dd_bits.specs.Rounding.{some_between}
use Rattle.dd_bits.proofs.RoundLemmas.{some_between-tile, rounded-painted, rounded-left}
use Rattle.dd_bits.proofs.tiling.round_tile.Goals as goal

pub returns-then-has_between : goal.returns-then-has_between
returns-then-has_between c =
    let g : Grid Bool = record { width = c.args.width; height = c.args.height; cells = c.args.cells.now } in
    rounded-painted c.args.width c.args.height c.args.t c.args.across c.args.down c.sides_of_tile-sides.result
    c.args.cells.now c.paint.new.cells c.requires.side c.sides_of_tile-sides.ensures.sides c.requires.cells
    (omega arith)
    (sym (some_between-tile g c.args.t c.args.across c.args.down c.requires.side c.requires.across c.requires.down)
    ∙ sym (c.has_between.ensures ∙ ap (some_between g) c.sides_of_tile-sides.ensures.sides)
    ∙ c.if-has_between.true)
    c.paint.ensures

pub returns-else-has_between : goal.returns-else-has_between
returns-else-has_between c =
    let g : Grid Bool = record { width = c.args.width; height = c.args.height; cells = c.args.cells.now } in
    rounded-left c.args.width c.args.height c.args.t c.args.across c.args.down c.args.cells.now c.requires.side
    (sym (some_between-tile g c.args.t c.args.across c.args.down c.requires.side c.requires.across c.requires.down)
    ∙ sym (c.has_between.ensures ∙ ap (some_between g) c.sides_of_tile-sides.ensures.sides)
    ∙ c.if-has_between.false)
