use Rattle.std.proofs.Common.{◌∙◌, sym}
use Rattle.dd_dup.proofs.Fills.{part_inside, part_filled, part_empty}
use Rattle.dd_dup.proofs.bands.fill_part.Goals as goal

pub fill-requires-clause-inside : goal.fill-requires-clause-inside
fill-requires-clause-inside c =
    part_inside c.args.rect c.part_of-part.result c.args.rows c.args.surface.now.width c.args.surface.now.height
    c.part_of-part.ensures c.requires.inside
    (sym c.has_rows.ensures ∙ c.if-has_rows.true)

pub returns-then-has_rows-clause-drawn : goal.returns-then-has_rows-clause-drawn
returns-then-has_rows-clause-drawn c whole =
    part_filled c.args.surface.now c.fill.new.self c.args.rows c.args.rect c.part_of-part.result c.args.colour
    c.part_of-part.ensures c.fill.ensures.drawn

pub returns-else-has_rows-clause-drawn : goal.returns-else-has_rows-clause-drawn
returns-else-has_rows-clause-drawn c whole =
    part_empty c.args.surface.now c.args.rows c.args.rect c.part_of-part.result c.args.colour c.part_of-part.ensures
    (sym c.has_rows.ensures ∙ c.if-has_rows.false) whole
