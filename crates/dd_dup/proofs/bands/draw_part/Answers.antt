use Rattle.std.proofs.Common.{◌∙◌, sym}
use Rattle.dd_dup.specs.Filling.{has_row}
use Rattle.dd_dup.proofs.Fills.{part_fits, op_drawn, op_none}
use Rattle.dd_dup.proofs.bands.draw_part.Goals as goal

pub returns-in-None-clause-drawn : goal.returns-in-None-clause-drawn
returns-in-None-clause-drawn c whole =
    op_none c.args.surface.now (has_row c.args.rows) c.args.op.now (sym c.fill_of.ensures ∙ c.in-None.is) whole

pub fill_part-requires-clause-inside : goal.fill_part-requires-clause-inside
fill_part-requires-clause-inside c =
    (part_fits c.args.surface.now.width c.args.surface.now.height c.args.op.now c.in-Some.rect c.in-Some.colour
    (sym c.fill_of.ensures ∙ c.in-Some.is) c.requires).0

pub fill_part-requires-clause-colour : goal.fill_part-requires-clause-colour
fill_part-requires-clause-colour c =
    (part_fits c.args.surface.now.width c.args.surface.now.height c.args.op.now c.in-Some.rect c.in-Some.colour
    (sym c.fill_of.ensures ∙ c.in-Some.is) c.requires).1

pub returns-in-Some-clause-drawn : goal.returns-in-Some-clause-drawn
returns-in-Some-clause-drawn c whole =
    op_drawn c.args.surface.now c.fill_part.new.surface (has_row c.args.rows) c.args.op.now
    (c.in-Some.rect, c.in-Some.colour) (sym c.fill_of.ensures ∙ c.in-Some.is) (c.fill_part.ensures.drawn whole)
