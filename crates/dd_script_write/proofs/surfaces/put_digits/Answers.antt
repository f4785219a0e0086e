-- One colour more, and all.
use Rattle.std.proofs.Common.{◌++◌, ap, ◌∙◌}
use Rattle.dd_script_write.proofs.SurfaceText.{digits_more, digits_all}
use Rattle.dd_script_write.proofs.surfaces.put_digits.Goals as goal

pub loop-colour-preserved : goal.loop-colour-preserved
loop-colour-preserved c =
    digits_more _ c.loop-colour.line.items _ c.args.row.now c.loop-colour.colour-index 0 c.loop-colour-test.true
    c.loop-colour.invariant
    (c.in_ok-extend_from_slice.ensures.items ∙ ap (λ xs. c.loop-colour.line.items ++ xs) c.digits_of.ensures)

pub returns : goal.returns
returns c =
    digits_all _ c.loop-colour.line.items c.args.row.now c.loop-colour.colour-index c.loop-colour-test.false
    c.loop-colour.invariant
