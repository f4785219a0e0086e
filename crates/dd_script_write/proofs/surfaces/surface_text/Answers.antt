-- What stands before the rows, the rows, and what stands behind them.
use Rattle.std.proofs.Common.{◌++◌, codes, ap, ◌∙◌}
use Rattle.dd_script_write.proofs.SurfaceText.{surface_put}
use Rattle.dd_script_write.proofs.surfaces.surface_text.Goals as goal

pub returns : goal.returns
returns c =
    let opened =
    c.in_ok-extend_from_slice.ensures.items
    ∙ ap (λ xs. xs ++ codes "{\"surface\":") c.in_ok-line.ensures.items in
    c.from_vec.ensures
    ∙ surface_put c.extend_from_slice.new.self.items c.put_surface.new.line.items
    c.extend_from_slice-2.new.self.items c.args.rows.now opened c.in_ok-put_surface.ensures
    c.in_ok-extend_from_slice-2.ensures.items
