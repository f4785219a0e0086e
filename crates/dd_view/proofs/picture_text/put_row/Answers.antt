use Rattle.std.proofs.Common.{ℕ, List, ◌++◌, ap, ◌∙◌}
use Rattle.dd_view.specs.Ppm.{pixel_text}
use Rattle.dd_view.proofs.Rows.{no_pixels, pixel_more}
use Rattle.dd_view.proofs.picture_text.put_row.Goals as goal

pub loop-x-init : goal.loop-x-init
loop-x-init c = no_pixels c.args.s.now c.args.m c.args.y c.args.text.now.items

pub loop-x-preserved : goal.loop-x-preserved
loop-x-preserved c =
    let now : List ℕ = c.loop-x.text.items in
    pixel_more c.args.s.now c.args.m c.args.y c.loop-x.x c.args.text.now.items now c.put_pixel.new.text.items
    c.loop-x.invariant
    (c.in_ok-put_pixel.ensures ∙ ap (λ (n : ℕ). now ++ pixel_text n) c.turned_colour.ensures)
