-- A row's digits between quotes.
use Rattle.dd_script_write.proofs.SurfaceText.{row_put}
use Rattle.dd_script_write.proofs.surfaces.put_row.Goals as goal

pub returns : goal.returns
returns c =
    row_put c.args.line.now.items c.push.new.self.items c.put_digits.new.line.items c.push-2.new.self.items
    c.args.row.now c.in_ok-push.ensures.items c.in_ok-put_digits.ensures c.in_ok-push-2.ensures.items
