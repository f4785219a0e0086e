use Rattle.dd_view.proofs.Rows.{no_rows, row_more}
use Rattle.dd_view.proofs.picture_text.put_rows.Goals as goal

pub loop-y-init : goal.loop-y-init
loop-y-init c = no_rows c.args.s.now c.args.m c.args.text.now.items

pub loop-y-preserved : goal.loop-y-preserved
loop-y-preserved c =
    row_more c.args.s.now c.args.m c.loop-y.y c.args.text.now.items c.loop-y.text.items c.put_row.new.text.items
    c.loop-y.invariant c.in_ok-put_row.ensures
