use Rattle.std.proofs.Common.{arith}
use Rattle.std.proofs.lemmas.Grind.{common_steps}
use Rattle.std.proofs.lemmas.List.FromFn.{map-range_with_len_more}
use Rattle.dd_script_read.specs.Script.{colour_at}
use Rattle.dd_script_read.proofs.drawing.each_colour.Goals as goal

pub loop-i-preserved : goal.loop-i-preserved
loop-i-preserved c =
    let more = map-range_with_len_more (colour_at c.args.bytes.now) 0 c.loop-i.i c.loop-i.i (omega arith) in
    grind (arith, common_steps, more)
