use Rattle.std.proofs.Common.{refl}
use Rattle.dd_script_read.proofs.ByPieces.{stepless_read}
use Rattle.dd_script_read.proofs.pieces.stepless.Goals as goal

pub returns-then-has_numbers : goal.returns-then-has_numbers
returns-then-has_numbers c =
    stepless_read c.args.head.items _ c.new.result c.push.new.self c.parts_of.result refl c.new.ensures.items
    c.in_ok-push.ensures.items c.if-has_numbers.ensures c.parts_of.ensures
