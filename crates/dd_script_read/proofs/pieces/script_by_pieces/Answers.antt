use Rattle.std.proofs.Common.{◌≡◌, [], ◌∷◌, arith}
use Rattle.json.specs.Lex.{tokens}
use Rattle.json.specs.Token.{begin_object, begin_array, end_object}
use Rattle.dd_script_read.proofs.ByPieces.{pieces_are_script}
use Rattle.dd_script_read.proofs.pieces.script_by_pieces.Goals as goal

pub returns : goal.returns
returns c =
    let opened : tokens c.args.text.now ≡ begin_object ∷ c.begins_object.new.reader = grind arith in
    let list : c.head_of.new.reader ≡ begin_array ∷ c.begins_list.new.reader = grind arith in
    let end : c.steps_by_one.new.reader ≡ end_object ∷ [] = grind arith in
    pieces_are_script c.args.text.now c.begins_object.new.reader c.head_of.new.reader c.begins_list.new.reader
    c.steps_by_one.new.reader c.in_ok-head.head.items c.in_ok-steps.steps.items c.in_ok-rest.rest c.script_with.result
    c.utf8.text opened c.in_ok-head.ensures c.in_ok-rest.ensures list c.in_ok-steps.ensures end
    c.script_with.ensures.steps c.script_with.ensures.limits
