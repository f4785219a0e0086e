use Rattle.std.specs.Prelude.{⊤}
use Rattle.serde_json.proofs.OnLiterals.{serde_json_on_literals}
use Rattle.std.specs.Fmt.{digits}
use Rattle.hex.specs.Hex.{encode_with}
use Rattle.dd_script_write.specs.Answers.{point_tree, rect_tree, move_tree, info_tree, frame_tree, row_digits, surface_tree, desc_tree, buffer_tree, shape_tree, shape_buffer_tree, refusal_tree, answer_tree}
use Rattle.dd_script_write.specs.Texts.{line, text}

-- what an answer unfolds to compute the trees and the lines of answers
unfoldable pub answers_on_literals : ⊤
unfolding serde_json_on_literals encode_with digits
    point_tree rect_tree move_tree info_tree frame_tree row_digits surface_tree desc_tree
    buffer_tree shape_tree shape_buffer_tree refusal_tree answer_tree line text
answers_on_literals = tt
