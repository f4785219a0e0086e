use Rattle.std.specs.Prelude.{⊤}
use Rattle.serde_json.proofs.OnLiterals.{serde_json_on_literals}
use Rattle.hex.proofs.OnLiterals.{hex_on_literals}
use Rattle.dd_modes.specs.Modes.{is_mode, are_modes}
use Rattle.dd_modes.specs.Numbers.{rotation_numbered}
use Rattle.dd_pointer.specs.Shape.{shape_fault}
use Rattle.dd_script_read.specs.Script.{u32_of, i32_of, point_of, rect_of, colour_of, colours_from, bytes_of, colours_of, fill_of, blit_of, cover_of, scroll_of, operation_of, operations_of, present_of, pointer_of, shape_of, change_of, switch_of, has_true, session_of, single_of, draw_of, call_named, filling_named, buffer_of, plain_call_of, filling_call_of, client_call_of, call_of, step_of, steps_of, mode_of, modes_of, apps_of, parts_of, keeps_limits, script_of}

-- what an answer unfolds to compute the script of a literal text
unfoldable pub script_on_literals : ⊤
unfolding serde_json_on_literals hex_on_literals is_mode are_modes shape_fault
    u32_of i32_of point_of rect_of colour_of colours_from bytes_of colours_of fill_of blit_of cover_of scroll_of
    operation_of operations_of present_of pointer_of shape_of change_of switch_of has_true session_of single_of draw_of
    call_named filling_named buffer_of plain_call_of filling_call_of client_call_of call_of step_of steps_of
    rotation_numbered mode_of modes_of apps_of parts_of keeps_limits script_of
script_on_literals = tt
