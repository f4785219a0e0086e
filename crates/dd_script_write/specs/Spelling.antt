-- A script's own tree: each part in the one form that a writer gives it, an object's keys in the order of their bytes.
use Rattle.std.specs.Prelude.{ℕ, true, codes, List, Option, Some, None, option_map}
use Rattle.hex.specs.Hex.{encode_lower}
use Rattle.serde_json.specs.Data.{Data, boolean, string, array, object, item, no_items, member, no_members}
use Rattle.dd_modes.specs.declared.modes.Mode.{Mode}
use Rattle.dd_pointer.specs.Shape.{PointerShape, number}
use Rattle.dd_ops.specs.declared.operations.Op.{Op}
use Rattle.dd_ops.specs.declared.operations.Op.TheVariants.{Fill, Blit, Cover, Scroll}
use Rattle.dd_log.specs.declared.events.Draw as draws
use Rattle.dd_log.specs.declared.events.Draw.TheVariants as drawings
use Rattle.dd_calls.specs.declared.steps.ClientCall.{ClientCall}
use Rattle.dd_calls.specs.declared.steps.ClientCall.TheVariants.{Duplicate, Close, Acquire, Release, Moves, Dirty, Shape, Surface, Desc}
use Rattle.dd_calls.specs.declared.steps.Step.{Step}
use Rattle.dd_calls.specs.declared.steps.Step.TheVariants.{Draw, Call}
use Rattle.dd_calls.specs.declared.steps.Script.{Script}
use Rattle.dd_modes.specs.Numbers.{rotation_number}
use Rattle.dd_script_write.specs.Answers.{count, array_of, part, point_tree, rect_tree, colour_bytes, row_digits, bytes_tree}

-- ---- drawing

-- six digits in lower case: red, green, blue
abbrev pub colour_tree : ℕ → Data
colour_tree c = string (encode_lower (colour_bytes c))

-- six digits for each colour
abbrev pub colours_tree : List ℕ → Data
colours_tree cs = string (row_digits cs)

unfoldable pub op_tree : Op → Data
op_tree (Fill r c) =
    object (member (codes "colour") (colour_tree c) (member (codes "fill") (rect_tree r) no_members))
op_tree (Blit r cs) =
    object (member (codes "blit") (rect_tree r) (member (codes "colours") (colours_tree cs) no_members))
op_tree (Cover r cs) =
    object (member (codes "colours") (colours_tree cs) (member (codes "cover") (rect_tree r) no_members))
op_tree (Scroll m) =
    object (member (codes "from") (point_tree m.source) (member (codes "scroll") (rect_tree m.dest) no_members))

-- a shape's kind as the API numbers it, and its bytes in digits
unfoldable pub shape_step_tree : PointerShape → Data
shape_step_tree s =
    object
    (member (codes "bytes") (bytes_tree s.bytes)
    (member (codes "height") (count s.height)
    (member (codes "hot") (point_tree s.hot)
    (member (codes "shape") (count (number s.kind))
    (member (codes "width") (count s.width)
    no_members)))))

unfoldable pub draw_tree : draws.Draw → Data
draw_tree (drawings.Present ops) = object (member (codes "present") (array_of op_tree ops) no_members)
draw_tree (drawings.Pointer position visible) =
    object (member (codes "pointer") (point_tree position) (member (codes "visible") (boolean visible) no_members))
draw_tree (drawings.Shape shape) = shape_step_tree shape
draw_tree (drawings.Mode index) = object (member (codes "mode") (count index) no_members)
draw_tree (drawings.Switch secure) = object (member (codes "switch") (boolean secure) no_members)
draw_tree drawings.Disconnect = object (member (codes "disconnect") (boolean true) no_members)
draw_tree drawings.Reconnect = object (member (codes "reconnect") (boolean true) no_members)

-- ---- steps

abbrev pub name_of : ClientCall → List ℕ
name_of Duplicate = codes "duplicate"
name_of Close = codes "close"
name_of (Acquire timeout) = codes "acquire"
name_of Release = codes "release"
name_of (Moves buffer) = codes "moves"
name_of (Dirty buffer) = codes "dirty"
name_of (Shape buffer) = codes "shape"
name_of Surface = codes "surface"
name_of Desc = codes "desc"

-- the bytes of the buffer that a call is given
abbrev pub buffer_given : ClientCall → Option ℕ
buffer_given Duplicate = None
buffer_given Close = None
buffer_given (Acquire timeout) = None
buffer_given Release = None
buffer_given (Moves buffer) = Some buffer
buffer_given (Dirty buffer) = Some buffer
buffer_given (Shape buffer) = Some buffer
buffer_given Surface = None
buffer_given Desc = None

unfoldable pub step_tree : Step → Data
step_tree (Draw drawing) = draw_tree drawing
step_tree (Call client call) =
    object
    (part (codes "buffer") (option_map count (buffer_given call))
    (member (codes "call") (string (name_of call))
    (member (codes "client") (count client)
    no_members)))

-- ---- the output

unfoldable pub mode_tree : Mode → Data
mode_tree m = array (item (count m.width) (item (count m.height) (item (count (rotation_number m.rotation)) no_items)))

-- ---- the script

unfoldable pub spelling : Script → Data
spelling s =
    object
    (member (codes "capacity") (count s.spec.capacity)
    (member (codes "clients") (array_of count s.clients)
    (member (codes "modes") (array_of mode_tree s.spec.modes)
    (member (codes "privileged") (array_of count s.spec.privileged)
    (member (codes "steps") (array_of step_tree s.steps)
    no_members)))))
