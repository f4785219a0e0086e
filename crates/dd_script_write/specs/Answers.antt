-- Answers as JSON trees: a member for each part, the keys in the order of their bytes.
use Rattle.std.specs.Prelude.{◌≡◌, ℕ, ℤ, true, List, map, codes, Option, Some, None, option_map, drop}
use Rattle.std.specs.List.{flat_map}
use Rattle.std.specs.Int.{w32, to_be_bytes}
use Rattle.hex.specs.Hex.{encode_lower}
use Rattle.serde_json.specs.Data.{Data, null, boolean, number, string, array, object, unsigned, item, no_items, Members, member, no_members, put}
use Rattle.serde_json.specs.Find.{of_integer}
use Rattle.serde_json.specs.View.{items_of}
use Rattle.dd_geom.specs.declared.rect.Point.{Point}
use Rattle.dd_geom.specs.declared.rect.Rect.{Rect}
use Rattle.dd_geom.specs.declared.rect.Move.{Move}
use Rattle.dd_pointer.specs.declared.shape.ShapeInfo.{ShapeInfo}
use Rattle.dd_modes.specs.declared.modes.Mode.{Mode}
use Rattle.dd_modes.specs.Numbers.{rotation_number}
use Rattle.dd_calls.specs.declared.answers.FrameInfo.{FrameInfo}
use Rattle.dd_calls.specs.declared.answers.Answer.{Answer}
use Rattle.dd_calls.specs.declared.answers.Answer.TheVariants as answer
use Rattle.dd_log.specs.declared.refusal.LogRefusal.{LogRefusal}
use Rattle.dd_log.specs.declared.refusal.LogRefusal.TheVariants as drawing
use Rattle.dd_calls.specs.declared.answers.OpenRefusal.{OpenRefusal}
use Rattle.dd_calls.specs.declared.answers.OpenRefusal.TheVariants as opening
use Rattle.dd_calls.specs.declared.answers.CloseRefusal.{CloseRefusal}
use Rattle.dd_calls.specs.declared.answers.CloseRefusal.TheVariants as closing
use Rattle.dd_calls.specs.declared.answers.DupRefusal.{DupRefusal}
use Rattle.dd_calls.specs.declared.answers.DupRefusal.TheVariants as call

-- a count, and a coordinate of either sign
abbrev pub count : ℕ → Data
count n = number (unsigned n)

abbrev pub coordinate : ℤ → Data
coordinate z = number (of_integer z)

-- a list, each of its parts as f says
abbrev pub array_of : {T : Type 0} → (T → Data) → List T → Data
array_of f xs = array (items_of (map f xs))

-- bytes as their digits in lower case, two for each
abbrev pub bytes_tree : List ℕ → Data
bytes_tree bytes = string (encode_lower bytes)

-- ---- frames

unfoldable pub point_tree : Point → Data
point_tree p = array (item (coordinate p.x) (item (coordinate p.y) no_items))

-- a rectangle as its left, top, right and bottom sides
unfoldable pub rect_tree : Rect → Data
rect_tree r =
    array
    (item (coordinate r.left) (item (coordinate r.top)
    (item (coordinate r.right) (item (coordinate r.bottom) no_items))))

-- a move as its source point, then its destination's sides
unfoldable pub move_tree : Move → Data
move_tree m =
    array
    (item (coordinate m.source.x) (item (coordinate m.source.y)
    (item (coordinate m.dest.left) (item (coordinate m.dest.top)
    (item (coordinate m.dest.right) (item (coordinate m.dest.bottom) no_items))))))

-- what is told of a frame
unfoldable pub info_tree : FrameInfo → Data
info_tree i =
    object
    (member (codes "accumulated") (count i.accumulated)
    (member (codes "coalesced") (boolean i.coalesced)
    (member (codes "meta") (count i.meta_size)
    (member (codes "mouse") (count i.last_mouse)
    (member (codes "pointer") (point_tree i.pointer.position)
    (member (codes "present") (count i.last_present)
    (member (codes "protected") (boolean i.protected)
    (member (codes "shape") (count i.shape_size)
    (member (codes "visible") (boolean i.pointer.visible)
    no_members)))))))))

unfoldable pub frame_tree : FrameInfo → List Move → List Rect → Data
frame_tree info moves dirt =
    object
    (member (codes "dirty") (array_of rect_tree dirt)
    (member (codes "frame") (info_tree info)
    (member (codes "moves") (array_of move_tree moves)
    no_members)))

-- ---- surfaces

-- a colour's red, green and blue: all its bytes but the highest, from the high one
abbrev pub colour_bytes : ℕ → List ℕ
colour_bytes c = drop 1 (to_be_bytes w32 c)

-- the six digits of each colour of a row, from the left
unfoldable pub row_digits : List ℕ → List ℕ
row_digits row = encode_lower (flat_map colour_bytes row)

abbrev pub row_tree : List ℕ → Data
row_tree row = string (row_digits row)

-- the rows from the top, or null where no frame is held
abbrev pub rows_tree : Option (List (List ℕ)) → Data
rows_tree None = null
rows_tree (Some rows) = array_of row_tree rows

unfoldable pub surface_tree : Option (List (List ℕ)) → Data
surface_tree rows = object (member (codes "surface") (rows_tree rows) no_members)

-- ---- descriptions

unfoldable pub desc_tree : Mode → Data
desc_tree m =
    object
    (member (codes "height") (count m.height)
    (member (codes "rotation") (count (rotation_number m.rotation))
    (member (codes "width") (count m.width)
    no_members)))

-- ---- buffers

-- a whole buffer, and how many of its bytes were put there
unfoldable pub buffer_tree : List ℕ → ℕ → Data
buffer_tree bytes size =
    object (member (codes "buffer") (bytes_tree bytes) (member (codes "size") (count size) no_members))

-- what is told of a shape
unfoldable pub shape_tree : ShapeInfo → Data
shape_tree i =
    object
    (member (codes "height") (count i.height)
    (member (codes "hot") (point_tree i.hot)
    (member (codes "kind") (count i.kind)
    (member (codes "pitch") (count i.pitch)
    (member (codes "width") (count i.width)
    no_members)))))

-- or null where there is no new shape
abbrev pub new_shape_tree : Option ShapeInfo → Data
new_shape_tree None = null
new_shape_tree (Some info) = shape_tree info

unfoldable pub shape_buffer_tree : List ℕ → Option ShapeInfo → ℕ → Data
shape_buffer_tree bytes shape size =
    object
    (member (codes "buffer") (bytes_tree bytes)
    (member (codes "info") (new_shape_tree shape)
    (member (codes "size") (count size)
    no_members)))

-- ---- refusals

-- the codes, as eight hexadecimal digits: DXGI_ERROR_ACCESS_LOST, DXGI_ERROR_INVALID_CALL, DXGI_ERROR_WAIT_TIMEOUT,
-- DXGI_ERROR_MORE_DATA, E_ACCESSDENIED, DXGI_ERROR_NOT_CURRENTLY_AVAILABLE, DXGI_ERROR_SESSION_DISCONNECTED and
-- E_INVALIDARG
abbrev pub access_lost : List ℕ
access_lost = codes "887a0026"

abbrev pub invalid_call : List ℕ
invalid_call = codes "887a0001"

abbrev pub wait_timeout : List ℕ
wait_timeout = codes "887a0027"

abbrev pub more_data : List ℕ
more_data = codes "887a0003"

abbrev pub access_denied : List ℕ
access_denied = codes "80070005"

abbrev pub not_available : List ℕ
not_available = codes "887a0022"

abbrev pub session_disconnected : List ℕ
session_disconnected = codes "887a0028"

abbrev pub invalid_argument : List ℕ
invalid_argument = codes "80070057"

-- the members, with one more in front where there is a part
abbrev pub part : List ℕ → Option Data → Members → Members
part key None ms = ms
part key (Some d) ms = member key d ms

-- the members, with one more where there is a part
abbrev pub put_part : List ℕ → Option Data → Members → Members
put_part key None ms = ms
put_part key (Some d) ms = put key d ms

-- what a refusal tells: its name, and of the other parts those that it has
pub record Refusal : Type 0 where
  pub name : List ℕ
  pub code : Option (List ℕ)
  pub op : Option ℕ
  pub buffer : Option (List ℕ)
  pub required : Option ℕ

-- a refusal that has its name alone
abbrev pub named : List ℕ → Refusal
named name = record { name = name; code = None; op = None; buffer = None; required = None }

unfoldable pub refusal_tree : Refusal → Data
refusal_tree r =
    object
    (part (codes "buffer") (option_map bytes_tree r.buffer)
    (part (codes "code") (option_map string r.code)
    (part (codes "op") (option_map count r.op)
    (member (codes "refused") (string r.name)
    (part (codes "required") (option_map count r.required)
    no_members)))))

abbrev pub refused_drawing : LogRefusal → Refusal
refused_drawing drawing.Ended = named (codes "Ended")
refused_drawing drawing.Full = named (codes "Full")
refused_drawing drawing.BadMode = record (named (codes "BadMode")) { code = Some invalid_argument }
refused_drawing (drawing.BadRect op) = record (named (codes "BadRect")) { code = Some invalid_argument; op = Some op }

abbrev pub refused_opening : OpenRefusal → Refusal
refused_opening opening.SessionDisconnected =
    record (named (codes "SessionDisconnected")) { code = Some session_disconnected }
refused_opening opening.AccessDenied = record (named (codes "AccessDenied")) { code = Some access_denied }
refused_opening opening.AlreadyDuplicating =
    record (named (codes "AlreadyDuplicating")) { code = Some invalid_argument }
refused_opening opening.NotAvailable = record (named (codes "NotAvailable")) { code = Some not_available }
refused_opening opening.Full = named (codes "Full")

abbrev pub refused_closing : CloseRefusal → Refusal
refused_closing closing.NoDuplicator = named (codes "NoDuplicator")
refused_closing closing.Ended = named (codes "Ended")
refused_closing closing.Full = named (codes "Full")

-- a refused call, with the whole buffer that it was given, if any
abbrev pub refused_call : DupRefusal → Option (List ℕ) → Refusal
refused_call call.AccessLost buffer =
    record (named (codes "AccessLost")) { code = Some access_lost; buffer = buffer }
refused_call call.InvalidCall buffer =
    record (named (codes "InvalidCall")) { code = Some invalid_call; buffer = buffer }
refused_call call.WaitTimeout buffer =
    record (named (codes "WaitTimeout")) { code = Some wait_timeout; buffer = buffer }
refused_call (call.MoreData required) buffer =
    record (named (codes "MoreData")) { code = Some more_data; buffer = buffer; required = Some required }
refused_call call.OutOfMemory buffer = record (named (codes "OutOfMemory")) { buffer = buffer }

-- a call of a client that has no duplicator
abbrev pub refused_client : Refusal
refused_client = named (codes "NoDuplicator")

-- ---- answers

unfoldable pub answer_tree : Answer → Data
answer_tree (answer.Entered entry) = object (member (codes "entry") (count entry) no_members)
answer_tree (answer.NotDrawn refusal) = refusal_tree (refused_drawing refusal)
answer_tree (answer.Opened entry slot) =
    object (member (codes "entry") (count entry) (member (codes "slot") (count slot) no_members))
answer_tree (answer.NotOpened refusal) = refusal_tree (refused_opening refusal)
answer_tree (answer.Closed entry) = object (member (codes "entry") (count entry) no_members)
answer_tree (answer.NotClosed refusal) = refusal_tree (refused_closing refusal)
answer_tree (answer.Frame info moves dirt) = frame_tree info moves dirt
answer_tree answer.Released = object (member (codes "released") (boolean true) no_members)
answer_tree (answer.Surface rows) = surface_tree rows
answer_tree (answer.Desc mode) = desc_tree mode
answer_tree (answer.Buffer size bytes) = buffer_tree bytes size
answer_tree (answer.ShapeBuffer size bytes shape) = shape_buffer_tree bytes shape size
answer_tree (answer.Refused refusal buffer) = refusal_tree (refused_call refusal buffer)
answer_tree answer.NoDuplicator = refusal_tree refused_client

-- the answer isn't a surface; private calls alone cite this
abbrev pub IsNoSurface : Answer → Type 0
IsNoSurface a = (rows : Option (List (List ℕ))) → a ≡ answer.Surface rows → ⊥
