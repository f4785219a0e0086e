-- Which JSON trees are scripts, and of which script: one definition for each form, in the order of its parts.
use Rattle.std.specs.Prelude.{ℕ, zero, suc, ◌^◌, ◌≤◌, ◌+◌, ◌*◌, ◌/◌, ◌%◌, ℤ, pos, negsuc, int_le, nat_lt, nat_le, ◌==◌, Bool, true, false, ◌&&◌, if◌then◌else◌, codes, List, [], ◌∷◌, length, map, slice_index_or, Option, Some, None, is_some, option_map, option_and_then}
use Rattle.std.specs.Option.{option_map_or}
use Rattle.std.specs.Result.{result_ok}
use Rattle.std.specs.List.{list_all, range_with_len, AllByRecursion}
use Rattle.std.specs.Int.{w32, from_be_bytes}
use Rattle.std.specs.Str.{bytes_eq}
use Rattle.serde_json.specs.Data.{Data, Items, no_items, item, Members, no_members, member}
use Rattle.serde_json.specs.Find.{get, at, as_bool, as_number, as_u64, as_i64, as_str, as_array, as_object}
use Rattle.hex.specs.Hex.{decode_of, decode_sized}
use Rattle.dd_geom.specs.declared.rect.Point.{Point}
use Rattle.dd_geom.specs.declared.rect.Rect.{Rect}
use Rattle.dd_modes.specs.declared.modes.Mode.{Mode}
use Rattle.dd_modes.specs.Numbers.{rotation_numbered}
use Rattle.dd_modes.specs.Modes.{are_modes}
use Rattle.dd_pointer.specs.Shape.{reading}
use Rattle.dd_ops.specs.declared.operations.Op.{Op}
use Rattle.dd_ops.specs.declared.operations.Op.TheVariants.{Fill, Blit, Cover, Scroll}
use Rattle.dd_ops.specs.declared.lists.TheConstants.{MAX_OPS}
use Rattle.dd_log.specs.declared.events.Draw as draws
use Rattle.dd_log.specs.declared.events.Draw.TheVariants as drawings
use Rattle.dd_calls.specs.declared.steps.ClientCall.{ClientCall}
use Rattle.dd_calls.specs.declared.steps.ClientCall.TheVariants.{Duplicate, Close, Acquire, Release, Moves, Dirty, Shape, Surface, Desc}
use Rattle.dd_calls.specs.declared.steps.Step.{Step}
use Rattle.dd_calls.specs.declared.steps.Step.TheVariants.{Draw, Call}
use Rattle.dd_calls.specs.declared.steps.Script.{Script}
use Rattle.dd_calls.specs.Calls.{IsOfClient}
use Rattle.dd_log.specs.declared.events.TheConstants.{MAX_CAPACITY, MAX_PRIVILEGED}
use Rattle.dd_calls.specs.declared.steps.TheConstants.{MAX_CLIENTS}
use Rattle.dd_script_read.specs.declared.calls.TheConstants.{MAX_BUFFER}

-- the second step, where the first gave a value
infixl 10 ◌>>=◌
abbrev pub ◌>>=◌ : {A B : Type 0} → Option A → (A → Option B) → Option B
o >>= f = option_and_then f o

-- ---- trees

abbrev pub listed : Items → List Data
listed no_items = []
listed (item d ds) = d ∷ listed ds

-- the items of a list
abbrev pub list_of : Data → Option (List Data)
list_of d = option_map listed (as_array d)

-- a list of n items
abbrev pub has_items : ℕ → Data → Bool
has_items n d = option_map_or (λ ds. length ds == n) (list_of d) false

abbrev pub member_count : Members → ℕ
member_count no_members = zero
member_count (member k d ms) = suc (member_count ms)

-- an object of n keys
abbrev pub has_keys : ℕ → Data → Bool
has_keys n d = option_map_or (λ ms. member_count ms == n) (as_object d) false

-- each item is one that f reads
abbrev pub each : {A : Type 0} → (Data → Option A) → List Data → Option (List A)
each f [] = Some []
each f (d ∷ ds) = do
  x ← f d
  xs ← each f ds
  Some (x ∷ xs)

-- ---- numbers

-- a whole number from 0 to 4294967295
unfoldable pub u32_of : Data → Option ℕ
u32_of d = do
  number ← as_number d
  n ← as_u64 number
  if nat_lt n (2 ^ 32) then Some n else None

-- a coordinate: a whole number from -2147483648 to 2147483647
unfoldable pub i32_of : Data → Option ℤ
i32_of d = do
  number ← as_number d
  z ← as_i64 number
  if int_le (negsuc 2147483647) z && int_le z (pos 2147483647) then Some z else None

-- ---- drawing

-- [left, top, right, bottom]
unfoldable pub rect_of : Data → Option Rect
rect_of d = if has_items 4 d then (do
  left ← at 0 d >>= i32_of
  top ← at 1 d >>= i32_of
  right ← at 2 d >>= i32_of
  bottom ← at 3 d >>= i32_of
  Some (record { left = left; top = top; right = right; bottom = bottom })) else None

-- [x, y]
unfoldable pub point_of : Data → Option Point
point_of d = if has_items 2 d then (do
  x ← at 0 d >>= i32_of
  y ← at 1 d >>= i32_of
  Some (record { x = x; y = y })) else None

-- six hexadecimal digits: red, green, blue
unfoldable pub colour_of : Data → Option ℕ
colour_of d = do
  text ← as_str d
  channels ← result_ok (decode_sized text 3)
  Some (from_be_bytes w32 (0 ∷ channels))

-- the colour numbered i of bytes that are red, green and blue in turn
abbrev pub colour_at : List ℕ → ℕ → ℕ
colour_at bytes i =
    from_be_bytes w32
    (0 ∷ slice_index_or bytes (3 * i) 0 ∷ slice_index_or bytes (3 * i + 1) 0 ∷ slice_index_or bytes (3 * i + 2) 0 ∷ [])

-- the colours of bytes, in order
abbrev pub colours_in : List ℕ → List ℕ
colours_in bytes = map (colour_at bytes) (range_with_len 0 (length bytes / 3))

-- bytes as colours, with none left over
unfoldable pub colours_from : List ℕ → Option (List ℕ)
colours_from bytes = if length bytes % 3 == 0 then Some (colours_in bytes) else None

-- hexadecimal digits, two for each byte
unfoldable pub bytes_of : Data → Option (List ℕ)
bytes_of d = do
  text ← as_str d
  result_ok (decode_of text)

-- hexadecimal digits, six for each colour
unfoldable pub colours_of : Data → Option (List ℕ)
colours_of d = do
  bytes ← bytes_of d
  colours_from bytes

-- {"fill":R,"colour":colour}
unfoldable pub fill_of : Data → Option Op
fill_of d = do
  rect ← get (codes "fill") d >>= rect_of
  colour ← get (codes "colour") d >>= colour_of
  Some (Fill rect colour)

-- {"blit":R,"colours":colours}
unfoldable pub blit_of : Data → Option Op
blit_of d = do
  rect ← get (codes "blit") d >>= rect_of
  colours ← get (codes "colours") d >>= colours_of
  Some (Blit rect colours)

-- {"cover":R,"colours":colours}
unfoldable pub cover_of : Data → Option Op
cover_of d = do
  rect ← get (codes "cover") d >>= rect_of
  colours ← get (codes "colours") d >>= colours_of
  Some (Cover rect colours)

-- {"scroll":R,"from":[x,y]}: the destination, and the source's point
unfoldable pub scroll_of : Data → Option Op
scroll_of d = do
  dest ← get (codes "scroll") d >>= rect_of
  source ← get (codes "from") d >>= point_of
  Some (Scroll (record { source = source; dest = dest }))

-- an operation has two keys, of which one tells its kind
unfoldable pub operation_of : Data → Option Op
operation_of d =
    if has_keys 2 d then (
    if is_some (get (codes "fill") d) then fill_of d
    else if is_some (get (codes "blit") d) then blit_of d
    else if is_some (get (codes "cover") d) then cover_of d
    else scroll_of d) else None

-- 0 to 64 operations
unfoldable pub operations_of : Data → Option (List Op)
operations_of d = do
  ds ← list_of d
  if nat_le (length ds) MAX_OPS then each operation_of ds else None

-- {"present":[operations]}
unfoldable pub present_of : Data → Option draws.Draw
present_of d = do
  ops ← get (codes "present") d >>= operations_of
  Some (drawings.Present ops)

-- {"pointer":[x,y],"visible":visible}
unfoldable pub pointer_of : Data → Option draws.Draw
pointer_of d = if has_keys 2 d then (do
  position ← get (codes "pointer") d >>= point_of
  visible ← get (codes "visible") d >>= as_bool
  Some (drawings.Pointer position visible)) else None

-- {"shape":kind,"width":width,"height":height,"hot":[x,y],"bytes":bytes}, where these parts are a shape
unfoldable pub shape_of : Data → Option draws.Draw
shape_of d = if has_keys 5 d then (do
  kind ← get (codes "shape") d >>= u32_of
  width ← get (codes "width") d >>= u32_of
  height ← get (codes "height") d >>= u32_of
  hot ← get (codes "hot") d >>= point_of
  bytes ← get (codes "bytes") d >>= bytes_of
  shape ← result_ok (reading kind width height hot bytes)
  Some (drawings.Shape shape)) else None

-- {"mode":index}
unfoldable pub change_of : Data → Option draws.Draw
change_of d = do
  index ← get (codes "mode") d >>= u32_of
  Some (drawings.Mode index)

-- {"switch":secure}
unfoldable pub switch_of : Data → Option draws.Draw
switch_of d = do
  secure ← get (codes "switch") d >>= as_bool
  Some (drawings.Switch secure)

-- the key's value is true
unfoldable pub has_true : List ℕ → Data → Bool
has_true key d = option_map_or (λ b. b) (get key d >>= as_bool) false

-- {"disconnect":true}, {"reconnect":true}
unfoldable pub session_of : Data → Option draws.Draw
session_of d =
    if has_true (codes "disconnect") d then Some drawings.Disconnect
    else if has_true (codes "reconnect") d then Some drawings.Reconnect
    else None

-- a drawing of one key, which tells its kind
unfoldable pub single_of : Data → Option draws.Draw
single_of d =
    if has_keys 1 d then (
    if is_some (get (codes "present") d) then present_of d
    else if is_some (get (codes "mode") d) then change_of d
    else if is_some (get (codes "switch") d) then switch_of d
    else session_of d) else None

-- a pointer, a shape, or a drawing of one key
unfoldable pub draw_of : Data → Option draws.Draw
draw_of d =
    if is_some (get (codes "pointer") d) then pointer_of d
    else if is_some (get (codes "shape") d) then shape_of d
    else single_of d

-- ---- steps

-- in one list of steps an acquire has no timeout of its own
unfoldable pub call_named : List ℕ → Option ClientCall
call_named name =
    if bytes_eq name (codes "duplicate") then Some Duplicate
    else if bytes_eq name (codes "close") then Some Close
    else if bytes_eq name (codes "acquire") then Some (Acquire 0)
    else if bytes_eq name (codes "release") then Some Release
    else if bytes_eq name (codes "surface") then Some Surface
    else if bytes_eq name (codes "desc") then Some Desc
    else None

-- a call that is given a buffer of so many bytes
unfoldable pub filling_named : List ℕ → ℕ → Option ClientCall
filling_named name buffer =
    if bytes_eq name (codes "moves") then Some (Moves buffer)
    else if bytes_eq name (codes "dirty") then Some (Dirty buffer)
    else if bytes_eq name (codes "shape") then Some (Shape buffer)
    else None

-- a buffer's bytes: a whole number from 0 to 524288
unfoldable pub buffer_of : Data → Option ℕ
buffer_of d = do
  n ← u32_of d
  if nat_le n MAX_BUFFER then Some n else None

-- {"client":k,"call":name}
unfoldable pub plain_call_of : Data → Option ClientCall
plain_call_of d = if has_keys 2 d then (do
  name ← get (codes "call") d >>= as_str
  call_named name) else None

-- {"client":k,"call":name,"buffer":bytes}
unfoldable pub filling_call_of : Data → Option ClientCall
filling_call_of d = if has_keys 3 d then (do
  name ← get (codes "call") d >>= as_str
  buffer ← get (codes "buffer") d >>= buffer_of
  filling_named name buffer) else None

-- a call with a buffer where there is one
unfoldable pub client_call_of : Data → Option ClientCall
client_call_of d = if is_some (get (codes "buffer") d) then filling_call_of d else plain_call_of d

-- the client's number, and its call
unfoldable pub call_of : Data → Option Step
call_of d = do
  client ← get (codes "client") d >>= u32_of
  call ← client_call_of d
  Some (Call client call)

-- a call where there is a client, else a drawing
unfoldable pub step_of : Data → Option Step
step_of d = if is_some (get (codes "client") d) then call_of d else option_map Draw (draw_of d)

unfoldable pub steps_of : Data → Option (List Step)
steps_of d = list_of d >>= each step_of

-- ---- the output

-- [width, height, rotation]
unfoldable pub mode_of : Data → Option Mode
mode_of d = if has_items 3 d then (do
  width ← at 0 d >>= u32_of
  height ← at 1 d >>= u32_of
  turn ← at 2 d >>= u32_of
  rotation ← rotation_numbered turn
  Some (record { width = width; height = height; rotation = rotation })) else None

-- modes that an output may have
unfoldable pub modes_of : Data → Option (List Mode)
modes_of d = do
  modes ← list_of d >>= each mode_of
  if are_modes modes then Some modes else None

unfoldable pub apps_of : Data → Option (List ℕ)
apps_of d = list_of d >>= each u32_of

-- ---- the script

-- {"modes":modes,"capacity":capacity,"privileged":[applications],"clients":[applications],"steps":[steps]}
unfoldable pub parts_of : Data → Option Script
parts_of d = if has_keys 5 d then (do
  modes ← get (codes "modes") d >>= modes_of
  capacity ← get (codes "capacity") d >>= u32_of
  privileged ← get (codes "privileged") d >>= apps_of
  clients ← get (codes "clients") d >>= apps_of
  steps ← get (codes "steps") d >>= steps_of
  Some (record {
    spec = record { modes = modes; capacity = capacity; privileged = privileged };
    clients = clients;
    steps = steps;
  })) else None

-- a call is of one of n clients, numbered from 1
abbrev pub has_client : ℕ → Step → Bool
has_client n (Draw drawing) = true
has_client n (Call client call) = nat_le 1 client && nat_le client n

-- the ranges of the capacity, of the counts and of the clients' numbers
unfoldable pub keeps_limits : Script → Bool
keeps_limits s =
    nat_le 1 s.spec.capacity && nat_le s.spec.capacity MAX_CAPACITY && nat_le (length s.spec.privileged) MAX_PRIVILEGED
    && nat_le 1 (length s.clients) && nat_le (length s.clients) MAX_CLIENTS
    && list_all (has_client (length s.clients)) s.steps

-- the script that a tree is
unfoldable pub script_of : Data → Option Script
script_of d = do
  s ← parts_of d
  if keeps_limits s then Some s else None

-- ---- what holds of each script

pub record IsRunnable (s : Script) : Type 0 where
  pub capacity_low : 1 ≤ s.spec.capacity
  pub capacity_high : s.spec.capacity ≤ MAX_CAPACITY
  pub some : 1 ≤ length s.clients
  pub few : length s.clients ≤ MAX_CLIENTS
  pub calls : AllByRecursion (IsOfClient (length s.clients)) s.steps
