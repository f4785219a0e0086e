-- A script's own tree is read as that script: part by part.
use Rattle.std.proofs.Common.{◌≡◌, ℕ, zero, suc, ◌+◌, ◌*◌, ◌/◌, ◌%◌, ◌^◌, ◌<◌, ◌≤◌, true, Bool, List, [], ◌∷◌, length, get_or, Some, None, Option, arith, refl, sym, ap, ◌∙◌, option_map, codes}
use Rattle.std.specs.Prelude.{◌==◌, ◌&&◌, nat_le, nat_lt, ℤ, pos, negsuc, int_le, map, slice_index_or, is_none}
use Rattle.std.specs.List.{list_all, flat_map}
use Rattle.std.specs.Int.{w32, byte_at, to_be_bytes, from_be_bytes}
use Rattle.std.proofs.lemmas.Bool.{and_parts, cond-true, eqb-true, eq-eqb, ltb-true, lt-ltb, leb-true, false≢true}
use Rattle.std.proofs.lemmas.List.{same_lists}
use Rattle.std.proofs.lemmas.List.FromFn.{length-map-range_with_len, get_or-map-range_with_len}
use Rattle.std.proofs.lemmas.Nat.{from_be_bytes-to_be_bytes_4}
use Rattle.hex.specs.Hex.{IsBytes, lower_digits, encode_lower}
use Rattle.hex.proofs.HexLemmas.{length-encode_with, IsDigits-lower_digits, decode_pairs-encode_with, decode_of-encode_lower}
use Rattle.hex.proofs.Pairs.{decode_sized-pairs}
use Rattle.serde_json.specs.Data.{Data, string, object, member, no_members}
use Rattle.serde_json.specs.Find.{get}
use Rattle.serde_json.specs.View.{items_of}
use Rattle.dd_geom.specs.declared.rect.Point.{Point}
use Rattle.dd_geom.specs.declared.rect.Rect.{Rect}
use Rattle.dd_geom.specs.declared.rect.TheConstants.{MAX_SIDE, MAX_PIXELS}
use Rattle.dd_pointer.specs.declared.kind.Kind.{Kind}
use Rattle.dd_pointer.specs.declared.kind.Kind.TheVariants.{Monochrome, Color, MaskedColor}
use Rattle.dd_pointer.specs.declared.kind.TheConstants.{MAX_HEIGHT, MAX_MASK_HEIGHT}
use Rattle.dd_pointer.specs.Shape.{PointerShape, number, is_height, shape_fault, IsShape}
use Rattle.dd_pointer.proofs.Sizes.{has_size, shape_is_read}
use Rattle.dd_modes.specs.declared.modes.Mode.{Mode}
use Rattle.dd_modes.specs.declared.modes.Rotation.{Rotation}
use Rattle.dd_modes.specs.declared.modes.Rotation.TheVariants.{Unspecified, Identity, Rotate90, Rotate180, Rotate270}
use Rattle.dd_modes.specs.Modes.{is_mode, are_modes}
use Rattle.dd_ops.specs.declared.operations.Op.{Op}
use Rattle.dd_ops.specs.declared.operations.Op.TheVariants.{Fill, Blit, Cover, Scroll}
use Rattle.dd_ops.specs.declared.lists.TheConstants.{MAX_OPS}
use Rattle.dd_log.specs.declared.events.Draw as draws
use Rattle.dd_log.specs.declared.events.Draw.TheVariants as drawings
use Rattle.dd_calls.specs.declared.steps.ClientCall.{ClientCall}
use Rattle.dd_calls.specs.declared.steps.ClientCall.TheVariants.{Duplicate, Close, Acquire, Release, Moves, Dirty, Shape, Surface, Desc}
use Rattle.dd_calls.specs.declared.steps.Step.{Step}
use Rattle.dd_calls.specs.declared.steps.Step.TheVariants.{Draw, Call}
use Rattle.dd_calls.specs.declared.steps.Script.{Script}
use Rattle.dd_script_read.specs.declared.calls.TheConstants.{MAX_BUFFER}
use Rattle.dd_modes.specs.Numbers.{rotation_number, rotation_numbered}
use Rattle.dd_script_write.specs.Answers.{count, coordinate, array_of, part, point_tree, rect_tree, colour_bytes, row_digits}
use Rattle.dd_script_read.specs.Script.{listed, each, u32_of, i32_of, rect_of, point_of, colour_at, colour_of, colours_in, colours_from, bytes_of, colours_of, fill_of, blit_of, cover_of, scroll_of, operation_of, operations_of, present_of, pointer_of, shape_of, change_of, switch_of, has_true, session_of, single_of, draw_of, call_named, filling_named, buffer_of, plain_call_of, filling_call_of, client_call_of, call_of, step_of, steps_of, mode_of, modes_of, apps_of, parts_of, keeps_limits, script_of}
use Rattle.dd_script_read.specs.Readable.{is_number, is_coordinate, is_point, is_rectangle, is_colour, is_operation, is_byte, is_shape, is_drawing, is_buffer, is_call, is_step, is_readable}
use Rattle.dd_script_laws.specs.ReadBack.{IsReadBack}
use Rattle.dd_script_write.specs.Spelling.{colour_tree, colours_tree, op_tree, shape_step_tree, draw_tree, name_of, buffer_given, step_tree, mode_tree, spelling}
use Rattle.dd_script_laws.proofs.InRange.{is_read}

-- ---- lists

-- the trees of a list that was spelled
abbrev spelled : {A : Type 0} → (A → Data) → List A → List Data
spelled tree xs = listed (items_of (map tree xs))

each_back : {A : Type 0} (f : Data → Option A) (tree : A → Data) (p : A → Bool)
    → ((x : A) → p x ≡ true → f (tree x) ≡ Some x)
    → (xs : List A) → list_all p xs ≡ true → each f (spelled tree xs) ≡ Some xs
each_back f tree p h [] e = refl
each_back f tree p h (x ∷ xs) e =
    let both = and_parts (p x) (list_all p xs) e in
    rw (h x both.0, each_back f tree p h xs both.1) refl

length-spelled : {A : Type 0} (tree : A → Data) (xs : List A) → length (spelled tree xs) ≡ length xs
length-spelled tree [] = refl
length-spelled tree (x ∷ xs) = ap suc (length-spelled tree xs)

-- ---- numbers

number_back : (n : ℕ) → is_number n ≡ true → u32_of (count n) ≡ Some n
unfolding u32_of
number_back n h = cond-true _ _ _ h

coordinate_back : (z : ℤ) → is_coordinate z ≡ true → i32_of (coordinate z) ≡ Some z
unfolding i32_of
coordinate_back (pos n) h =
    let both = and_parts (int_le (negsuc 2147483647) (pos n)) (int_le (pos n) (pos 2147483647)) h in
    let below : n ≤ 2147483647 = leb-true _ _ both.1 in
    let fits : nat_lt n (2 ^ 63) ≡ true = lt-ltb _ _ (omega arith) in
    rw fits (cond-true _ _ _ h)
coordinate_back (negsuc n) h = cond-true _ _ _ h

-- ---- drawing

rect_back : (r : Rect) → is_rectangle r ≡ true → rect_of (rect_tree r) ≡ Some r
unfolding rect_of rect_tree
rect_back r h =
    let three = and_parts _ (is_coordinate r.bottom) h in
    let two = and_parts _ (is_coordinate r.right) three.0 in
    let one = and_parts (is_coordinate r.left) (is_coordinate r.top) two.0 in
    let left = coordinate_back r.left one.0 in
    let top = coordinate_back r.top one.1 in
    let right = coordinate_back r.right two.1 in
    let bottom = coordinate_back r.bottom three.1 in
    rw (left, top, right, bottom) refl

point_back : (p : Point) → is_point p ≡ true → point_of (point_tree p) ≡ Some p
unfolding point_of point_tree
point_back p h =
    let both = and_parts (is_coordinate p.x) (is_coordinate p.y) h in
    rw (coordinate_back p.x both.0, coordinate_back p.y both.1) refl

-- the bytes of colours are bytes
IsBytes-cons : (b : ℕ) (bytes : List ℕ) → b < 256 → IsBytes bytes → IsBytes (b ∷ bytes)
IsBytes-cons b bytes h hs zero = h
IsBytes-cons b bytes h hs (suc i) = hs i

byte_at-below : (k n : ℕ) → byte_at k n < 256
byte_at-below zero n = omega arith
byte_at-below (suc k) n = omega arith

IsBytes-colours : (cs : List ℕ) → IsBytes (flat_map colour_bytes cs)
IsBytes-colours [] = λ i. omega arith
IsBytes-colours (c ∷ cs) =
    let bytes = flat_map colour_bytes cs in
    let blue = IsBytes-cons (byte_at 0 c) bytes (byte_at-below 0 c) (IsBytes-colours cs) in
    let green = IsBytes-cons (byte_at 1 c) (byte_at 0 c ∷ bytes) (byte_at-below 1 c) blue in
    IsBytes-cons (byte_at 2 c) (byte_at 1 c ∷ byte_at 0 c ∷ bytes) (byte_at-below 2 c) green

-- a colour is its three bytes, with none above them
from_bytes : (c : ℕ) → is_colour c ≡ true → from_be_bytes w32 (0 ∷ colour_bytes c) ≡ c
from_bytes c h =
    let below : c < 2 ^ 24 = ltb-true _ _ h in
    let top : to_be_bytes w32 c ≡ 0 ∷ colour_bytes c = ap (λ (n : ℕ). n ∷ colour_bytes c) (omega arith) in
    ap (from_be_bytes w32) (sym top) ∙ from_be_bytes-to_be_bytes_4 c (omega arith)

IsBytes-colour : (c : ℕ) → IsBytes (colour_bytes c)
IsBytes-colour c = IsBytes-colours (c ∷ [])

colour_back : (c : ℕ) → is_colour c ≡ true → colour_of (colour_tree c) ≡ Some c
unfolding colour_of
colour_back c h =
    let digits = length-encode_with lower_digits (colour_bytes c) in
    let pairs = decode_sized-pairs (encode_lower (colour_bytes c)) 3 (omega (arith, digits)) (omega (arith, digits)) in
    let back = decode_pairs-encode_with lower_digits IsDigits-lower_digits 0 (colour_bytes c) (IsBytes-colour c) in
    rw (pairs ∙ back) (ap Some (from_bytes c h))

length-colours : (cs : List ℕ) → length (flat_map colour_bytes cs) ≡ 3 * length cs
length-colours [] = refl
length-colours (c ∷ cs) = let rest = length-colours cs in omega arith

-- past three bytes
past_three : (a b c : ℕ) (bytes : List ℕ) (i j : ℕ)
    → i ≡ 3 + j → slice_index_or (a ∷ b ∷ c ∷ bytes) i 0 ≡ slice_index_or bytes j 0
past_three a b c bytes i j e = let three : 3 + j ≡ suc (suc (suc j)) = omega arith in rw (e, three) refl

colour_at-next : (a b c : ℕ) (bytes : List ℕ) (k : ℕ) → colour_at (a ∷ b ∷ c ∷ bytes) (suc k) ≡ colour_at bytes k
colour_at-next a b c bytes k =
    let red = past_three a b c bytes (3 * suc k) (3 * k) (omega arith) in
    let green = past_three a b c bytes (3 * suc k + 1) (3 * k + 1) (omega arith) in
    let blue = past_three a b c bytes (3 * suc k + 2) (3 * k + 2) (omega arith) in
    rw (red, green, blue) refl

colour_at-back : (cs : List ℕ) (k d : ℕ) → list_all is_colour cs ≡ true → k < length cs
    → colour_at (flat_map colour_bytes cs) k ≡ get_or cs k d
colour_at-back [] k d h lt = absurd (omega arith)
colour_at-back (c ∷ cs) zero d h lt = from_bytes c (and_parts (is_colour c) (list_all is_colour cs) h).0
colour_at-back (c ∷ cs) (suc k) d h lt =
    colour_at-next _ _ _ (flat_map colour_bytes cs) k
    ∙ colour_at-back cs k d (and_parts (is_colour c) (list_all is_colour cs) h).1 (omega arith)

colours_in-back : (cs : List ℕ) → list_all is_colour cs ≡ true → colours_in (flat_map colour_bytes cs) ≡ cs
colours_in-back cs h =
    let bytes = flat_map colour_bytes cs in
    let len = length-colours cs in
    let many : length bytes / 3 ≡ length cs = omega (arith, len) in
    let size = length-map-range_with_len (colour_at bytes) 0 (length bytes / 3) in
    same_lists (colours_in bytes) cs (size ∙ many) (λ k d lt.
    let below : k < length cs = omega (arith, size, many) in
    get_or-map-range_with_len (colour_at bytes) 0 (length bytes / 3) k k d (omega (arith, many)) (omega arith)
    ∙ colour_at-back cs k d h below)

colours_back : (cs : List ℕ) → list_all is_colour cs ≡ true → colours_of (colours_tree cs) ≡ Some cs
unfolding bytes_of colours_of colours_from row_digits
colours_back cs h =
    let bytes = flat_map colour_bytes cs in
    let len = length-colours cs in
    let none_left : (length bytes % 3 == 0) ≡ true = eq-eqb _ _ (omega (arith, len)) in
    rw (decode_of-encode_lower bytes (IsBytes-colours cs), none_left) (ap Some (colours_in-back cs h))

op_back : (o : Op) → is_operation o ≡ true → operation_of (op_tree o) ≡ Some o
unfolding op_tree operation_of fill_of blit_of cover_of scroll_of
op_back (Fill r c) h =
    let both = and_parts (is_rectangle r) (is_colour c) h in
    rw (rect_back r both.0, colour_back c both.1) refl
op_back (Blit r cs) h =
    let both = and_parts (is_rectangle r) (list_all is_colour cs) h in
    rw (rect_back r both.0, colours_back cs both.1) refl
op_back (Cover r cs) h =
    let both = and_parts (is_rectangle r) (list_all is_colour cs) h in
    rw (rect_back r both.0, colours_back cs both.1) refl
op_back (Scroll m) h =
    let both = and_parts (is_point m.source) (is_rectangle m.dest) h in
    rw (rect_back m.dest both.1, point_back m.source both.0) refl

-- bytes that pass are bytes
IsBytes-all : (bytes : List ℕ) → list_all is_byte bytes ≡ true → IsBytes bytes
IsBytes-all [] h = λ i. omega arith
IsBytes-all (b ∷ bytes) h =
    let both = and_parts (is_byte b) (list_all is_byte bytes) h in
    IsBytes-cons b bytes (ltb-true _ _ both.0) (IsBytes-all bytes both.1)

-- a shape's kind and height are numbers
pub kind_passes : (kind : Kind) → is_number (number kind) ≡ true
kind_passes Monochrome = refl
kind_passes Color = refl
kind_passes MaskedColor = refl

pub height_passes : (kind : Kind) (n : ℕ) → is_height kind n ≡ true → is_number n ≡ true
height_passes Monochrome n h =
    let both = and_parts (nat_le 2 n && nat_le n MAX_MASK_HEIGHT) (n % 2 == 0) h in
    let few = leb-true n MAX_MASK_HEIGHT (and_parts (nat_le 2 n) (nat_le n MAX_MASK_HEIGHT) both.0).1 in
    lt-ltb _ _ (omega arith)
height_passes Color n h =
    let few = leb-true n MAX_HEIGHT (and_parts (nat_le 1 n) (nat_le n MAX_HEIGHT) h).1 in
    lt-ltb _ _ (omega arith)
height_passes MaskedColor n h =
    let few = leb-true n MAX_HEIGHT (and_parts (nat_le 1 n) (nat_le n MAX_HEIGHT) h).1 in
    lt-ltb _ _ (omega arith)

pub nothing : {A : Type 0} (o : Option A) → is_none o ≡ true → o ≡ None
nothing None h = refl
nothing (Some x) h = absurd (false≢true h)

shape_back : (s : PointerShape) → is_shape s ≡ true → shape_of (shape_step_tree s) ≡ Some (drawings.Shape s)
unfolding shape_of bytes_of shape_step_tree
shape_back s h =
    let fault = shape_fault s.kind s.width s.height s.bytes in
    let all = and_parts (is_none fault && is_point s.hot) (list_all is_byte s.bytes) h in
    let both = and_parts (is_none fault) (is_point s.hot) all.0 in
    let whole : IsShape s = nothing fault both.0 in
    let size = has_size s.kind s.width s.height s.bytes whole in
    let wide : s.width < 2 ^ 32 = omega (arith, size.width) in
    let kind = number_back (number s.kind) (kind_passes s.kind) in
    let width = number_back s.width (lt-ltb _ _ wide) in
    let height = number_back s.height (height_passes s.kind s.height size.height) in
    let hot = point_back s.hot both.1 in
    let bytes = decode_of-encode_lower s.bytes (IsBytes-all s.bytes all.1) in
    rw (kind, width, height, hot, bytes, shape_is_read s whole) refl

draw_back : (d : draws.Draw) → is_drawing d ≡ true → draw_of (draw_tree d) ≡ Some d
unfolding draw_tree draw_of operations_of present_of pointer_of change_of switch_of has_true session_of single_of
    shape_step_tree
draw_back (drawings.Present ops) h =
    let both = and_parts (nat_le (length ops) MAX_OPS) (list_all is_operation ops) h in
    let few : nat_le (length (spelled op_tree ops)) MAX_OPS ≡ true =
    ap (λ n. nat_le n MAX_OPS) (length-spelled op_tree ops) ∙ both.0 in
    rw (few, each_back operation_of op_tree is_operation op_back ops both.1) refl
draw_back (drawings.Pointer position visible) h = rw (point_back position h) refl
draw_back (drawings.Shape shape) h = shape_back shape h
draw_back (drawings.Mode index) h = rw (number_back index h) refl
draw_back (drawings.Switch secure) h = refl
draw_back drawings.Disconnect h = refl
draw_back drawings.Reconnect h = refl

-- ---- steps

buffer_back : (n : ℕ) → is_buffer n ≡ true → buffer_of (count n) ≡ Some n
unfolding buffer_of
buffer_back n h =
    let few = leb-true n MAX_BUFFER h in
    rw (number_back n (lt-ltb _ _ (omega arith))) (cond-true _ _ _ h)

call_back : (client : ℕ) (c : ClientCall) → is_call c ≡ true → client_call_of (step_tree (Call client c)) ≡ Some c
unfolding step_tree client_call_of plain_call_of filling_call_of call_named filling_named
call_back client Duplicate h = refl
call_back client Close h = refl
call_back client (Acquire timeout) h = ap (λ n. Some (Acquire n)) (sym (eqb-true timeout 0 h))
call_back client Release h = refl
call_back client (Moves buffer) h = rw (buffer_back buffer h) refl
call_back client (Dirty buffer) h = rw (buffer_back buffer h) refl
call_back client (Shape buffer) h = rw (buffer_back buffer h) refl
call_back client Surface h = refl
call_back client Desc h = refl

client_back : (buffer : Option Data) (call client : Data)
    → get (codes "client")
    (object (part (codes "buffer") buffer (member (codes "call") call (member (codes "client") client no_members))))
    ≡ Some client
client_back None call client = refl
client_back (Some buffer) call client = refl

step_back : (s : Step) → is_step s ≡ true → step_of (step_tree s) ≡ Some s
unfolding step_tree draw_tree shape_step_tree step_of call_of
step_back (Draw (drawings.Present ops)) h = ap (option_map Draw) (draw_back (drawings.Present ops) h)
step_back (Draw (drawings.Pointer position visible)) h =
    ap (option_map Draw) (draw_back (drawings.Pointer position visible) h)
step_back (Draw (drawings.Shape shape)) h = ap (option_map Draw) (draw_back (drawings.Shape shape) h)
step_back (Draw (drawings.Mode index)) h = ap (option_map Draw) (draw_back (drawings.Mode index) h)
step_back (Draw (drawings.Switch secure)) h = ap (option_map Draw) (draw_back (drawings.Switch secure) h)
step_back (Draw drawings.Disconnect) h = ap (option_map Draw) (draw_back drawings.Disconnect h)
step_back (Draw drawings.Reconnect) h = ap (option_map Draw) (draw_back drawings.Reconnect h)
step_back (Call client call) h =
    let both = and_parts (is_number client) (is_call call) h in
    let there = client_back (option_map count (buffer_given call)) (string (name_of call)) (count client) in
    rw (there, number_back client both.0, call_back client call both.1) refl

-- ---- the output

rotation_back : (r : Rotation) → rotation_numbered (rotation_number r) ≡ Some r
unfolding rotation_numbered
rotation_back Unspecified = refl
rotation_back Identity = refl
rotation_back Rotate90 = refl
rotation_back Rotate180 = refl
rotation_back Rotate270 = refl

pub turn_passes : (r : Rotation) → is_number (rotation_number r) ≡ true
turn_passes Unspecified = refl
turn_passes Identity = refl
turn_passes Rotate90 = refl
turn_passes Rotate180 = refl
turn_passes Rotate270 = refl

-- a side within the limit is a number
pub side_passes : (n : ℕ) → nat_le n MAX_SIDE ≡ true → is_number n ≡ true
side_passes n h = let below = leb-true _ _ h in lt-ltb _ _ (omega arith)

mode_back : (m : Mode) → is_mode m ≡ true → mode_of (mode_tree m) ≡ Some m
unfolding is_mode mode_of mode_tree
mode_back m h =
    let high = and_parts _ (nat_le (m.width * m.height) MAX_PIXELS) h in
    let tall = and_parts _ (nat_le m.height MAX_SIDE) high.0 in
    let low = and_parts _ (nat_le 1 m.height) tall.0 in
    let wide = and_parts (nat_le 1 m.width) (nat_le m.width MAX_SIDE) low.0 in
    let turn = number_back (rotation_number m.rotation) (turn_passes m.rotation) in
    let width = number_back m.width (side_passes m.width wide.1) in
    let height = number_back m.height (side_passes m.height tall.1) in
    rw (width, height, turn, rotation_back m.rotation) refl

modes_back : (ms : List Mode) → are_modes ms ≡ true → modes_of (array_of mode_tree ms) ≡ Some ms
unfolding are_modes modes_of
modes_back ms h =
    let both = and_parts _ (list_all is_mode ms) h in
    rw (each_back mode_of mode_tree is_mode mode_back ms both.1) (cond-true _ _ _ h)

apps_back : (apps : List ℕ) → list_all is_number apps ≡ true → apps_of (array_of count apps) ≡ Some apps
unfolding apps_of
apps_back apps h = each_back u32_of count is_number number_back apps h

steps_back : (ss : List Step) → list_all is_step ss ≡ true → steps_of (array_of step_tree ss) ≡ Some ss
unfolding steps_of
steps_back ss h = each_back step_of step_tree is_step step_back ss h

-- ---- the script

pub script_back : (s : Script) → is_readable s ≡ true → IsReadBack s
unfolding is_readable script_of spelling parts_of
script_back s h =
    let limits = and_parts _ (keeps_limits s) h in
    let steps = and_parts _ (list_all is_step s.steps) limits.0 in
    let clients = and_parts _ (list_all is_number s.clients) steps.0 in
    let privileged = and_parts _ (list_all is_number s.spec.privileged) clients.0 in
    let capacity = and_parts (are_modes s.spec.modes) (is_number s.spec.capacity) privileged.0 in
    let modes = modes_back s.spec.modes capacity.0 in
    let number = number_back s.spec.capacity capacity.1 in
    let apps = apps_back s.spec.privileged privileged.1 in
    let clients_too = apps_back s.clients clients.1 in
    rw (modes, number, apps, clients_too, steps_back s.steps steps.1, limits.1) refl

-- each script that some tree is
pub read_back : (d : Data) (s : Script) → script_of d ≡ Some s → IsReadBack s
read_back d s e = script_back s (is_read d s e)
