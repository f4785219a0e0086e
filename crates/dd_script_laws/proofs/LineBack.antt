-- A script's own tree is plain, and not deep: so its line is read back as that script.
use Rattle.std.proofs.Common.{◌≡◌, ℕ, zero, suc, ◌*◌, ◌^◌, ◌<◌, ◌≤◌, ℤ, pos, negsuc, Bool, true, ◌&&◌, List, [], ◌∷◌, map, length, IsUtf8, refl, arith}
use Rattle.std.specs.Prelude.{nat_le, nat_lt, int_le, is_none}
use Rattle.std.specs.List.{list_all}
use Rattle.std.specs.Str.{IsAscii}
use Rattle.std.proofs.lemmas.Bool.{and_parts, ltb-true, leb-true, lt-ltb}
use Rattle.std.proofs.lemmas.Str.{IsUtf8-from_ascii}
use Rattle.hex.specs.Hex.{lower_digits, encode_lower}
use Rattle.hex.proofs.HexLemmas.{IsAscii-encode_with}
use Rattle.json.specs.Tree.{depth, items_depth}
use Rattle.json.proofs.Printed.Utf8.{are_ascii, IsUtf8-are_ascii}
use Rattle.serde_json.specs.Data.{Data}
use Rattle.serde_json.specs.View.{items_of}
use Rattle.serde_json.specs.Written.{compact_text, outline, items_outline}
use Rattle.dd_geom.specs.declared.rect.Point.{Point}
use Rattle.dd_geom.specs.declared.rect.Rect.{Rect}
use Rattle.dd_modes.specs.declared.modes.Mode.{Mode}
use Rattle.dd_modes.specs.Modes.{is_mode, are_modes}
use Rattle.dd_geom.specs.declared.rect.TheConstants.{MAX_SIDE, MAX_PIXELS}
use Rattle.dd_pointer.specs.Shape.{PointerShape, number, shape_fault, IsShape}
use Rattle.dd_pointer.proofs.Sizes.{has_size}
use Rattle.dd_ops.specs.declared.operations.Op.{Op}
use Rattle.dd_ops.specs.declared.operations.Op.TheVariants.{Fill, Blit, Cover, Scroll}
use Rattle.dd_ops.specs.declared.lists.TheConstants.{MAX_OPS}
use Rattle.dd_log.specs.declared.events.Draw as draws
use Rattle.dd_log.specs.declared.events.Draw.TheVariants as drawings
use Rattle.dd_calls.specs.declared.steps.ClientCall.{ClientCall}
use Rattle.dd_calls.specs.declared.steps.ClientCall.TheVariants.{Duplicate, Close, Acquire, Release, Moves, Dirty, Shape, Surface, Desc}
use Rattle.dd_calls.specs.declared.steps.Step.{Step}
use Rattle.dd_calls.specs.declared.steps.Step.TheVariants.{Draw, Call}
use Rattle.dd_calls.specs.declared.steps.Script.{Script}
use Rattle.dd_script_read.specs.declared.calls.TheConstants.{MAX_BUFFER}
use Rattle.dd_modes.specs.Numbers.{rotation_number}
use Rattle.dd_script_write.specs.Answers.{count, coordinate, point_tree, rect_tree, row_digits}
use Rattle.dd_script_read.specs.Script.{keeps_limits}
use Rattle.dd_script_read.specs.Readable.{is_number, is_coordinate, is_point, is_rectangle, is_colour, is_operation, is_byte, is_drawing, is_buffer, is_call, is_step, is_shape, is_readable}
use Rattle.dd_script_write.specs.Spelling.{op_tree, shape_step_tree, draw_tree, step_tree, mode_tree, spelling}
use Rattle.dd_script_read.specs.Reading.{IsJson}
use Rattle.dd_script_laws.specs.ReadBack.{ScriptsReadBack, ScriptsReadBackUnended}
use Rattle.dd_script_write.specs.Texts.{script_line}
use Rattle.dd_script_laws.proofs.ReadBack.{kind_passes, height_passes, nothing, turn_passes, side_passes, script_back}
use Rattle.dd_script_laws.proofs.TreeBack.{IsPlain, ArePlain, is_utf8, line_is_utf8, line_is_read, text_is_read}

-- ---- how deep the trees are

list_depth : {A : Type 0} (tree : A → Data) (n : ℕ) → ((x : A) → depth (outline (tree x)) ≤ n) → (xs : List A)
    → items_depth (items_outline (items_of (map tree xs))) ≤ n
list_depth tree n h [] = omega arith
list_depth tree n h (x ∷ xs) = let first = h x in let rest = list_depth tree n h xs in omega arith

op_depth : (o : Op) → depth (outline (op_tree o)) ≤ 2
unfolding op_tree point_tree rect_tree
op_depth (Fill r c) = omega arith
op_depth (Blit r cs) = omega arith
op_depth (Cover r cs) = omega arith
op_depth (Scroll m) = omega arith

draw_depth : (d : draws.Draw) → depth (outline (draw_tree d)) ≤ 4
unfolding draw_tree shape_step_tree point_tree
draw_depth (drawings.Present ops) = let operations = list_depth op_tree 2 op_depth ops in omega arith
draw_depth (drawings.Pointer position visible) = omega arith
draw_depth (drawings.Shape shape) = omega arith
draw_depth (drawings.Mode index) = omega arith
draw_depth (drawings.Switch secure) = omega arith
draw_depth drawings.Disconnect = omega arith
draw_depth drawings.Reconnect = omega arith

step_depth : (t : Step) → depth (outline (step_tree t)) ≤ 4
unfolding step_tree
step_depth (Draw drawing) = draw_depth drawing
step_depth (Call client Duplicate) = omega arith
step_depth (Call client Close) = omega arith
step_depth (Call client (Acquire timeout)) = omega arith
step_depth (Call client Release) = omega arith
step_depth (Call client (Moves buffer)) = omega arith
step_depth (Call client (Dirty buffer)) = omega arith
step_depth (Call client (Shape buffer)) = omega arith
step_depth (Call client Surface) = omega arith
step_depth (Call client Desc) = omega arith

mode_depth : (m : Mode) → depth (outline (mode_tree m)) ≤ 1
unfolding mode_tree
mode_depth m = omega arith

script_depth : (s : Script) → depth (outline (spelling s)) ≤ 127
unfolding spelling
script_depth s =
    let clients = list_depth count 0 (λ _. omega arith) s.clients in
    let modes = list_depth mode_tree 1 mode_depth s.spec.modes in
    let privileged = list_depth count 0 (λ _. omega arith) s.spec.privileged in
    let steps = list_depth step_tree 4 step_depth s.steps in
    omega arith

-- ---- which parts are plain

list_plain : {A : Type 0} (tree : A → Data) (p : A → Bool) → ((x : A) → p x ≡ true → IsPlain (tree x))
    → (xs : List A) → list_all p xs ≡ true → ArePlain (items_of (map tree xs))
list_plain tree p h [] e = tt
list_plain tree p h (x ∷ xs) e =
    let both = and_parts (p x) (list_all p xs) e in
    (h x both.0, list_plain tree p h xs both.1)

count_plain : (n : ℕ) → is_number n ≡ true → IsPlain (count n)
count_plain n h = let below : n < 2 ^ 32 = ltb-true _ _ h in omega arith

buffer_plain : (n : ℕ) → is_buffer n ≡ true → IsPlain (count n)
buffer_plain n h = let few = leb-true n MAX_BUFFER h in omega arith

coordinate_plain : (z : ℤ) → is_coordinate z ≡ true → IsPlain (coordinate z)
coordinate_plain (pos n) h =
    let both = and_parts (int_le (negsuc 2147483647) (pos n)) (int_le (pos n) (pos 2147483647)) h in
    let below : n ≤ 2147483647 = leb-true _ _ both.1 in
    omega arith
coordinate_plain (negsuc n) h =
    let both = and_parts (int_le (negsuc 2147483647) (negsuc n)) (int_le (negsuc n) (pos 2147483647)) h in
    let below : n ≤ 2147483647 = leb-true _ _ both.0 in
    omega arith

point_plain : (p : Point) → is_point p ≡ true → IsPlain (point_tree p)
unfolding point_tree
point_plain p h =
    let both = and_parts (is_coordinate p.x) (is_coordinate p.y) h in
    (coordinate_plain p.x both.0, (coordinate_plain p.y both.1, tt))

rect_plain : (r : Rect) → is_rectangle r ≡ true → IsPlain (rect_tree r)
unfolding rect_tree
rect_plain r h =
    let three = and_parts _ (is_coordinate r.bottom) h in
    let two = and_parts _ (is_coordinate r.right) three.0 in
    let one = and_parts (is_coordinate r.left) (is_coordinate r.top) two.0 in
    let right = coordinate_plain r.right two.1 in
    let bottom = coordinate_plain r.bottom three.1 in
    (coordinate_plain r.left one.0, (coordinate_plain r.top one.1, (right, (bottom, tt))))

ascii_at : (xs : List ℕ) → are_ascii xs ≡ true → IsAscii xs
ascii_at [] h i = omega arith
ascii_at (x ∷ xs) h zero = ltb-true _ _ (and_parts (nat_lt x 128) (are_ascii xs) h).0
ascii_at (x ∷ xs) h (suc i) = ascii_at xs (and_parts (nat_lt x 128) (are_ascii xs) h).1 i

digits_plain : (bytes : List ℕ) → IsUtf8 (encode_lower bytes)
digits_plain bytes = IsUtf8-from_ascii _ (IsAscii-encode_with lower_digits bytes (ascii_at lower_digits refl))

op_plain : (o : Op) → is_operation o ≡ true → IsPlain (op_tree o)
unfolding op_tree row_digits
op_plain (Fill r c) h =
    let both = and_parts (is_rectangle r) (is_colour c) h in
    (refl, (digits_plain _, (rect_plain r both.0, tt)))
op_plain (Blit r cs) h =
    let both = and_parts (is_rectangle r) (list_all is_colour cs) h in
    (refl, (rect_plain r both.0, (digits_plain _, tt)))
op_plain (Cover r cs) h =
    let both = and_parts (is_rectangle r) (list_all is_colour cs) h in
    (refl, (digits_plain _, (rect_plain r both.0, tt)))
op_plain (Scroll m) h =
    let both = and_parts (is_point m.source) (is_rectangle m.dest) h in
    (refl, (point_plain m.source both.0, (rect_plain m.dest both.1, tt)))

shape_plain : (s : PointerShape) → is_shape s ≡ true → IsPlain (shape_step_tree s)
unfolding shape_step_tree
shape_plain s h =
    let fault = shape_fault s.kind s.width s.height s.bytes in
    let all = and_parts (is_none fault && is_point s.hot) (list_all is_byte s.bytes) h in
    let both = and_parts (is_none fault) (is_point s.hot) all.0 in
    let whole : IsShape s = nothing fault both.0 in
    let size = has_size s.kind s.width s.height s.bytes whole in
    let wide : s.width < 2 ^ 32 = omega (arith, size.width) in
    let height = count_plain s.height (height_passes s.kind s.height size.height) in
    let kind = count_plain (number s.kind) (kind_passes s.kind) in
    let width = count_plain s.width (lt-ltb _ _ wide) in
    (refl, (digits_plain s.bytes, (height, (point_plain s.hot both.1, (kind, (width, tt))))))

draw_plain : (d : draws.Draw) → is_drawing d ≡ true → IsPlain (draw_tree d)
unfolding draw_tree
draw_plain (drawings.Present ops) h =
    let both = and_parts (nat_le (length ops) MAX_OPS) (list_all is_operation ops) h in
    (refl, (list_plain op_tree is_operation op_plain ops both.1, tt))
draw_plain (drawings.Pointer position visible) h = (refl, (point_plain position h, (tt, tt)))
draw_plain (drawings.Shape shape) h = shape_plain shape h
draw_plain (drawings.Mode index) h = (refl, (count_plain index h, tt))
draw_plain (drawings.Switch secure) h = (refl, (tt, tt))
draw_plain drawings.Disconnect h = (refl, (tt, tt))
draw_plain drawings.Reconnect h = (refl, (tt, tt))

-- a call with no buffer, and one that is given some
call_plain : (client : ℕ) (c : ClientCall) → is_number client ≡ true → is_call c ≡ true
    → IsPlain (step_tree (Call client c))
unfolding step_tree
call_plain client Duplicate h e = (refl, (IsUtf8-are_ascii _ refl, (count_plain client h, tt)))
call_plain client Close h e = (refl, (IsUtf8-are_ascii _ refl, (count_plain client h, tt)))
call_plain client (Acquire timeout) h e = (refl, (IsUtf8-are_ascii _ refl, (count_plain client h, tt)))
call_plain client Release h e = (refl, (IsUtf8-are_ascii _ refl, (count_plain client h, tt)))
call_plain client (Moves buffer) h e =
    (refl, (buffer_plain buffer e, (IsUtf8-are_ascii _ refl, (count_plain client h, tt))))
call_plain client (Dirty buffer) h e =
    (refl, (buffer_plain buffer e, (IsUtf8-are_ascii _ refl, (count_plain client h, tt))))
call_plain client (Shape buffer) h e =
    (refl, (buffer_plain buffer e, (IsUtf8-are_ascii _ refl, (count_plain client h, tt))))
call_plain client Surface h e = (refl, (IsUtf8-are_ascii _ refl, (count_plain client h, tt)))
call_plain client Desc h e = (refl, (IsUtf8-are_ascii _ refl, (count_plain client h, tt)))

step_plain : (t : Step) → is_step t ≡ true → IsPlain (step_tree t)
unfolding step_tree
step_plain (Draw drawing) h = draw_plain drawing h
step_plain (Call client call) h =
    let both = and_parts (is_number client) (is_call call) h in
    call_plain client call both.0 both.1

mode_plain : (m : Mode) → is_mode m ≡ true → IsPlain (mode_tree m)
unfolding is_mode mode_tree
mode_plain m h =
    let high = and_parts _ (nat_le (m.width * m.height) MAX_PIXELS) h in
    let tall = and_parts _ (nat_le m.height MAX_SIDE) high.0 in
    let low = and_parts _ (nat_le 1 m.height) tall.0 in
    let wide = and_parts (nat_le 1 m.width) (nat_le m.width MAX_SIDE) low.0 in
    let width = count_plain m.width (side_passes m.width wide.1) in
    let height = count_plain m.height (side_passes m.height tall.1) in
    (width, (height, (count_plain (rotation_number m.rotation) (turn_passes m.rotation), tt)))

modes_plain : (ms : List Mode) → are_modes ms ≡ true → ArePlain (items_of (map mode_tree ms))
unfolding are_modes
modes_plain ms h = list_plain mode_tree is_mode mode_plain ms (and_parts _ (list_all is_mode ms) h).1

script_plain : (s : Script) → is_readable s ≡ true → IsPlain (spelling s)
unfolding is_readable spelling
script_plain s h =
    let limits = and_parts _ (keeps_limits s) h in
    let steps = and_parts _ (list_all is_step s.steps) limits.0 in
    let clients = and_parts _ (list_all is_number s.clients) steps.0 in
    let privileged = and_parts _ (list_all is_number s.spec.privileged) clients.0 in
    let capacity = and_parts (are_modes s.spec.modes) (is_number s.spec.capacity) privileged.0 in
    let apps = list_plain count is_number count_plain s.clients clients.1 in
    let modes = modes_plain s.spec.modes capacity.0 in
    let trusted = list_plain count is_number count_plain s.spec.privileged privileged.1 in
    let rest = list_plain step_tree is_step step_plain s.steps steps.1 in
    (refl, (count_plain s.spec.capacity capacity.1, (apps, (modes, (trusted, (rest, tt))))))

-- ---- the line

pub scripts_read_back : ScriptsReadBack
unfolding script_line
scripts_read_back s h =
    let plain = script_plain s h in
    let json : IsJson (script_line s) (spelling s) = record {
      text = line_is_utf8 (spelling s) plain;
      tree = line_is_read (spelling s) plain (script_depth s);
    } in
    (spelling s, json, script_back s h)

pub unended_scripts_read_back : ScriptsReadBackUnended
unended_scripts_read_back s h =
    let plain = script_plain s h in
    let json : IsJson (compact_text (spelling s)) (spelling s) = record {
      text = is_utf8 (spelling s) plain;
      tree = text_is_read (spelling s) plain (script_depth s);
    } in
    (spelling s, json, script_back s h)
