-- What is read of a tree is in its range.
use Rattle.std.proofs.Common.{◌≡◌, ℕ, suc, ◌*◌, ◌/◌, ◌%◌, ◌+◌, true, false, Bool, List, [], ◌∷◌, length, Some, None, Ok, Err, Option, Result, cond, arith, refl, ap, ◌∙◌, subst, IfSome, option_and_then, option_map}
use Rattle.std.specs.Prelude.{◌&&◌, ◌==◌, nat_le, ℤ, codes, map, is_some, is_none}
use Rattle.std.specs.List.{list_all, range_with_len}
use Rattle.std.specs.Int.{w32, from_be_bytes}
use Rattle.std.specs.Result.{result_ok}
use Rattle.std.specs.Str.{bytes_eq}
use Rattle.std.proofs.lemmas.Bool.{and_from, lt-ltb}
use Rattle.std.proofs.lemmas.Option.{IfSome_then}
use Rattle.hex.specs.Hex.{IsBytes, decode_of, decode_pairs, decode_sized}
use Rattle.hex.specs.declared.error.FromHexError.{FromHexError}
use Rattle.hex.specs.declared.error.FromHexError.TheVariants.{OddLength, InvalidStringLength}
use Rattle.hex.proofs.HexLemmas.{decode_pairs-ok}
use Rattle.serde_json.specs.Data.{Data}
use Rattle.serde_json.specs.Find.{get, at, as_bool, as_number, as_u64, as_i64, as_str}
use Rattle.dd_geom.specs.declared.rect.Point.{Point}
use Rattle.dd_modes.specs.Modes.{are_modes}
use Rattle.dd_pointer.specs.declared.kind.Kind.{Kind}
use Rattle.dd_pointer.specs.declared.shape.ShapeFault.{ShapeFault}
use Rattle.dd_pointer.specs.Shape.{PointerShape, shape_fault, unless, read_as, kind_of, reading}
use Rattle.dd_ops.specs.declared.operations.Op.{Op}
use Rattle.dd_ops.specs.declared.lists.TheConstants.{MAX_OPS}
use Rattle.dd_calls.specs.declared.steps.ClientCall.{ClientCall}
use Rattle.dd_log.specs.declared.events.Draw as draws
use Rattle.dd_log.specs.declared.events.Draw.TheVariants as drawings
use Rattle.dd_calls.specs.declared.steps.ClientCall.TheVariants.{Duplicate, Close, Acquire, Release, Moves, Dirty, Shape, Surface, Desc}
use Rattle.dd_calls.specs.declared.steps.Step.TheVariants.{Draw}
use Rattle.dd_calls.specs.declared.steps.Script.{Script}
use Rattle.dd_script_read.specs.Script.{has_items, has_keys, list_of, each, u32_of, i32_of, rect_of, point_of, colour_at, colour_of, colours_in, colours_from, bytes_of, colours_of, fill_of, blit_of, cover_of, scroll_of, operation_of, operations_of, present_of, pointer_of, shape_of, change_of, switch_of, has_true, session_of, single_of, draw_of, call_named, filling_named, buffer_of, plain_call_of, filling_call_of, client_call_of, call_of, step_of, steps_of, mode_of, modes_of, apps_of, parts_of, keeps_limits, script_of}
use Rattle.dd_script_read.proofs.Holds.{then_holds, always_holds, map_holds, tested_holds, either_holds, key_holds, place_holds}
use Rattle.dd_script_read.specs.Readable.{is_number, is_coordinate, is_point, is_rectangle, is_colour, is_operation, is_byte, is_shape, is_drawing, is_buffer, is_call, is_step, is_readable}

-- ---- parts that pass a test

abbrev passed : {A : Type 0} → (A → Bool) → A → Type 0
passed p x = p x ≡ true

-- a value, where there is one, passes the test
abbrev Passes : {A : Type 0} → (A → Bool) → Option A → Type 0
Passes p o = IfSome o (passed p)

-- as many items as there were trees, and each passes
abbrev AllPassed : {A : Type 0} → (A → Bool) → List Data → List A → Type 0
AllPassed p ds xs = (length xs ≡ length ds) × (list_all p xs ≡ true)

each_passes : {A : Type 0} (f : Data → Option A) (p : A → Bool) → ((d : Data) → Passes p (f d)) → (ds : List Data)
    → IfSome (each f ds) (AllPassed p ds)
each_passes f p h [] = (refl, refl)
each_passes f p h (d ∷ ds) =
    then_holds (passed p) (AllPassed p (d ∷ ds)) (f d) _ (h d) (λ x px.
    then_holds (AllPassed p ds) (AllPassed p (d ∷ ds)) (each f ds) _ (each_passes f p h ds) (λ xs rest.
    (ap suc rest.0, and_from _ _ px rest.1)))

list_passes : {A : Type 0} (f : Data → Option A) (p : A → Bool) → ((d : Data) → Passes p (f d)) → (d : Data)
    → Passes (list_all p) (option_and_then (each f) (list_of d))
list_passes f p h d =
    always_holds (passed (list_all p)) (list_of d) (each f) (λ ds.
    IfSome_then (each f ds) (each_passes f p h ds) (λ xs both. both.1))

-- ---- numbers

number_passes : (d : Data) → Passes is_number (u32_of d)
unfolding u32_of
number_passes d =
    always_holds (passed is_number) (as_number d) _ (λ number.
    always_holds (passed is_number) (as_u64 number) _ (λ n.
    tested_holds (passed is_number) (is_number n) (Some n) (λ h. h)))

coordinate_passes : (d : Data) → Passes is_coordinate (i32_of d)
unfolding i32_of
coordinate_passes d =
    always_holds (passed is_coordinate) (as_number d) _ (λ number.
    always_holds (passed is_coordinate) (as_i64 number) _ (λ z.
    tested_holds (passed is_coordinate) (is_coordinate z) (Some z) (λ h. h)))

-- ---- drawing

-- a coordinate of a list, and the step after it
coordinate_holds : {B : Type 0} (Q : B → Type 0) (n : ℕ) (d : Data) (f : ℤ → Option B)
    → ((z : ℤ) → is_coordinate z ≡ true → IfSome (f z) Q)
    → IfSome (option_and_then f (option_and_then i32_of (at n d))) Q
coordinate_holds Q n d f k = place_holds (passed is_coordinate) Q n d i32_of f coordinate_passes k

rectangle_passes : (d : Data) → Passes is_rectangle (rect_of d)
unfolding rect_of
rectangle_passes d =
    tested_holds (passed is_rectangle) (has_items 4 d) _ (λ _.
    coordinate_holds (passed is_rectangle) 0 d _ (λ left l.
    coordinate_holds (passed is_rectangle) 1 d _ (λ top t.
    coordinate_holds (passed is_rectangle) 2 d _ (λ right r.
    coordinate_holds (passed is_rectangle) 3 d _ (λ bottom b. and_from _ _ (and_from _ _ (and_from _ _ l t) r) b)))))

point_passes : (d : Data) → Passes is_point (point_of d)
unfolding point_of
point_passes d =
    tested_holds (passed is_point) (has_items 2 d) _ (λ _.
    coordinate_holds (passed is_point) 0 d _ (λ x hx.
    coordinate_holds (passed is_point) 1 d _ (λ y hy. and_from _ _ hx hy)))

-- what was decoded is bytes
ok_bytes : (r : Result (List ℕ) FromHexError) → ((bytes : List ℕ) → r ≡ Ok bytes → IsBytes bytes)
    → IfSome (result_ok r) IsBytes
ok_bytes (Ok bytes) h = h bytes refl
ok_bytes (Err e) h = tt

err_first : (b : Bool) (e : FromHexError) (r : Result (List ℕ) FromHexError)
    → IfSome (result_ok r) IsBytes → IfSome (result_ok (cond b (Err e) r)) IsBytes
err_first true e r h = tt
err_first false e r h = h

err_last : (b : Bool) (e : FromHexError) (r : Result (List ℕ) FromHexError)
    → IfSome (result_ok r) IsBytes → IfSome (result_ok (cond b r (Err e))) IsBytes
err_last true e r h = h
err_last false e r h = tt

decoded_pairs : (text : List ℕ) → IfSome (result_ok (decode_pairs 0 text)) IsBytes
decoded_pairs text = ok_bytes (decode_pairs 0 text) (λ bytes e. (decode_pairs-ok 0 text bytes e).2)

-- what was decoded of a text of any length, and of one of n bytes
all_bytes : (text : List ℕ) → IfSome (result_ok (decode_of text)) IsBytes
all_bytes text = err_first (length text % 2 == 1) OddLength (decode_pairs 0 text) (decoded_pairs text)

sized_bytes : (text : List ℕ) (n : ℕ) → IfSome (result_ok (decode_sized text n)) IsBytes
sized_bytes text n =
    let pairs = err_last (length text / 2 == n) InvalidStringLength (decode_pairs 0 text) (decoded_pairs text) in
    err_first (length text % 2 == 1) OddLength
    (cond (length text / 2 == n) (decode_pairs 0 text) (Err InvalidStringLength)) pairs

colour_passes_from : (bytes : List ℕ) → IsBytes bytes → is_colour (from_be_bytes w32 (0 ∷ bytes)) ≡ true
colour_passes_from bytes h =
    let red = h 0 in
    let green = h 1 in
    let blue = h 2 in
    lt-ltb _ _ (omega arith)

colour_passes : (d : Data) → Passes is_colour (colour_of d)
unfolding colour_of
colour_passes d =
    always_holds (passed is_colour) (as_str d) _ (λ text.
    then_holds IsBytes (passed is_colour) (result_ok (decode_sized text 3)) _ (sized_bytes text 3) colour_passes_from)

colours_pass_at : (bytes : List ℕ) → IsBytes bytes → (places : List ℕ)
    → list_all is_colour (map (colour_at bytes) places) ≡ true
colours_pass_at bytes h [] = refl
colours_pass_at bytes h (i ∷ places) =
    let red = h (3 * i) in
    let green = h (3 * i + 1) in
    let blue = h (3 * i + 2) in
    and_from _ _ (lt-ltb _ _ (omega arith)) (colours_pass_at bytes h places)

bytes_hold : (d : Data) → IfSome (bytes_of d) IsBytes
unfolding bytes_of
bytes_hold d = always_holds IsBytes (as_str d) _ all_bytes

colours_pass : (d : Data) → Passes (list_all is_colour) (colours_of d)
unfolding colours_of colours_from
colours_pass d =
    then_holds IsBytes (passed (list_all is_colour)) (bytes_of d) _ (bytes_hold d) (λ bytes h.
    tested_holds (passed (list_all is_colour)) (length bytes % 3 == 0) (Some (colours_in bytes)) (λ _.
    colours_pass_at bytes h (range_with_len 0 (length bytes / 3))))

fill_passes : (d : Data) → Passes is_operation (fill_of d)
unfolding fill_of
fill_passes d =
    key_holds (passed is_rectangle) (passed is_operation) (codes "fill") d rect_of _ rectangle_passes (λ r hr.
    key_holds (passed is_colour) (passed is_operation) (codes "colour") d colour_of _ colour_passes (λ c hc.
    and_from _ _ hr hc))

blit_passes : (d : Data) → Passes is_operation (blit_of d)
unfolding blit_of
blit_passes d =
    key_holds (passed is_rectangle) (passed is_operation) (codes "blit") d rect_of _ rectangle_passes (λ r hr.
    key_holds (passed (list_all is_colour)) (passed is_operation) (codes "colours") d colours_of _ colours_pass
    (λ cs hc.
    and_from _ _ hr hc))

cover_passes : (d : Data) → Passes is_operation (cover_of d)
unfolding cover_of
cover_passes d =
    key_holds (passed is_rectangle) (passed is_operation) (codes "cover") d rect_of _ rectangle_passes (λ r hr.
    key_holds (passed (list_all is_colour)) (passed is_operation) (codes "colours") d colours_of _ colours_pass
    (λ cs hc.
    and_from _ _ hr hc))

scroll_passes : (d : Data) → Passes is_operation (scroll_of d)
unfolding scroll_of
scroll_passes d =
    key_holds (passed is_rectangle) (passed is_operation) (codes "scroll") d rect_of _ rectangle_passes (λ r hr.
    key_holds (passed is_point) (passed is_operation) (codes "from") d point_of _ point_passes (λ p hp.
    and_from _ _ hp hr))

operation_passes : (d : Data) → Passes is_operation (operation_of d)
unfolding operation_of
operation_passes d =
    let fills : Bool = is_some (get (codes "fill") d) in
    let blits : Bool = is_some (get (codes "blit") d) in
    let covers : Bool = is_some (get (codes "cover") d) in
    let scroll : Option Op = scroll_of d in
    let cover : Option Op = cond covers (cover_of d) scroll in
    let blit : Option Op = cond blits (blit_of d) cover in
    tested_holds (passed is_operation) (has_keys 2 d) _ (λ _.
    either_holds (passed is_operation) fills (fill_of d) blit (fill_passes d)
    (either_holds (passed is_operation) blits (blit_of d) cover (blit_passes d)
    (either_holds (passed is_operation) covers (cover_of d) scroll (cover_passes d) (scroll_passes d))))

-- few operations, each of which passes
abbrev are_operations : List Op → Bool
are_operations ops = nat_le (length ops) MAX_OPS && list_all is_operation ops

operations_pass : (d : Data) → Passes are_operations (operations_of d)
unfolding operations_of
operations_pass d =
    always_holds (passed are_operations) (list_of d) _ (λ ds.
    tested_holds (passed are_operations) (nat_le (length ds) MAX_OPS) (each operation_of ds) (λ few.
    IfSome_then (each operation_of ds) (each_passes operation_of is_operation operation_passes ds) (λ ops both.
    and_from _ _ (ap (λ n. nat_le n MAX_OPS) both.0 ∙ few) both.1)))

present_passes : (d : Data) → Passes is_drawing (present_of d)
unfolding present_of
present_passes d =
    key_holds (passed are_operations) (passed is_drawing) (codes "present") d operations_of _ operations_pass (λ ops h.
    h)

pointer_passes : (d : Data) → Passes is_drawing (pointer_of d)
unfolding pointer_of
pointer_passes d =
    tested_holds (passed is_drawing) (has_keys 2 d) _ (λ _.
    key_holds (passed is_point) (passed is_drawing) (codes "pointer") d point_of _ point_passes (λ position h.
    always_holds (passed is_drawing) (option_and_then as_bool (get (codes "visible") d)) _ (λ visible. h)))

-- bytes pass one by one
bytes_pass : (bytes : List ℕ) → IsBytes bytes → list_all is_byte bytes ≡ true
bytes_pass [] h = refl
bytes_pass (b ∷ bytes) h = and_from _ _ (lt-ltb _ _ (h 0)) (bytes_pass bytes (λ i. h (suc i)))

-- parts without a fault, and parts of any kind
faultless_passes : (fault : Option ShapeFault) (s : PointerShape)
    → shape_fault s.kind s.width s.height s.bytes ≡ fault → is_point s.hot ≡ true → list_all is_byte s.bytes ≡ true
    → Passes is_shape (result_ok (unless fault s))
faultless_passes None s e p b = and_from _ _ (and_from _ _ (ap is_none e) p) b
faultless_passes (Some fault) s e p b = tt

read_passes : (kind : Option Kind) (width height : ℕ) (hot : Point) (bytes : List ℕ)
    → is_point hot ≡ true → IsBytes bytes → Passes is_shape (result_ok (read_as kind width height hot bytes))
read_passes None width height hot bytes p b = tt
read_passes (Some kind) width height hot bytes p b =
    faultless_passes (shape_fault kind width height bytes)
    (record { kind = kind; width = width; height = height; hot = hot; bytes = bytes }) refl p (bytes_pass bytes b)

shape_passes : (d : Data) → Passes is_drawing (shape_of d)
unfolding shape_of
shape_passes d =
    let passes : draws.Draw → Type 0 = passed is_drawing in
    tested_holds passes (has_keys 5 d) _ (λ _.
    always_holds passes (option_and_then u32_of (get (codes "shape") d)) _ (λ kind.
    always_holds passes (option_and_then u32_of (get (codes "width") d)) _ (λ width.
    always_holds passes (option_and_then u32_of (get (codes "height") d)) _ (λ height.
    key_holds (passed is_point) passes (codes "hot") d point_of _ point_passes (λ hot p.
    key_holds IsBytes passes (codes "bytes") d bytes_of _ bytes_hold (λ bytes b.
    then_holds (passed is_shape) passes (result_ok (reading kind width height hot bytes)) _
    (read_passes (kind_of kind) width height hot bytes p b) (λ shape h. h)))))))

change_passes : (d : Data) → Passes is_drawing (change_of d)
unfolding change_of
change_passes d =
    key_holds (passed is_number) (passed is_drawing) (codes "mode") d u32_of _ number_passes (λ index h. h)

switch_passes : (d : Data) → Passes is_drawing (switch_of d)
unfolding switch_of
switch_passes d =
    always_holds (passed is_drawing) (option_and_then as_bool (get (codes "switch") d)) _ (λ secure. refl)

session_passes : (d : Data) → Passes is_drawing (session_of d)
unfolding session_of
session_passes d =
    let leaves : Bool = has_true (codes "disconnect") d in
    let comes : Bool = has_true (codes "reconnect") d in
    let back : Option draws.Draw = cond comes (Some drawings.Reconnect) None in
    either_holds (passed is_drawing) leaves (Some drawings.Disconnect) back refl
    (either_holds (passed is_drawing) comes (Some drawings.Reconnect) None refl tt)

single_passes : (d : Data) → Passes is_drawing (single_of d)
unfolding single_of
single_passes d =
    let presents : Bool = is_some (get (codes "present") d) in
    let changes : Bool = is_some (get (codes "mode") d) in
    let switches : Bool = is_some (get (codes "switch") d) in
    let session : Option draws.Draw = session_of d in
    let switch : Option draws.Draw = cond switches (switch_of d) session in
    let change : Option draws.Draw = cond changes (change_of d) switch in
    tested_holds (passed is_drawing) (has_keys 1 d) _ (λ _.
    either_holds (passed is_drawing) presents (present_of d) change (present_passes d)
    (either_holds (passed is_drawing) changes (change_of d) switch (change_passes d)
    (either_holds (passed is_drawing) switches (switch_of d) session (switch_passes d) (session_passes d))))

drawing_passes : (d : Data) → Passes is_drawing (draw_of d)
unfolding draw_of
drawing_passes d =
    let points : Bool = is_some (get (codes "pointer") d) in
    let shapes : Bool = is_some (get (codes "shape") d) in
    let single : Option draws.Draw = single_of d in
    let shape : Option draws.Draw = cond shapes (shape_of d) single in
    either_holds (passed is_drawing) points (pointer_of d) shape (pointer_passes d)
    (either_holds (passed is_drawing) shapes (shape_of d) single (shape_passes d) (single_passes d))

-- ---- steps

named_passes : (name : List ℕ) → Passes is_call (call_named name)
unfolding call_named
named_passes name =
    let names : List ℕ → Bool = bytes_eq name in
    let desc : Option ClientCall = cond (names (codes "desc")) (Some Desc) None in
    let surface : Option ClientCall = cond (names (codes "surface")) (Some Surface) desc in
    let release : Option ClientCall = cond (names (codes "release")) (Some Release) surface in
    let acquire : Option ClientCall = cond (names (codes "acquire")) (Some (Acquire 0)) release in
    let close : Option ClientCall = cond (names (codes "close")) (Some Close) acquire in
    either_holds (passed is_call) (names (codes "duplicate")) (Some Duplicate) close refl
    (either_holds (passed is_call) (names (codes "close")) (Some Close) acquire refl
    (either_holds (passed is_call) (names (codes "acquire")) (Some (Acquire 0)) release refl
    (either_holds (passed is_call) (names (codes "release")) (Some Release) surface refl
    (either_holds (passed is_call) (names (codes "surface")) (Some Surface) desc refl
    (either_holds (passed is_call) (names (codes "desc")) (Some Desc) None refl tt)))))

filling_passes : (name : List ℕ) (buffer : ℕ) → is_buffer buffer ≡ true → Passes is_call (filling_named name buffer)
unfolding filling_named
filling_passes name buffer h =
    let names : List ℕ → Bool = bytes_eq name in
    let shape : Option ClientCall = cond (names (codes "shape")) (Some (Shape buffer)) None in
    let dirty : Option ClientCall = cond (names (codes "dirty")) (Some (Dirty buffer)) shape in
    either_holds (passed is_call) (names (codes "moves")) (Some (Moves buffer)) dirty h
    (either_holds (passed is_call) (names (codes "dirty")) (Some (Dirty buffer)) shape h
    (either_holds (passed is_call) (names (codes "shape")) (Some (Shape buffer)) None h tt))

buffer_passes : (d : Data) → Passes is_buffer (buffer_of d)
unfolding buffer_of
buffer_passes d =
    always_holds (passed is_buffer) (u32_of d) _ (λ n.
    tested_holds (passed is_buffer) (is_buffer n) (Some n) (λ h. h))

plain_call_passes : (d : Data) → Passes is_call (plain_call_of d)
unfolding plain_call_of
plain_call_passes d =
    tested_holds (passed is_call) (has_keys 2 d) _ (λ _.
    always_holds (passed is_call) (option_and_then as_str (get (codes "call") d)) _ named_passes)

filling_call_passes : (d : Data) → Passes is_call (filling_call_of d)
unfolding filling_call_of
filling_call_passes d =
    tested_holds (passed is_call) (has_keys 3 d) _ (λ _.
    always_holds (passed is_call) (option_and_then as_str (get (codes "call") d)) _ (λ name.
    key_holds (passed is_buffer) (passed is_call) (codes "buffer") d buffer_of _ buffer_passes (filling_passes name)))

client_call_passes : (d : Data) → Passes is_call (client_call_of d)
unfolding client_call_of
client_call_passes d =
    let fills : Bool = is_some (get (codes "buffer") d) in
    either_holds (passed is_call) fills (filling_call_of d) (plain_call_of d) (filling_call_passes d)
    (plain_call_passes d)

call_passes : (d : Data) → Passes is_step (call_of d)
unfolding call_of
call_passes d =
    key_holds (passed is_number) (passed is_step) (codes "client") d u32_of _ number_passes (λ client hk.
    then_holds (passed is_call) (passed is_step) (client_call_of d) _ (client_call_passes d) (λ call hc.
    and_from _ _ hk hc))

step_passes : (d : Data) → Passes is_step (step_of d)
unfolding step_of
step_passes d =
    let drawn = map_holds (passed is_drawing) (passed is_step) (draw_of d) Draw (drawing_passes d) (λ drawing h. h) in
    let calls : Bool = is_some (get (codes "client") d) in
    either_holds (passed is_step) calls (call_of d) (option_map Draw (draw_of d)) (call_passes d) drawn

steps_pass : (d : Data) → Passes (list_all is_step) (steps_of d)
unfolding steps_of
steps_pass d = list_passes step_of is_step step_passes d

-- ---- the output

modes_pass : (d : Data) → Passes are_modes (modes_of d)
unfolding modes_of
modes_pass d =
    always_holds (passed are_modes) (option_and_then (each mode_of) (list_of d)) _ (λ modes.
    tested_holds (passed are_modes) (are_modes modes) (Some modes) (λ h. h))

apps_pass : (d : Data) → Passes (list_all is_number) (apps_of d)
unfolding apps_of
apps_pass d = list_passes u32_of is_number number_passes d

-- ---- the script

-- each part is in its range
abbrev pub parts_in_range : Script → Bool
parts_in_range s =
    are_modes s.spec.modes && is_number s.spec.capacity && list_all is_number s.spec.privileged
    && list_all is_number s.clients && list_all is_step s.steps

parts_pass : (d : Data) → Passes parts_in_range (parts_of d)
unfolding parts_of
parts_pass d =
    let passes : Script → Type 0 = passed parts_in_range in
    tested_holds passes (has_keys 5 d) _ (λ _.
    key_holds (passed are_modes) passes (codes "modes") d modes_of _ modes_pass (λ modes m.
    key_holds (passed is_number) passes (codes "capacity") d u32_of _ number_passes (λ capacity n.
    key_holds (passed (list_all is_number)) passes (codes "privileged") d apps_of _ apps_pass (λ privileged p.
    key_holds (passed (list_all is_number)) passes (codes "clients") d apps_of _ apps_pass (λ clients c.
    key_holds (passed (list_all is_step)) passes (codes "steps") d steps_of _ steps_pass (λ steps t.
    and_from _ _ (and_from _ _ (and_from _ _ (and_from _ _ m n) p) c) t))))))

script_passes : (d : Data) → Passes is_readable (script_of d)
unfolding script_of is_readable
script_passes d =
    then_holds (passed parts_in_range) (passed is_readable) (parts_of d) _ (parts_pass d) (λ s h.
    tested_holds (passed is_readable) (keeps_limits s) (Some s) (λ k. and_from _ _ h k))

-- a script that some tree is
pub is_read : (d : Data) (s : Script) → script_of d ≡ Some s → is_readable s ≡ true
is_read d s e =
    let P : Option Script → Type 0 = λ o. IfSome o (passed is_readable) in
    subst P e (script_passes d)
