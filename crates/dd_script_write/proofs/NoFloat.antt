-- No answer holds a number with a fraction, so its text is told byte for byte.
use Rattle.std.proofs.Common.{◌≡◌, ℕ, ℤ, pos, negsuc, false, List, [], ◌∷◌, map, Option, Some, None, option_map, codes, refl, ◌∙◌}
use Rattle.serde_json.specs.Data.{Data, Members, string}
use Rattle.serde_json.specs.Find.{is_float, of_integer}
use Rattle.serde_json.specs.View.{items_of}
use Rattle.serde_json.specs.Written.{has_float, items_have_float, members_have_float}
use Rattle.dd_geom.specs.declared.rect.Point.{Point}
use Rattle.dd_geom.specs.declared.rect.Rect.{Rect}
use Rattle.dd_geom.specs.declared.rect.Move.{Move}
use Rattle.dd_pointer.specs.declared.shape.ShapeInfo.{ShapeInfo}
use Rattle.dd_modes.specs.declared.modes.Mode.{Mode}
use Rattle.dd_calls.specs.declared.answers.FrameInfo.{FrameInfo}
use Rattle.dd_calls.specs.declared.answers.Answer.{Answer}
use Rattle.dd_calls.specs.declared.answers.Answer.TheVariants as answer
use Rattle.dd_script_write.specs.Answers.{count, part, Refusal, point_tree, rect_tree, move_tree, info_tree, frame_tree, row_tree, surface_tree, desc_tree, bytes_tree, buffer_tree, shape_tree, shape_buffer_tree, refusal_tree, answer_tree}

coordinate_has_none : (z : ℤ) → is_float (of_integer z) ≡ false
coordinate_has_none (pos n) = refl
coordinate_has_none (negsuc n) = refl

pub list_has_none : {T : Type 0} (f : T → Data) → ((x : T) → has_float (f x) ≡ false) → (xs : List T)
    → items_have_float (items_of (map f xs)) ≡ false
list_has_none f h [] = refl
list_has_none f h (x ∷ xs) = rw (h x, list_has_none f h xs)

pub point_has_none : (p : Point) → has_float (point_tree p) ≡ false
unfolding point_tree
point_has_none p = simp coordinate_has_none

pub rect_has_none : (r : Rect) → has_float (rect_tree r) ≡ false
unfolding rect_tree
rect_has_none r = simp coordinate_has_none

move_has_none : (m : Move) → has_float (move_tree m) ≡ false
unfolding move_tree
move_has_none m = simp coordinate_has_none

info_has_none : (i : FrameInfo) → has_float (info_tree i) ≡ false
unfolding info_tree
info_has_none i = simp point_has_none

frame_has_none : (i : FrameInfo) (ms : List Move) (rs : List Rect) → has_float (frame_tree i ms rs) ≡ false
unfolding frame_tree
frame_has_none i ms rs =
    rw (list_has_none rect_tree rect_has_none rs, info_has_none i, list_has_none move_tree move_has_none ms)

surface_has_none : (rows : Option (List (List ℕ))) → has_float (surface_tree rows) ≡ false
unfolding surface_tree
surface_has_none None = refl
surface_has_none (Some rows) = rw (list_has_none row_tree (λ _. refl) rows)

desc_has_none : (m : Mode) → has_float (desc_tree m) ≡ false
unfolding desc_tree
desc_has_none m = refl

buffer_has_none : (bytes : List ℕ) (size : ℕ) → has_float (buffer_tree bytes size) ≡ false
unfolding buffer_tree
buffer_has_none bytes size = refl

shape_has_none : (i : ShapeInfo) → has_float (shape_tree i) ≡ false
unfolding shape_tree
shape_has_none i = simp point_has_none

shape_buffer_has_none : (bytes : List ℕ) (shape : Option ShapeInfo) (size : ℕ)
    → has_float (shape_buffer_tree bytes shape size) ≡ false
unfolding shape_buffer_tree
shape_buffer_has_none bytes None size = refl
shape_buffer_has_none bytes (Some info) size = rw (shape_has_none info) refl

-- a part more, which has none
part_has_none : {T : Type 0} (key : List ℕ) (f : T → Data) → ((x : T) → has_float (f x) ≡ false)
    → (o : Option T) (ms : Members) → members_have_float (part key (option_map f o) ms) ≡ members_have_float ms
part_has_none key f h None ms = refl
part_has_none key f h (Some x) ms = rw (h x) refl

refusal_has_none : (r : Refusal) → has_float (refusal_tree r) ≡ false
unfolding refusal_tree
refusal_has_none r =
    part_has_none (codes "buffer") bytes_tree (λ _. refl) r.buffer _
    ∙ part_has_none (codes "code") string (λ _. refl) r.code _
    ∙ part_has_none (codes "op") count (λ _. refl) r.op _
    ∙ part_has_none (codes "required") count (λ _. refl) r.required _

pub answer_has_no_float : (a : Answer) → has_float (answer_tree a) ≡ false
unfolding answer_tree
answer_has_no_float (answer.Entered entry) = refl
answer_has_no_float (answer.NotDrawn refusal) = refusal_has_none _
answer_has_no_float (answer.Opened entry slot) = refl
answer_has_no_float (answer.NotOpened refusal) = refusal_has_none _
answer_has_no_float (answer.Closed entry) = refl
answer_has_no_float (answer.NotClosed refusal) = refusal_has_none _
answer_has_no_float (answer.Frame info moves dirt) = frame_has_none info moves dirt
answer_has_no_float answer.Released = refl
answer_has_no_float (answer.Surface rows) = surface_has_none rows
answer_has_no_float (answer.Desc mode) = desc_has_none mode
answer_has_no_float (answer.Buffer size bytes) = buffer_has_none bytes size
answer_has_no_float (answer.ShapeBuffer size bytes shape) = shape_buffer_has_none bytes shape size
answer_has_no_float (answer.Refused refusal buffer) = refusal_has_none _
answer_has_no_float answer.NoDuplicator = refusal_has_none _
