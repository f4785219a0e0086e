-- A bad field is one that has come: its place is none behind the bytes that there are.
use Rattle.std.proofs.Common.{◌≡◌, ◌==◌, ℕ, zero, suc, ◌+◌, ◌*◌, ◌≤◌, Bool, true, false, cond, nat_le, List, ◌∷◌, length, take, drop, Option, Some, None, Result, Ok, Err, refl, subst, arith}
use Rattle.std.specs.Prelude.{⊤}
use Rattle.std.proofs.Math.Nat.{mul-suc}
use Rattle.byteorder.specs.Endian.{little_number}
use borrow.Author.Tests.{leb-true}
use Rattle.dd_geom.specs.declared.rect.Move.{Move}
use Rattle.dd_geom.specs.declared.rect.TheConstants.{MOVE_BYTES}
use Rattle.dd_geom.specs.Bytes.{coordinate_at, move_of, rect_of}
use Rattle.dd_modes.specs.declared.modes.Mode.{Mode}
use Rattle.dd_modes.specs.declared.modes.Rotation.{Rotation}
use Rattle.dd_modes.specs.Numbers.{rotation_numbered}
use Rattle.dd_pointer.specs.declared.shape.ShapeFault.{ShapeFault}
use Rattle.dd_pointer.specs.Shape.{PointerShape}
use Rattle.dd_record.specs.declared.head.Head.{Head}
use Rattle.dd_record.specs.declared.layout.TheConstants.{FRAME_HEAD_BYTES, PIXEL_BYTES, SHAPE_HEAD_BYTES}
use Rattle.dd_record.specs.Reading.{Reading, Good, Bad, Short, ◌>>=◌, come, kept, number, coordinate, fields}
use Rattle.dd_record.specs.Dirt.{pixel_count}
use Rattle.dd_record.proofs.Rules.{parts}
use Rattle.dd_record.specs.Grammar.{width_of, height_of, rotation_or_bad, rotation_of, mode_of, last_present_of, last_mouse_of, accumulated_of, coalesced_of, protected_of, pointer_of, meta_of, shape_size_of, move_count_of, rect_count_of, info_of, head_of, move_at, moves_of, rect_at, dirt_of, pixel_at, pixels_of, behind_rects, behind_pixels, shape_head, shape_head_at, or_bad, shape_at, new_shape_of, frame_chunk_of, frame_of, frame_after, opening_of, tagged, chunk_of, BadHasCome}

module _ (n : ℕ) where
  -- the place of a bad field is at most n
  abbrev pub HasCome : {A : Type 0} → Reading A → Type 0
  HasCome (Good x) = ⊤
  HasCome (Bad at) = at ≤ n
  HasCome Short = ⊤

  module _ {A B : Type 0} where
    pub then : (r : Reading A) (f : A → Reading B) → HasCome r → ((x : A) → r ≡ Good x → HasCome (f x))
        → HasCome (r >>= f)
    then (Good x) f first rest = rest x refl
    then (Bad at) f first rest = first
    then Short f first rest = tt

  module _ {A : Type 0} where
    pub kept_come : (at : ℕ) (rule : Bool) (x : A) → at ≤ n → HasCome (kept at rule x)
    unfolding kept
    kept_come at true x within = tt
    kept_come at false x within = within

    -- where so many fields were read, all of them had come
    pub fields_within : (f : ℕ → Reading A) (size : ℕ) → ((at : ℕ) (x : A) → f at ≡ Good x → at + size ≤ n)
        → (at k : ℕ) (xs : List A) → at ≤ n → fields f size at k ≡ Good xs → at + size * k ≤ n
    fields_within f size one at zero xs start e = omega arith
    fields_within f size one at (suc k) xs start e =
        let a = parts (f at) (λ x. fields f size (at + size) k >>= λ ys. Good (x ∷ ys)) xs e in
        let b = parts (fields f size (at + size) k) (λ ys. Good (a.0 ∷ ys)) xs a.2 in
        let rest = fields_within f size one (at + size) k b.0 (one at a.0 a.1) b.1 in
        omega (arith, mul-suc size k, rest)

    -- several fields, each of which stands where something has come
    pub fields_come : (f : ℕ → Reading A) → ((at : ℕ) → HasCome (f at)) → (size at k : ℕ) → HasCome (fields f size at k)
    fields_come f one size at zero = tt
    fields_come f one size at (suc k) =
        then (f at) _ (one at) (λ x _.
        then (fields f size (at + size) k) _ (fields_come f one size (at + size) k) (λ xs _. tt))

  if_come : {A : Type 0} (b : Bool) (r s : Reading A) → HasCome r → HasCome s → HasCome (cond b r s)
  if_come true r s first second = first
  if_come false r s first second = second

module _ (bytes : List ℕ) where
  abbrev Came : {A : Type 0} → Reading A → Type 0
  Came r = HasCome (length bytes) r

  come_come : (at size : ℕ) → Came (come at size bytes)
  unfolding come
  come_come at size = if_come (length bytes) (nat_le (at + size) (length bytes)) _ Short tt tt

  -- what was read of a field had come
  pub come_within : (at size : ℕ) (field : List ℕ) → come at size bytes ≡ Good field → at + size ≤ length bytes
  unfolding come
  come_within at size field e = within (nat_le (at + size) (length bytes)) refl e where
    within : (b : Bool) → nat_le (at + size) (length bytes) ≡ b
        → cond b (Good (take size (drop at bytes))) Short ≡ Good field → at + size ≤ length bytes
    within true is given = leb-true _ _ is
    within false is given = cc

  module _ {A : Type 0} (at size : ℕ) (f : List ℕ → A) where
    -- what f makes of a field's bytes
    abbrev made : Reading A
    made = come at size bytes >>= λ field. Good (f field)

    made_come : Came made
    made_come = then (length bytes) (come at size bytes) _ (come_come at size) (λ field _. tt)

    pub made_within : (x : A) → made ≡ Good x → at + size ≤ length bytes
    made_within x e =
        let a = parts (come at size bytes) (λ field. Good (f field)) x e in
        come_within at size a.0 a.1

    -- and what follows, which may find that field bad
    ruled : {B : Type 0} (g : A → Reading B) → ((x : A) → at ≤ length bytes → Came (g x)) → Came (made >>= g)
    ruled g rule = then (length bytes) made g made_come (λ x is. rule x (omega (arith, made_within x is)))

  -- a number that has to keep a rule
  number_come : (at size : ℕ) (rule : ℕ → Bool) → Came (number at size bytes >>= λ n. kept at (rule n) n)
  number_come at size rule =
      ruled at size (little_number size) _ (λ x within. kept_come (length bytes) at (rule x) x within)

  -- and a flag
  flag_come : (at size : ℕ) (rule : ℕ → Bool)
      → Came (number at size bytes >>= λ n. kept at (rule n) n >>= λ n. Good (n == 1))
  flag_come at size rule =
      ruled at size (little_number size) _ (λ x within.
      then (length bytes) _ _ (kept_come (length bytes) at (rule x) x within) (λ y _. tt))

  coordinate_come : (at : ℕ) → Came (coordinate at bytes)
  coordinate_come at = made_come at 4 (λ field. coordinate_at field 0)

  turn_come : (turn : Option Rotation) → 9 ≤ length bytes → Came (rotation_or_bad turn)
  turn_come (Some r) within = tt
  turn_come None within = within

  rotation_come : (x : ℕ) → 9 ≤ length bytes → Came (rotation_of x)
  rotation_come x within = turn_come (rotation_numbered x) within

  mode_come : Came (mode_of bytes)
  unfolding mode_of width_of height_of
  mode_come =
      then _ _ _ (number_come 1 4 _) (λ w _.
      then _ _ _ (number_come 5 4 _) (λ h _.
      then _ _ _ (ruled 9 4 (little_number 4) rotation_of rotation_come) (λ r _. tt)))

  pointer_come : Came (pointer_of bytes)
  unfolding pointer_of
  pointer_come =
      then _ _ _ (coordinate_come 23) (λ x _.
      then _ _ _ (coordinate_come 27) (λ y _.
      then _ _ _ (number_come 31 1 _) (λ v _. tt)))

  info_come : Came (info_of bytes)
  unfolding info_of last_present_of last_mouse_of accumulated_of coalesced_of protected_of meta_of shape_size_of
  info_come =
      then _ _ _ (number_come 1 8 _) (λ last_present _.
      then _ _ _ (number_come 9 8 _) (λ last_mouse _.
      then _ _ _ (number_come 17 4 _) (λ accumulated _.
      then _ _ _ (flag_come 21 1 _) (λ coalesced _.
      then _ _ _ (flag_come 22 1 _) (λ protected _.
      then _ _ _ pointer_come (λ pointer _.
      then _ _ _ (number_come 32 4 _) (λ meta _.
      then _ _ _ (number_come 36 4 _) (λ shape _. tt))))))))

  head_come : Came (head_of bytes)
  unfolding head_of move_count_of rect_count_of
  head_come =
      then _ _ _ info_come (λ info _.
      then _ _ _ (number_come 40 1 _) (λ moves _.
      then _ _ _ (number_come 41 1 _) (λ rects _. tt)))

  move_come : (mode : Mode) (at : ℕ) → Came (move_at mode bytes at)
  unfolding move_at
  move_come mode at = ruled at _ move_of _ (λ m within. kept_come _ at _ m within)

  rect_come : (mode : Mode) (at : ℕ) → Came (rect_at mode bytes at)
  unfolding rect_at
  rect_come mode at = ruled at _ rect_of _ (λ r within. kept_come _ at _ r within)

  pixel_come : (at : ℕ) → Came (pixel_at bytes at)
  unfolding pixel_at
  pixel_come at =
      then _ _ _ (come_come at _) (λ field is.
      kept_come _ at _ (little_number 3 field) (omega (arith, come_within at _ field is)))

  pub moves_within : (mode : Mode) (k at : ℕ) (moves : List Move) → at ≤ length bytes
      → moves_of mode k bytes at ≡ Good moves → at + MOVE_BYTES * k ≤ length bytes
  unfolding move_at
  moves_within mode k at moves start e =
      fields_within (length bytes) (move_at mode bytes) MOVE_BYTES (λ place m is.
      let a = parts (come place MOVE_BYTES bytes >>= λ field. Good (move_of field)) _ m is in
      made_within place MOVE_BYTES move_of a.0 a.1) at k moves start e

  pub head_within : (head : Head) → head_of bytes ≡ Good head → FRAME_HEAD_BYTES ≤ length bytes
  unfolding head_of rect_count_of
  head_within head e =
      let a = parts (info_of bytes) _ head e in
      let b = parts (move_count_of a.0.meta_size bytes) _ head a.2 in
      let c = parts (number 41 1 bytes >>= λ n. kept 41 _ n) _ head b.2 in
      let d = parts (number 41 1 bytes) (λ n. kept 41 _ n) c.0 c.1 in
      made_within 41 1 (little_number 1) d.0 d.1

  dirt_come : (mode : Mode) (k at : ℕ) → at ≤ length bytes → Came (dirt_of mode k bytes at)
  unfolding dirt_of
  dirt_come mode k at within =
      then _ _ _ (fields_come (length bytes) (rect_at mode bytes) (rect_come mode) _ at k) (λ rects _.
      kept_come _ at _ rects within)

  shape_head_come : (size at : ℕ) → Came (shape_head_at size bytes at)
  unfolding shape_head_at
  shape_head_come size at = ruled at _ shape_head _ (λ head within. kept_come _ at _ head within)

  or_bad_come : (at : ℕ) (r : Result PointerShape ShapeFault) → at ≤ length bytes → Came (or_bad at r)
  or_bad_come at (Ok s) within = tt
  or_bad_come at (Err e) within = within

  shape_come : (size at : ℕ) → Came (new_shape_of size bytes at)
  unfolding new_shape_of shape_at
  shape_come size at =
      if_come _ (size == 0) _ _ tt (then _ _ _
      (then _ _ _ (shape_head_come size at) (λ head _.
      then _ _ _ (come_come (at + SHAPE_HEAD_BYTES) size) (λ field is.
      or_bad_come (at + SHAPE_HEAD_BYTES) _ (omega (arith, come_within (at + SHAPE_HEAD_BYTES) size field is)))))
      (λ s _. tt))

  frame_chunk_come : (mode : Mode) → Came (frame_chunk_of mode bytes)
  unfolding frame_chunk_of
  frame_chunk_come mode =
      then _ _ _ head_come (λ head is.
      let start = head_within head is in
      then _ _ _ (fields_come (length bytes) (move_at mode bytes) (move_come mode) _ FRAME_HEAD_BYTES head.moves)
      (λ moves are.
      let behind = moves_within mode head.moves FRAME_HEAD_BYTES moves start are in
      then _ _ _ (dirt_come mode head.rects (FRAME_HEAD_BYTES + MOVE_BYTES * head.moves) behind) (λ dirt _.
      then (length bytes) (pixels_of (pixel_count dirt) bytes (behind_rects head.info)) _
      (fields_come (length bytes) (pixel_at bytes) pixel_come PIXEL_BYTES (behind_rects head.info) (pixel_count dirt))
      (λ pixels _.
      then _ _ _ (shape_come head.info.shape_size (behind_pixels head.info dirt)) (λ shape _. tt)))))

  frame_come : (mode : Option Mode) → 0 ≤ length bytes → Came (frame_after mode bytes)
  unfolding frame_of
  frame_come None within = within
  frame_come (Some mode) within = then _ _ _ (frame_chunk_come mode) (λ frame _. tt)

  opening_come : Came (opening_of bytes)
  unfolding opening_of
  opening_come = then _ _ _ mode_come (λ mode _. tt)

  -- a bad field of a chunk has come
  pub chunk_come : (mode : Option Mode) → Came (chunk_of mode bytes)
  unfolding chunk_of
  chunk_come mode =
      ruled 0 1 (little_number 1) (tagged mode bytes) (λ tag within.
      if_come _ (tag == 0) _ _ tt (if_come _ (tag == 1) _ _ opening_come
      (if_come _ (tag == 2) _ _ (frame_come mode within) within)))

pub bad_has_come : BadHasCome
bad_has_come mode bytes at e = subst (HasCome (length bytes)) e (chunk_come bytes mode)
