-- What was read of a chunk lies inside the surface, and its bytes among those that came.
use Rattle.std.proofs.Common.{◌≡◌, ◌==◌, ℕ, zero, suc, ◌+◌, ◌*◌, ◌<◌, ◌≤◌, Bool, true, false, cond, nat_le, List, [], ◌∷◌, length, take, drop, get_or, Option, Some, None, ap, ◌∙◌, subst, inl, inr, arith}
use Rattle.std.specs.List.{All, list_all}
use Rattle.std.proofs.lemmas.Bool.{and_parts, cases_lt}
use Rattle.std.proofs.lemmas.List.{get_or_past}
use Rattle.std.proofs.lemmas.List.Elements.{All-take, All-drop, All-cons}
use Rattle.byteorder.specs.Endian.{little_number}
use Rattle.byteorder.specs.Numbers.{little_from-lt}
use borrow.Author.Tests.{leb-true}
use Rattle.dd_geom.specs.declared.rect.Rect.{Rect}
use Rattle.dd_geom.specs.declared.rect.Move.{Move}
use Rattle.dd_geom.specs.declared.rect.TheConstants.{MAX_SIDE, MAX_PIXELS, MOVE_BYTES, RECT_BYTES}
use Rattle.dd_geom.specs.Bytes.{rect_of}
use Rattle.dd_geom.specs.Rect.{IsSize, is_move_inside}
use Rattle.dd_grid.specs.declared.cell.TheConstants.{COLOURS}
use Rattle.dd_modes.specs.declared.modes.Mode.{Mode}
use Rattle.dd_pointer.specs.Shape.{PointerShape}
use Rattle.dd_record.specs.declared.chunk.Chunk.TheVariants.{Opening, Frame}
use Rattle.dd_record.specs.declared.chunk.FrameChunk.{FrameChunk}
use Rattle.dd_record.specs.declared.chunk.Parsed.{Parsed}
use Rattle.dd_record.specs.declared.head.Head.{Head}
use Rattle.dd_record.specs.declared.layout.TheConstants.{OPENING_BYTES, FRAME_HEAD_BYTES, PIXEL_BYTES, SHAPE_HEAD_BYTES}
use Rattle.dd_record.specs.Reading.{Reading, Good, Short, ◌>>=◌, come, kept, number}
use Rattle.dd_record.specs.Dirt.{is_canonical, pixel_count}
use Rattle.dd_record.specs.Grammar.{width_of, height_of, rotation_of, mode_of, move_count_of, rect_count_of, info_of, head_of, move_at, moves_of, rect_at, rects_of, dirt_of, pixel_at, pixels_of, behind_rects, behind_pixels, behind_shape, shape_head_at, shape_at, new_shape_of, frame_chunk_of, frame_of, frame_after, opening_of, end, tagged, chunk_of}
use Rattle.dd_record.specs.Fitting.{FitsSurface, FitsAfter, least_size, Fits}
use Rattle.dd_record.proofs.Rules.{parts, kept_is, all_kept, rects_inside, length-fields}
use Rattle.dd_record.proofs.Within.{come_within, fields_within, head_within, moves_within}

-- a number that was read keeps its rule
ruled_is : (r : Reading ℕ) (at : ℕ) (rule : ℕ → Bool) (n : ℕ) → (r >>= λ n. kept at (rule n) n) ≡ Good n → rule n ≡ true
ruled_is r at rule n e =
    let a = parts r (λ n. kept at (rule n) n) n e in
    let k = kept_is at (rule a.0) a.0 n a.2 in
    subst (λ (m : ℕ). rule m ≡ true) k.1 k.0

-- a part that was found good by a rule of its own was read
good_before : {A B : Type 0} (r : Reading A) (f : A → Reading B) (y : B) → (r >>= f) ≡ Good y → (x : A) × (r ≡ Good x)
good_before r f y e = let a = parts r f y e in (a.0, a.1)

-- ---- an opening chunk

width_is : (bytes : List ℕ) (n : ℕ) → width_of bytes ≡ Good n → (nat_le 1 n ≡ true) × (nat_le n MAX_SIDE ≡ true)
unfolding width_of
width_is bytes n e = and_parts _ _ (ruled_is (number 1 4 bytes) 1 _ n e)

record IsHeight (width n : ℕ) : Type 0 where
  high : 1 ≤ n
  few : n ≤ MAX_SIDE
  pixels : width * n ≤ MAX_PIXELS

height_is : (width : ℕ) (bytes : List ℕ) (n : ℕ) → height_of width bytes ≡ Good n → IsHeight width n
unfolding height_of
height_is width bytes n e =
    let all = and_parts _ (nat_le (width * n) MAX_PIXELS) (ruled_is (number 5 4 bytes) 5 _ n e) in
    let sides = and_parts (nat_le 1 n) (nat_le n MAX_SIDE) all.0 in
    record { high = leb-true _ _ sides.0; few = leb-true _ _ sides.1; pixels = leb-true _ _ all.1 }

mode_is : (bytes : List ℕ) (mode : Mode) → mode_of bytes ≡ Good mode
    → IsSize mode.width mode.height × (OPENING_BYTES ≤ length bytes)
unfolding mode_of
mode_is bytes mode e =
    let a = parts (width_of bytes) _ mode e in
    let b = parts (height_of a.0 bytes) _ mode a.2 in
    let c = parts (number 9 4 bytes >>= rotation_of) _ mode b.2 in
    let d = parts (number 9 4 bytes) rotation_of c.0 c.1 in
    let f = parts (come 9 4 bytes) _ d.0 d.1 in
    let w = width_is bytes a.0 a.1 in
    let h = height_is a.0 bytes b.0 b.1 in
    let is : record { width = a.0; height = b.0; rotation = c.0 } ≡ mode = cc in
    subst (λ (m : Mode). IsSize m.width m.height × (OPENING_BYTES ≤ length bytes)) is (
      record { wide = leb-true _ _ w.0; high = h.high; width = leb-true _ _ w.1; height = h.few; pixels = h.pixels },
      come_within bytes 9 4 f.0 f.1,
    )

-- ---- a frame chunk

-- the metadata are the moves and the rectangles
head_is : (bytes : List ℕ) (head : Head) → head_of bytes ≡ Good head
    → MOVE_BYTES * head.moves + RECT_BYTES * head.rects ≡ head.info.meta_size
unfolding head_of rect_count_of
head_is bytes head e =
    let a = parts (info_of bytes) _ head e in
    let b = parts (move_count_of a.0.meta_size bytes) _ head a.2 in
    let c = parts (number 41 1 bytes >>= λ n. kept 41 _ n) _ head b.2 in
    let rule = and_parts _ (MOVE_BYTES * b.0 + RECT_BYTES * c.0 == a.0.meta_size)
    (ruled_is (number 41 1 bytes) 41 _ c.0 c.1) in
    let is : record { info = a.0; moves = b.0; rects = c.0 } ≡ head = cc in
    subst (λ (h : Head). MOVE_BYTES * h.moves + RECT_BYTES * h.rects ≡ h.info.meta_size) is (grind (arith, rule.1))

moves_inside : (mode : Mode) (n : ℕ) (bytes : List ℕ) (at : ℕ) (moves : List Move)
    → moves_of mode n bytes at ≡ Good moves → list_all (λ m. is_move_inside m mode.width mode.height) moves ≡ true
unfolding move_at
moves_inside mode n bytes at moves e =
    all_kept (move_at mode bytes) (λ m. is_move_inside m mode.width mode.height)
    (λ place m is.
    let a = parts _ (λ m. kept place (is_move_inside m mode.width mode.height) m) m is in
    let k = kept_is place (is_move_inside a.0 mode.width mode.height) a.0 m a.2 in
    subst (λ (m : Move). is_move_inside m mode.width mode.height ≡ true) k.1 k.0)
    MOVE_BYTES at n moves e

rects_within : (mode : Mode) (bytes : List ℕ) (n at : ℕ) (rects : List Rect) → at ≤ length bytes
    → rects_of mode n bytes at ≡ Good rects → at + RECT_BYTES * n ≤ length bytes
unfolding rect_at
rects_within mode bytes n at rects start e =
    fields_within (length bytes) (rect_at mode bytes) RECT_BYTES
    (λ place r is.
    let a = parts (come place RECT_BYTES bytes >>= λ field. Good (rect_of field)) _ r is in
    let b = parts (come place RECT_BYTES bytes) (λ field. Good (rect_of field)) a.0 a.1 in
    come_within bytes place RECT_BYTES b.0 b.1)
    at n rects start e

-- the dirty rectangles are those that were read
dirt_read : (mode : Mode) (n : ℕ) (bytes : List ℕ) (at : ℕ) (rects : List Rect) → dirt_of mode n bytes at ≡ Good rects
    → rects_of mode n bytes at ≡ Good rects
unfolding dirt_of
dirt_read mode n bytes at rects e =
    let a = parts (rects_of mode n bytes at)
    (λ rects. kept at (is_canonical mode.width mode.height rects) rects) rects e in
    let k = kept_is at (is_canonical mode.width mode.height a.0) a.0 rects a.2 in
    a.1 ∙ ap Good k.1

pixels_within : (bytes : List ℕ) (n at : ℕ) (pixels : List ℕ) → at ≤ length bytes
    → pixels_of n bytes at ≡ Good pixels → at + PIXEL_BYTES * n ≤ length bytes
unfolding pixel_at
pixels_within bytes n at pixels start e =
    fields_within (length bytes) (pixel_at bytes) PIXEL_BYTES
    (λ place c is.
    let a = parts (come place PIXEL_BYTES bytes) _ c is in
    come_within bytes place PIXEL_BYTES a.0 a.1)
    at n pixels start e

-- ---- colours

abbrev AreBytes : List ℕ → Type 0
AreBytes bytes = All (λ b. b < 256) bytes

byte_small : (bytes : List ℕ) → AreBytes bytes → (i : ℕ) → get_or bytes i 0 < 256
byte_small bytes small i = elim (cases_lt i (length bytes)) [
  | inl within ↦ small i 0 within
  | inr past ↦ rw (get_or_past bytes i 0 past) (omega arith)
]

field_small : (at size : ℕ) (bytes field : List ℕ) → AreBytes bytes → come at size bytes ≡ Good field → AreBytes field
unfolding come
field_small at size bytes field small e = by_case (nat_le (at + size) (length bytes)) e where
  by_case : (b : Bool) → cond b (Good (take size (drop at bytes))) Short ≡ Good field → AreBytes field
  by_case true is =
      let same : take size (drop at bytes) ≡ field = cc in
      subst AreBytes same (All-take (λ b. b < 256) size (drop at bytes) (All-drop (λ b. b < 256) at bytes small))
  by_case false is = cc

pixel_small : (bytes : List ℕ) (at c : ℕ) → AreBytes bytes → pixel_at bytes at ≡ Good c → c < COLOURS
unfolding pixel_at
pixel_small bytes at c small e =
    let a = parts (come at PIXEL_BYTES bytes) _ c e in
    let k = kept_is at _ (little_number 3 a.0) c a.2 in
    let field = byte_small a.0 (field_small at PIXEL_BYTES bytes a.0 small a.1) in
    subst (λ (n : ℕ). n < COLOURS) k.1 (omega (arith, little_from-lt 0 3 a.0 field))

pixels_small : (bytes : List ℕ) → AreBytes bytes → (n at : ℕ) (pixels : List ℕ) → pixels_of n bytes at ≡ Good pixels
    → All (λ c. c < COLOURS) pixels
pixels_small bytes small zero at pixels e =
    let is : [] ≡ pixels = cc in
    subst (λ (xs : List ℕ). All (λ c. c < COLOURS) xs) is (λ i d within. absurd (omega (arith, within)))
pixels_small bytes small (suc n) at pixels e =
    let a = parts (pixel_at bytes at) _ pixels e in
    let b = parts (pixels_of n bytes (at + PIXEL_BYTES)) (λ xs. Good (a.0 ∷ xs)) pixels a.2 in
    let is : a.0 ∷ b.0 ≡ pixels = cc in
    subst (λ (xs : List ℕ). All (λ c. c < COLOURS) xs) is
    (All-cons (λ c. c < COLOURS) a.0 b.0 (pixel_small bytes at a.0 small a.1)
    (pixels_small bytes small n (at + PIXEL_BYTES) b.0 b.1))

-- ---- a shape

shape_read : (size : ℕ) (bytes : List ℕ) (at : ℕ) (shape : PointerShape) → shape_at size bytes at ≡ Good shape
    → at + (SHAPE_HEAD_BYTES + size) ≤ length bytes
unfolding shape_at
shape_read size bytes at shape e =
    let a = parts (shape_head_at size bytes at) _ shape e in
    let b = parts (come (at + SHAPE_HEAD_BYTES) size bytes) _ shape a.2 in
    omega (arith, come_within bytes (at + SHAPE_HEAD_BYTES) size b.0 b.1)

shape_within : (size : ℕ) (bytes : List ℕ) (at : ℕ) (shape : Option PointerShape) → at ≤ length bytes
    → new_shape_of size bytes at ≡ Good shape
    → at + cond (size == 0) 0 (SHAPE_HEAD_BYTES + size) ≤ length bytes
unfolding new_shape_of
shape_within size bytes at shape start e = by_case (size == 0) e where
  by_case : (b : Bool) → cond b (Good None) (shape_at size bytes at >>= λ s. Good (Some s)) ≡ Good shape
      → at + cond b 0 (SHAPE_HEAD_BYTES + size) ≤ length bytes
  by_case true is = omega (arith, start)
  by_case false is =
      let a = parts (shape_at size bytes at) (λ s. Good (Some s)) shape is in
      shape_read size bytes at a.0 a.1

-- ---- whole chunks

record IsFrame (mode : Mode) (bytes : List ℕ) (f : FrameChunk) : Type 0 where
  fits : AreBytes bytes → FitsSurface mode f
  within : behind_shape f.info f.dirt ≤ length bytes

frame_chunk_is : (mode : Mode) (bytes : List ℕ) (f : FrameChunk) → frame_chunk_of mode bytes ≡ Good f
    → IsFrame mode bytes f
unfolding frame_chunk_of
frame_chunk_is mode bytes f e =
    let a = parts (head_of bytes) _ f e in
    let head : Head = a.0 in
    let b = parts (moves_of mode head.moves bytes FRAME_HEAD_BYTES) _ f a.2 in
    let place : ℕ = FRAME_HEAD_BYTES + MOVE_BYTES * head.moves in
    let c = parts (dirt_of mode head.rects bytes place) _ f b.2 in
    let count : ℕ = pixel_count c.0 in
    let d = parts (pixels_of count bytes (behind_rects head.info)) _ f c.2 in
    let g = parts (new_shape_of head.info.shape_size bytes (behind_pixels head.info c.0)) _ f d.2 in
    let rects = dirt_read mode head.rects bytes place c.0 c.1 in
    let behind_moves = moves_within bytes mode head.moves FRAME_HEAD_BYTES b.0 (head_within bytes head a.1) b.1 in
    let behind_dirt = rects_within mode bytes head.rects place c.0 behind_moves rects in
    let meta = head_is bytes head a.1 in
    let start : behind_rects head.info ≤ length bytes = omega (arith, behind_dirt, meta) in
    let behind = pixels_within bytes count (behind_rects head.info) d.0 start d.1 in
    let last = shape_within head.info.shape_size bytes (behind_pixels head.info c.0) g.0 behind g.1 in
    let is : record { info = head.info; moves = b.0; dirt = c.0; pixels = d.0; shape = g.0 } ≡ f = cc in
    subst (IsFrame mode bytes) is
    (record {
      fits =
          λ small.
          record {
            moves = moves_inside mode head.moves bytes FRAME_HEAD_BYTES b.0 b.1;
            dirt = rects_inside mode head.rects bytes place c.0 rects;
            pixels = length-fields (pixel_at bytes) PIXEL_BYTES (behind_rects head.info) count d.0 d.1;
            colours = pixels_small bytes small count (behind_rects head.info) d.0 d.1;
          };
      within = last;
    })

-- a chunk's size, and what it keeps where the numbers are bytes
pub record IsSized (before : Option Mode) (bytes : List ℕ) (parsed : Parsed) : Type 0 where
  pub fits : AreBytes bytes → FitsAfter before parsed.chunk
  pub least : least_size parsed.chunk ≤ parsed.used
  pub within : parsed.used ≤ length bytes

frame_sized : (before : Option Mode) (bytes : List ℕ) (parsed : Parsed) → frame_after before bytes ≡ Good parsed
    → IsSized before bytes parsed
unfolding frame_of
frame_sized None bytes parsed e = cc
frame_sized (Some mode) bytes parsed e =
    let a = parts (frame_chunk_of mode bytes) _ parsed e in
    let f : FrameChunk = a.0 in
    let frame = frame_chunk_is mode bytes f a.1 in
    let is : record { chunk = Frame f; used = behind_shape f.info f.dirt } ≡ parsed = cc in
    subst (IsSized (Some mode) bytes) is (record { fits = frame.fits; least = omega arith; within = frame.within })

opening_sized : (before : Option Mode) (bytes : List ℕ) (parsed : Parsed) → opening_of bytes ≡ Good parsed
    → IsSized before bytes parsed
unfolding opening_of
opening_sized before bytes parsed e =
    let a = parts (mode_of bytes) _ parsed e in
    let mode = mode_is bytes a.0 a.1 in
    let is : record { chunk = Opening a.0; used = OPENING_BYTES } ≡ parsed = cc in
    subst (IsSized before bytes) is (record { fits = λ small. mode.0; least = omega arith; within = mode.1 })

end_sized : (before : Option Mode) (bytes : List ℕ) (parsed : Parsed) → 1 ≤ length bytes → Good end ≡ Good parsed
    → IsSized before bytes parsed
end_sized before bytes parsed some e =
    let is : end ≡ parsed = cc in
    subst (IsSized before bytes) is (record { fits = λ small. tt; least = omega arith; within = some })

if_sized : (before : Option Mode) (bytes : List ℕ) (parsed : Parsed) (b : Bool) (r s : Reading Parsed)
    → (r ≡ Good parsed → IsSized before bytes parsed) → (s ≡ Good parsed → IsSized before bytes parsed)
    → cond b r s ≡ Good parsed → IsSized before bytes parsed
if_sized before bytes parsed true r s first second e = first e
if_sized before bytes parsed false r s first second e = second e

pub chunk_sized : (before : Option Mode) (bytes : List ℕ) (parsed : Parsed) → chunk_of before bytes ≡ Good parsed
    → IsSized before bytes parsed
unfolding chunk_of
chunk_sized before bytes parsed e =
    let a = parts (number 0 1 bytes) (tagged before bytes) parsed e in
    let b = parts (come 0 1 bytes) _ a.0 a.1 in
    let some : 1 ≤ length bytes = come_within bytes 0 1 b.0 b.1 in
    if_sized before bytes parsed (a.0 == 0) _ _ (end_sized before bytes parsed some)
    (if_sized before bytes parsed (a.0 == 1) _ _ (opening_sized before bytes parsed)
    (if_sized before bytes parsed (a.0 == 2) _ _ (frame_sized before bytes parsed) (λ is. cc)))
    a.2

-- a chunk that was read fits
pub chunk_fits : (before : Option Mode) (bytes : List ℕ) (parsed : Parsed) → AreBytes bytes
    → chunk_of before bytes ≡ Good parsed → Fits before (length bytes) parsed
chunk_fits before bytes parsed small e =
    let sized = chunk_sized before bytes parsed e in
    record { chunk = sized.fits small; least = sized.least; within = sized.within }
