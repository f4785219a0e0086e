-- A frame chunk that was written is read again.
use Rattle.std.proofs.Common.{◌≡◌, ◌==◌, ℕ, ◌+◌, ◌*◌, ◌≤◌, true, false, cond, List, [], ◌++◌, length, Option, Some, None, refl, sym, ap, ◌∙◌, append_assoc, length-append, eq-eqb, arith}
use Rattle.std.specs.Prelude.{IfSome}
use Rattle.std.specs.List.{flat_map}
use Rattle.std.proofs.lemmas.Bool.{and_from}
use Rattle.byteorder.specs.Numbers.{little_number-reads_back}
use Rattle.dd_geom.specs.declared.rect.TheConstants.{MOVE_BYTES, RECT_BYTES}
use Rattle.dd_geom.specs.Bytes.{rect_bytes, move_bytes, coordinate_bytes}
use Rattle.dd_geom.proofs.ByteLemmas.{length-rect_bytes, length-move_bytes}
use Rattle.dd_modes.specs.declared.modes.Mode.{Mode}
use Rattle.dd_pointer.specs.declared.kind.TheConstants.{MAX_BYTES}
use Rattle.dd_pointer.specs.Shape.{PointerShape, number, kind_of}
use Rattle.dd_pointer.proofs.Sizes.{has_size, required_few, required_some, height_few, number_small, kind_of-number, shape_is_read}
use Rattle.dd_calls.specs.declared.answers.FrameInfo.{FrameInfo}
use Rattle.dd_meta.proofs.Pieces.{length-pieces}
use Rattle.dd_record.specs.declared.chunk.Chunk.TheVariants.{Frame}
use Rattle.dd_record.specs.declared.chunk.FrameChunk.{FrameChunk}
use Rattle.dd_record.specs.declared.layout.TheConstants.{FRAME_HEAD_BYTES, PIXEL_BYTES, SHAPE_HEAD_BYTES}
use Rattle.dd_record.specs.declared.shapes.ShapeHead.{ShapeHead}
use Rattle.dd_record.specs.Reading.{Good, ◌>>=◌, come}
use Rattle.dd_record.specs.Dirt.{pixel_count}
use Rattle.dd_record.specs.Grammar.{has_bytes, shape_head, shape_head_at, or_bad, shape_at, new_shape_of, head_of, moves_of, rects_of, dirt_of, pixels_of, behind_rects, behind_pixels, behind_shape, frame_chunk_of, frame_of, tagged, chunk_of}
use Rattle.dd_record.specs.Writing.{u32_bytes, point_bytes, head_bytes, pixel_bytes, shape_head_bytes, shape_bytes, frame_bytes, size_of, KeepsShape, KeepsRules, ReadsWhatIsWritten}
use Rattle.dd_record.proofs.Canonical.{tells_canonical}
use Rattle.dd_record.proofs.ReadBack.{kept_good, number_is, coordinate_is_read, go, end_is_read, opening_is_read}
use Rattle.dd_record.proofs.HeadBack.{head_is}
use Rattle.dd_record.proofs.ListsBack.{piece_come, moves_are, rects_are, pixels_are, length-pixel_bytes}

-- ---- a shape

same_head : (a b : ShapeHead) → a.kind ≡ b.kind → a.width ≡ b.width → a.height ≡ b.height → a.hot.x ≡ b.hot.x
    → a.hot.y ≡ b.hot.y → a ≡ b
same_head a b kind width height x y =
    ap (λ k. record { kind = k; width = a.width; height = a.height; hot = a.hot }) kind
    ∙ ap (λ w. record { kind = b.kind; width = w; height = a.height; hot = a.hot }) width
    ∙ ap (λ h. record { kind = b.kind; width = b.width; height = h; hot = a.hot }) height
    ∙ ap (λ p. record { kind = b.kind; width = b.width; height = b.height; hot = record { x = p; y = a.hot.y } }) x
    ∙ ap (λ p. record { kind = b.kind; width = b.width; height = b.height; hot = record { x = b.hot.x; y = p } }) y

module _ (s : PointerShape) (keeps : KeepsShape s) where
  abbrev the_head : ShapeHead
  the_head = record { kind = number s.kind; width = s.width; height = s.height; hot = s.hot }

  size_is : 1 ≤ length s.bytes
  size_is =
      let h = has_size s.kind s.width s.height s.bytes keeps.shape in
      omega (arith, h.whole, required_some s.kind s.width s.height h.size)

  pub size_few : length s.bytes ≤ MAX_BYTES
  size_few =
      let h = has_size s.kind s.width s.height s.bytes keeps.shape in
      omega (arith, h.whole, required_few s.kind s.width s.height h.size)

  head_told : shape_head (shape_head_bytes s) ≡ the_head
  unfolding shape_head_bytes
  head_told =
      let h = has_size s.kind s.width s.height s.bytes keeps.shape in
      let tall : List ℕ = u32_bytes s.height ++ point_bytes s.hot in
      same_head (shape_head (shape_head_bytes s)) the_head
      (little_number-reads_back 4 (number s.kind) (u32_bytes s.width ++ tall) (omega (arith, number_small s.kind)))
      (little_number-reads_back 4 s.width tall (omega (arith, h.width)))
      (little_number-reads_back 4 s.height (point_bytes s.hot) (omega (arith, height_few s.kind s.height h.height)))
      (coordinate_is_read s.hot.x (coordinate_bytes s.hot.y) keeps.x)
      (coordinate_is_read s.hot.y [] keeps.y)

  bytes_are : has_bytes (kind_of (number s.kind)) s.width s.height (length s.bytes) ≡ true
  bytes_are =
      let h = has_size s.kind s.width s.height s.bytes keeps.shape in
      ap (λ k. has_bytes k s.width s.height (length s.bytes)) (kind_of-number s.kind)
      ∙ and_from _ _ h.size (eq-eqb _ _ (sym h.whole))

  length-shape_head_bytes : length (shape_head_bytes s) ≡ 20
  unfolding shape_head_bytes
  length-shape_head_bytes = refl

  shape_is : (before rest bytes : List ℕ) → bytes ≡ before ++ ((shape_head_bytes s ++ s.bytes) ++ rest)
      → shape_at (length s.bytes) bytes (length before) ≡ Good s
  unfolding shape_at shape_head_at
  shape_is before rest bytes is =
      let head : List ℕ = shape_head_bytes s in
      let first : bytes ≡ before ++ (head ++ (s.bytes ++ rest)) =
      is ∙ ap (λ (r : List ℕ). before ++ r) (append_assoc head s.bytes rest) in
      let second : bytes ≡ (before ++ head) ++ (s.bytes ++ rest) =
      first ∙ sym (append_assoc before head (s.bytes ++ rest)) in
      let place : length (before ++ head) ≡ length before + SHAPE_HEAD_BYTES =
      length-append before head ∙ ap (λ (k : ℕ). length before + k) length-shape_head_bytes in
      go _ _ the_head _
      (go _ _ the_head _
      (go _ _ head _ (piece_come before head (s.bytes ++ rest) bytes SHAPE_HEAD_BYTES length-shape_head_bytes first)
      (ap Good head_told))
      (kept_good (length before) _ the_head bytes_are))
      (go _ _ s.bytes _
      (ap (λ (a : ℕ). come a (length s.bytes) bytes) (sym place)
      ∙ piece_come (before ++ head) s.bytes rest bytes (length s.bytes) refl second)
      (ap (or_bad (length before + SHAPE_HEAD_BYTES)) (shape_is_read s keeps.shape)))

not_none : (k : ℕ) → 1 ≤ k → (k == 0) ≡ false
not_none k e = grind arith

new_shape_is : (shape : Option PointerShape) (before rest bytes : List ℕ) → IfSome shape KeepsShape
    → bytes ≡ before ++ (shape_bytes shape ++ rest) → new_shape_of (size_of shape) bytes (length before) ≡ Good shape
unfolding new_shape_of
new_shape_is None before rest bytes keeps is = refl
new_shape_is (Some s) before rest bytes keeps is =
    ap (λ b. cond b (Good None) (shape_at (length s.bytes) bytes (length before) >>= λ shape. Good (Some shape)))
    (not_none (length s.bytes) (size_is s keeps))
    ∙ go _ _ s _ (shape_is s keeps before rest bytes is) refl

size_of_few : (shape : Option PointerShape) → IfSome shape KeepsShape → size_of shape ≤ MAX_BYTES
size_of_few None keeps = omega arith
size_of_few (Some s) keeps = size_few s keeps

length-shape_bytes : (shape : Option PointerShape) → IfSome shape KeepsShape
    → length (shape_bytes shape) ≡ cond (size_of shape == 0) 0 (SHAPE_HEAD_BYTES + size_of shape)
length-shape_bytes None keeps = refl
length-shape_bytes (Some s) keeps =
    length-append (shape_head_bytes s) s.bytes
    ∙ ap (λ (k : ℕ). k + length s.bytes) (length-shape_head_bytes s keeps)
    ∙ sym (ap (λ b. cond b 0 (SHAPE_HEAD_BYTES + length s.bytes)) (not_none (length s.bytes) (size_is s keeps)))

-- ---- a frame

length-head_bytes : (info : FrameInfo) (moves rects : ℕ) → length (head_bytes info moves rects) ≡ 42
unfolding head_bytes
length-head_bytes info moves rects = refl

module _ (mode : Mode) (f : FrameChunk) (rest : List ℕ) (keeps : KeepsRules mode f) where
  abbrev the_info : List ℕ
  the_info = head_bytes f.info (length f.moves) (length f.dirt)

  abbrev the_moves : List ℕ
  the_moves = flat_map move_bytes f.moves

  abbrev the_rects : List ℕ
  the_rects = flat_map rect_bytes f.dirt

  abbrev the_pixels : List ℕ
  the_pixels = flat_map pixel_bytes f.pixels

  abbrev from_shape : List ℕ
  from_shape = shape_bytes f.shape ++ rest

  abbrev from_pixels : List ℕ
  from_pixels = the_pixels ++ from_shape

  abbrev from_rects : List ℕ
  from_rects = the_rects ++ from_pixels

  -- the bytes, and what stands behind them
  abbrev all : List ℕ
  all = the_info ++ (the_moves ++ from_rects)

  before_rects : all ≡ (the_info ++ the_moves) ++ from_rects
  before_rects = sym (append_assoc the_info the_moves from_rects)

  before_pixels : all ≡ ((the_info ++ the_moves) ++ the_rects) ++ from_pixels
  before_pixels = before_rects ∙ sym (append_assoc (the_info ++ the_moves) the_rects from_pixels)

  before_shape : all ≡ (((the_info ++ the_moves) ++ the_rects) ++ the_pixels) ++ from_shape
  before_shape = before_pixels ∙ sym (append_assoc ((the_info ++ the_moves) ++ the_rects) the_pixels from_shape)

  place_of_moves : length the_info ≡ FRAME_HEAD_BYTES
  place_of_moves = length-head_bytes f.info (length f.moves) (length f.dirt)

  place_of_rects : length (the_info ++ the_moves) ≡ FRAME_HEAD_BYTES + MOVE_BYTES * length f.moves
  place_of_rects =
      omega (
        arith,
        length-append the_info the_moves,
        place_of_moves,
        length-pieces move_bytes MOVE_BYTES length-move_bytes f.moves,
      )

  place_of_pixels : length ((the_info ++ the_moves) ++ the_rects) ≡ behind_rects f.info
  place_of_pixels =
      omega (
        arith,
        length-append (the_info ++ the_moves) the_rects,
        place_of_rects,
        length-pieces rect_bytes RECT_BYTES length-rect_bytes f.dirt,
        keeps.meta,
      )

  place_of_shape : length (((the_info ++ the_moves) ++ the_rects) ++ the_pixels) ≡ behind_pixels f.info f.dirt
  place_of_shape =
      omega (
        arith,
        length-append ((the_info ++ the_moves) ++ the_rects) the_pixels,
        place_of_pixels,
        length-pieces pixel_bytes PIXEL_BYTES length-pixel_bytes f.pixels,
        keeps.pixels,
      )

  head_read : head_of all ≡ Good (record { info = f.info; moves = length f.moves; rects = length f.dirt })
  head_read =
      head_is f.info (length f.moves) (length f.dirt) (the_moves ++ from_rects) keeps.info keeps.meta
      keeps.few_moves keeps.few_rects (omega (arith, keeps.shape_size, size_of_few f.shape keeps.shape))

  moves_read : moves_of mode (length f.moves) all FRAME_HEAD_BYTES ≡ Good f.moves
  moves_read =
      ap (moves_of mode (length f.moves) all) (sym place_of_moves)
      ∙ moves_are mode all the_info from_rects f.moves refl keeps.moves

  dirt_read : dirt_of mode (length f.dirt) all (FRAME_HEAD_BYTES + MOVE_BYTES * length f.moves) ≡ Good f.dirt
  unfolding dirt_of
  dirt_read =
      go _ _ f.dirt _
      (ap (rects_of mode (length f.dirt) all) (sym place_of_rects)
      ∙ rects_are mode all (the_info ++ the_moves) from_pixels f.dirt before_rects keeps.rects)
      (kept_good _ _ f.dirt ((tells_canonical mode.width mode.height f.dirt).1 keeps.dirt))

  pixels_read : pixels_of (pixel_count f.dirt) all (behind_rects f.info) ≡ Good f.pixels
  pixels_read =
      ap (λ n. pixels_of n all (behind_rects f.info)) (sym keeps.pixels)
      ∙ ap (pixels_of (length f.pixels) all) (sym place_of_pixels)
      ∙ pixels_are all ((the_info ++ the_moves) ++ the_rects) from_shape f.pixels before_pixels keeps.colours

  shape_read : new_shape_of f.info.shape_size all (behind_pixels f.info f.dirt) ≡ Good f.shape
  shape_read =
      ap (λ n. new_shape_of n all (behind_pixels f.info f.dirt)) keeps.shape_size
      ∙ ap (new_shape_of (size_of f.shape) all) (sym place_of_shape)
      ∙ new_shape_is f.shape (((the_info ++ the_moves) ++ the_rects) ++ the_pixels) rest all keeps.shape before_shape

  frame_read : frame_chunk_of mode all ≡ Good f
  unfolding frame_chunk_of
  frame_read =
      go _ _ (record { info = f.info; moves = length f.moves; rects = length f.dirt }) _ head_read
      (go _ _ f.moves _ moves_read
      (go _ _ f.dirt _ dirt_read
      (go _ _ f.pixels _ pixels_read
      (go _ _ f.shape _ shape_read refl))))

  chunk_read : chunk_of (Some mode) all ≡ Good (record { chunk = Frame f; used = behind_shape f.info f.dirt })
  unfolding chunk_of frame_of head_bytes
  chunk_read =
      go _ (tagged (Some mode) all) 2 _ (number_is 0 1 2 all (omega arith) (omega arith) refl)
      (go _ _ f _ frame_read refl)

  -- the bytes as they are written
  as_written : frame_bytes f ++ rest ≡ all
  unfolding frame_bytes
  as_written =
      let shape : List ℕ = shape_bytes f.shape in
      append_assoc the_info (the_moves ++ (the_rects ++ (the_pixels ++ shape))) rest
      ∙ ap (λ (r : List ℕ). the_info ++ r) (append_assoc the_moves (the_rects ++ (the_pixels ++ shape)) rest
      ∙ ap (λ (r : List ℕ). the_moves ++ r) (append_assoc the_rects (the_pixels ++ shape) rest
      ∙ ap (λ (r : List ℕ). the_rects ++ r) (append_assoc the_pixels shape rest)))

  length-frame_bytes : length (frame_bytes f) ≡ behind_shape f.info f.dirt
  unfolding frame_bytes
  length-frame_bytes =
      let shape : List ℕ = shape_bytes f.shape in
      let sum : length (frame_bytes f) ≡ behind_pixels f.info f.dirt + length shape =
      omega (
        arith,
        length-append the_info (the_moves ++ (the_rects ++ (the_pixels ++ shape))),
        length-append the_moves (the_rects ++ (the_pixels ++ shape)),
        length-append the_rects (the_pixels ++ shape),
        length-append the_pixels shape,
        length-append ((the_info ++ the_moves) ++ the_rects) the_pixels,
        length-append (the_info ++ the_moves) the_rects,
        length-append the_info the_moves,
        place_of_shape,
      ) in
      sum ∙ ap (λ (k : ℕ). behind_pixels f.info f.dirt + k)
      (length-shape_bytes f.shape keeps.shape
      ∙ ap (λ (n : ℕ). cond (n == 0) 0 (SHAPE_HEAD_BYTES + n)) (sym keeps.shape_size))

  pub frame_is_read : chunk_of (Some mode) (frame_bytes f ++ rest)
      ≡ Good (record { chunk = Frame f; used = length (frame_bytes f) })
  frame_is_read =
      ap (chunk_of (Some mode)) as_written ∙ chunk_read
      ∙ ap (λ (n : ℕ). Good (record { chunk = Frame f; used = n })) (sym length-frame_bytes)

pub reads_what_is_written : ReadsWhatIsWritten
reads_what_is_written = record { end = end_is_read; opening = opening_is_read; frame = frame_is_read }
