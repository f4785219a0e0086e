-- Moves, rectangles, pixels and a shape that were written are read again.
use Rattle.std.proofs.Common.{◌≡◌, ℕ, ◌+◌, ◌<◌, ◌≤◌, true, List, [], ◌∷◌, ◌++◌, length, take, drop, IsTrue, refl, sym, ap, ◌∙◌, append_assoc, length-append, arith}
use Rattle.std.specs.List.{flat_map, AllByRecursion}
use Rattle.std.proofs.Math.Seq.{drop-append_seam, take-append_seam}
use Rattle.std.proofs.lemmas.List.Concat.{flat_map-cons}
use Rattle.byteorder.specs.Endian.{little_number}
use Rattle.byteorder.specs.Numbers.{little_number-reads_back}
use Rattle.dd_geom.specs.declared.rect.Rect.{Rect}
use Rattle.dd_geom.specs.declared.rect.Move.{Move}
use Rattle.dd_geom.specs.declared.rect.TheConstants.{MOVE_BYTES, RECT_BYTES}
use Rattle.dd_geom.specs.Bytes.{rect_bytes, move_bytes}
use Rattle.dd_geom.specs.Rect.{FitsSides, FitsMove, is_inside, is_move_inside}
use Rattle.dd_geom.proofs.ByteLemmas.{rect_is_read, move_is_read, length-rect_bytes, length-move_bytes}
use Rattle.dd_grid.specs.declared.cell.TheConstants.{COLOURS}
use Rattle.dd_modes.specs.declared.modes.Mode.{Mode}
use Rattle.dd_record.specs.declared.layout.TheConstants.{PIXEL_BYTES}
use Rattle.dd_record.specs.Reading.{Reading, Good, come, fields}
use Rattle.dd_record.specs.Grammar.{move_at, moves_of, rect_at, rects_of, pixel_at, pixels_of}
use Rattle.dd_record.specs.Writing.{pixel_bytes}
use Rattle.dd_record.proofs.ReadBack.{come_is, kept_good, go}

-- the bytes of a field that stand somewhere
pub piece_come : (before field rest bytes : List ℕ) (size : ℕ) → length field ≡ size
    → bytes ≡ before ++ (field ++ rest) → come (length before) size bytes ≡ Good field
piece_come before field rest bytes size sized is =
    let long : length bytes ≡ length before + (length field + length rest) =
    ap length is ∙ length-append before (field ++ rest)
    ∙ ap (λ (k : ℕ). length before + k) (length-append field rest) in
    let within : length before + size ≤ length bytes = omega (arith, long, sized) in
    let there : take (length field) (drop (length before) bytes) ≡ field =
    ap (λ (b : List ℕ). take (length field) (drop (length before) b)) is
    ∙ ap (take (length field)) (drop-append_seam before (field ++ rest))
    ∙ take-append_seam field rest in
    come_is (length before) size bytes field within
    (ap (λ (k : ℕ). take k (drop (length before) bytes)) (sym sized) ∙ there)

module _ {A : Type 0} (f : ℕ → Reading A) (write : A → List ℕ) (P : A → Type 0) (size : ℕ) (bytes : List ℕ)
    (sized : (x : A) → length (write x) ≡ size)
    (one : (before rest : List ℕ) (x : A) → bytes ≡ before ++ (write x ++ rest) → P x
    → f (length before) ≡ Good x) where
  -- fields that were written one after another
  pub fields_are : (before rest : List ℕ) (xs : List A) → bytes ≡ before ++ (flat_map write xs ++ rest)
      → AllByRecursion P xs → fields f size (length before) (length xs) ≡ Good xs
  fields_are before rest [] is all = refl
  fields_are before rest (x ∷ xs) is all =
      let others : List ℕ = flat_map write xs ++ rest in
      let first : bytes ≡ before ++ (write x ++ others) =
      is ∙ ap (λ (r : List ℕ). before ++ r) (ap (λ (r : List ℕ). r ++ rest) (flat_map-cons write x xs)
      ∙ append_assoc (write x) (flat_map write xs) rest) in
      let next : bytes ≡ (before ++ write x) ++ others = first ∙ sym (append_assoc before (write x) others) in
      let place : length (before ++ write x) ≡ length before + size =
      length-append before (write x) ∙ ap (λ (k : ℕ). length before + k) (sized x) in
      go _ _ x _ (one before others x first all.0)
      (go _ _ xs _
      (ap (λ (a : ℕ). fields f size a (length xs)) (sym place) ∙ fields_are (before ++ write x) rest xs next all.1)
      refl)

module _ (mode : Mode) (bytes : List ℕ) where
  move_is : (before rest : List ℕ) (m : Move) → bytes ≡ before ++ (move_bytes m ++ rest)
      → FitsMove m × IsTrue (is_move_inside m mode.width mode.height) → move_at mode bytes (length before) ≡ Good m
  unfolding move_at
  move_is before rest m is keeps =
      go _ _ m _
      (go _ _ (move_bytes m) _ (piece_come before (move_bytes m) rest bytes MOVE_BYTES (length-move_bytes m) is)
      (ap Good (move_is_read m keeps.0)))
      (kept_good (length before) _ m keeps.1)

  pub moves_are : (before rest : List ℕ) (moves : List Move) → bytes ≡ before ++ (flat_map move_bytes moves ++ rest)
      → AllByRecursion (λ m. FitsMove m × IsTrue (is_move_inside m mode.width mode.height)) moves
      → moves_of mode (length moves) bytes (length before) ≡ Good moves
  moves_are = fields_are (move_at mode bytes) move_bytes _ MOVE_BYTES bytes length-move_bytes move_is

  rect_is : (before rest : List ℕ) (r : Rect) → bytes ≡ before ++ (rect_bytes r ++ rest)
      → FitsSides r × IsTrue (is_inside r mode.width mode.height) → rect_at mode bytes (length before) ≡ Good r
  unfolding rect_at
  rect_is before rest r is keeps =
      go _ _ r _
      (go _ _ (rect_bytes r) _ (piece_come before (rect_bytes r) rest bytes RECT_BYTES (length-rect_bytes r) is)
      (ap Good (rect_is_read r keeps.0)))
      (kept_good (length before) _ r keeps.1)

  pub rects_are : (before rest : List ℕ) (rects : List Rect) → bytes ≡ before ++ (flat_map rect_bytes rects ++ rest)
      → AllByRecursion (λ r. FitsSides r × IsTrue (is_inside r mode.width mode.height)) rects
      → rects_of mode (length rects) bytes (length before) ≡ Good rects
  rects_are = fields_are (rect_at mode bytes) rect_bytes _ RECT_BYTES bytes length-rect_bytes rect_is

pub length-pixel_bytes : (colour : ℕ) → length (pixel_bytes colour) ≡ 4
unfolding pixel_bytes
length-pixel_bytes colour = refl

module _ (bytes : List ℕ) where
  pixel_is : (before rest : List ℕ) (colour : ℕ) → bytes ≡ before ++ (pixel_bytes colour ++ rest)
      → colour < COLOURS → pixel_at bytes (length before) ≡ Good colour
  unfolding pixel_at pixel_bytes
  pixel_is before rest colour is small =
      go _ _ (pixel_bytes colour) _ (piece_come before (pixel_bytes colour) rest bytes PIXEL_BYTES refl is)
      (kept_good (length before) true (little_number 3 (pixel_bytes colour)) refl
      ∙ ap Good (little_number-reads_back 3 colour (255 ∷ []) (omega (arith, small))))

  pub pixels_are : (before rest colours : List ℕ) → bytes ≡ before ++ (flat_map pixel_bytes colours ++ rest)
      → AllByRecursion (λ c. c < COLOURS) colours
      → pixels_of (length colours) bytes (length before) ≡ Good colours
  pixels_are = fields_are (pixel_at bytes) pixel_bytes (λ c. c < COLOURS) PIXEL_BYTES bytes length-pixel_bytes pixel_is
