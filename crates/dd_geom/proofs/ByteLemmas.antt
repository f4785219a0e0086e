-- What is written of a rectangle or a move is what is read, and the other way round.
use Rattle.std.proofs.Common.{◌≡◌, ℕ, ◌+◌, ◌<◌, ◌≤◌, ◌^◌, List, [], ◌++◌, length, take, drop, get_or, ℤ, FitsSigned, refl, ap, sym, ◌∙◌, inl, inr, arith, length-drop}
use Rattle.std.specs.Int.{w32, cast_signed, cast_unsigned, from_le_bytes}
use Rattle.std.specs.List.{All}
use Rattle.std.proofs.lemmas.Bool.{cases_lt}
use Rattle.std.proofs.lemmas.Int.{to_z-of_z, of_z-to_z}
use Rattle.std.proofs.Math.Facts.{Fits-of_z}
use Rattle.std.proofs.lemmas.List.{length-take-le, get_or_past, drop-drop, take-append-drop, take_all}
use Rattle.std.proofs.Math.Seq.{take-add}
use Rattle.std.proofs.lemmas.List.Elements.{All-take, All-drop}
use Rattle.std.proofs.lemmas.Nat.{le_bytes_4}
use Rattle.byteorder.specs.Endian.{little_bytes, little_number}
use Rattle.byteorder.specs.Numbers.{little_from-lt, little_from-take, little_number-reads_back}
use Rattle.dd_geom.specs.declared.rect.Point.{Point}
use Rattle.dd_geom.specs.declared.rect.Rect.{Rect}
use Rattle.dd_geom.specs.declared.rect.Move.{Move}
use Rattle.dd_geom.specs.Bytes.{coordinate_bytes, point_bytes, rect_bytes, move_bytes, coordinate_at, point_of, rect_of, move_of, RectIsRead, RectIsWritten, MoveIsRead, MoveIsWritten}

-- a coordinate's bytes, read, are the coordinate
coordinate_read : (z : ℤ) (rest : List ℕ) → FitsSigned w32 z → coordinate_at (coordinate_bytes z ++ rest) 0 ≡ z
coordinate_read z rest fits =
    let bits : cast_unsigned w32 z < 256 ^ 4 = omega (arith, Fits-of_z fits) in
    ap (cast_signed w32) (little_number-reads_back 4 (cast_unsigned w32 z) rest bits) ∙ to_z-of_z w32 z fits

-- each byte of some is small, and so is what a read past them gives
byte_small : (bytes : List ℕ) → All (λ b. b < 256) bytes → (i : ℕ) → get_or bytes i 0 < 256
byte_small bytes small i = elim (cases_lt i (length bytes)) [
  | inl within ↦ small i 0 within
  | inr past ↦ rw (get_or_past bytes i 0 past) (omega arith)
]

-- four bytes are those of the coordinate that they are
coordinate_written : (bytes : List ℕ) (n : ℕ) → n + 4 ≤ length bytes → All (λ b. b < 256) bytes
    → coordinate_bytes (coordinate_at bytes n) ≡ take 4 (drop n bytes)
coordinate_written bytes n long small =
    let rest : List ℕ = drop n bytes in
    let enough : 4 ≤ length rest = omega (arith, length-drop n bytes) in
    let all : All (λ b. b < 256) rest = All-drop (λ b. b < 256) n bytes small in
    let front : All (λ b. b < 256) (take 4 rest) = All-take (λ b. b < 256) 4 rest all in
    let fits : little_number 4 rest < 2 ^ 32 = omega (arith, little_from-lt 0 4 rest (byte_small rest all)) in
    let same : little_number 4 (take 4 rest) ≡ little_number 4 rest = little_from-take 0 4 4 rest (omega arith) in
    let value : little_number 4 rest ≡ from_le_bytes w32 (take 4 rest) = sym same ∙ omega arith in
    ap (λ (k : ℕ). little_bytes 4 k) (of_z-to_z w32 (little_number 4 rest) fits)
    ∙ le_bytes_4 (take 4 rest) (little_number 4 rest) (length-take-le 4 rest enough)
    (byte_small (take 4 rest) front) value

-- points and rectangles with equal coordinates are equal
same_point : (p q : Point) → p.x ≡ q.x → p.y ≡ q.y → p ≡ q
same_point p q x y = ap (λ (a : ℤ). record { x = a; y = p.y }) x ∙ ap (λ (b : ℤ). record { x = q.x; y = b }) y

same_rect : (r s : Rect) → r.left ≡ s.left → r.top ≡ s.top → r.right ≡ s.right → r.bottom ≡ s.bottom → r ≡ s
same_rect r s left top right bottom =
    ap (λ (a : ℤ). record { left = a; top = r.top; right = r.right; bottom = r.bottom }) left
    ∙ ap (λ (a : ℤ). record { left = s.left; top = a; right = r.right; bottom = r.bottom }) top
    ∙ ap (λ (a : ℤ). record { left = s.left; top = s.top; right = a; bottom = r.bottom }) right
    ∙ ap (λ (a : ℤ). record { left = s.left; top = s.top; right = s.right; bottom = a }) bottom

-- the bytes of a point or a rectangle, read, are the point or the rectangle
point_read : (p : Point) (rest : List ℕ) → FitsSigned w32 p.x → FitsSigned w32 p.y
    → point_of (point_bytes p ++ rest) ≡ p
point_read p rest x y =
    same_point (point_of (point_bytes p ++ rest)) p
    (coordinate_read p.x (coordinate_bytes p.y ++ rest) x)
    (coordinate_read p.y rest y)

pub rect_is_read : RectIsRead
unfolding rect_of rect_bytes
rect_is_read r fits =
    same_rect (rect_of (rect_bytes r)) r
    (coordinate_read r.left
    (coordinate_bytes r.top ++ (coordinate_bytes r.right ++ coordinate_bytes r.bottom)) fits.left)
    (coordinate_read r.top (coordinate_bytes r.right ++ coordinate_bytes r.bottom) fits.top)
    (coordinate_read r.right (coordinate_bytes r.bottom) fits.right)
    (coordinate_read r.bottom [] fits.bottom)

-- eight bytes of a point stand before those of a rectangle
after_point : (p : Point) (rest : List ℕ) → drop 8 (point_bytes p ++ rest) ≡ rest
after_point p rest = refl

pub same_move : (m n : Move) → m.source ≡ n.source → m.dest ≡ n.dest → m ≡ n
same_move m n source dest =
    ap (λ (p : Point). record { source = p; dest = m.dest }) source
    ∙ ap (λ (r : Rect). record { source = n.source; dest = r }) dest

pub move_is_read : MoveIsRead
unfolding move_of move_bytes
move_is_read m fits =
    same_move (move_of (move_bytes m)) m
    (point_read m.source (rect_bytes m.dest) fits.x fits.y)
    (ap rect_of (after_point m.source (rect_bytes m.dest)) ∙ rect_is_read m.dest fits.dest)

-- the first bytes are those of the point or the rectangle that they are
point_written : (bytes : List ℕ) → 8 ≤ length bytes → All (λ b. b < 256) bytes
    → point_bytes (point_of bytes) ≡ take 8 bytes
point_written bytes long small =
    let x : coordinate_bytes (coordinate_at bytes 0) ≡ take 4 bytes = coordinate_written bytes 0 (omega arith) small in
    let y : coordinate_bytes (coordinate_at bytes 4) ≡ take 4 (drop 4 bytes) =
    coordinate_written bytes 4 (omega arith) small in
    ap (λ (a : List ℕ). a ++ coordinate_bytes (coordinate_at bytes 4)) x
    ∙ ap (λ (b : List ℕ). take 4 bytes ++ b) y
    ∙ sym (take-add 4 4 bytes)

-- four pieces of four bytes are the first sixteen
four_pieces : (bytes a b c d : List ℕ) → a ≡ take 4 bytes → b ≡ take 4 (drop 4 bytes) → c ≡ take 4 (drop 8 bytes)
    → d ≡ take 4 (drop 12 bytes) → a ++ (b ++ (c ++ d)) ≡ take 16 bytes
four_pieces bytes a b c d first second third fourth =
    let last : take 8 (drop 8 bytes) ≡ take 4 (drop 8 bytes) ++ take 4 (drop 12 bytes) =
    take-add 4 4 (drop 8 bytes) ∙ ap (λ (r : List ℕ). take 4 (drop 8 bytes) ++ take 4 r) (drop-drop 4 8 bytes) in
    let most : take 12 (drop 4 bytes) ≡ take 4 (drop 4 bytes) ++ take 8 (drop 8 bytes) =
    take-add 4 8 (drop 4 bytes) ∙ ap (λ (r : List ℕ). take 4 (drop 4 bytes) ++ take 8 r) (drop-drop 4 4 bytes) in
    rw (first, second, third, fourth)
    (sym (ap (λ (r : List ℕ). take 4 bytes ++ (take 4 (drop 4 bytes) ++ r)) last)
    ∙ sym (ap (λ (r : List ℕ). take 4 bytes ++ r) most)
    ∙ sym (take-add 4 12 bytes))

rect_written : (bytes : List ℕ) → 16 ≤ length bytes → All (λ b. b < 256) bytes
    → rect_bytes (rect_of bytes) ≡ take 16 bytes
unfolding rect_of rect_bytes
rect_written bytes long small =
    four_pieces bytes _ _ _ (coordinate_bytes (coordinate_at bytes 12))
    (coordinate_written bytes 0 (omega arith) small)
    (coordinate_written bytes 4 (omega arith) small)
    (coordinate_written bytes 8 (omega arith) small)
    (coordinate_written bytes 12 (omega arith) small)

pub rect_is_written : RectIsWritten
rect_is_written bytes are =
    rect_written bytes (omega (arith, are.count)) are.small ∙ take_all 16 bytes (omega (arith, are.count))

pub move_is_written : MoveIsWritten
unfolding move_of move_bytes
move_is_written bytes are =
    let count : length bytes ≡ 24 = are.count in
    let rest : rect_bytes (rect_of (drop 8 bytes)) ≡ drop 8 bytes =
    rect_is_written (drop 8 bytes)
    (record { count = omega (arith, length-drop 8 bytes); small = All-drop (λ b. b < 256) 8 bytes are.small }) in
    ap (λ (a : List ℕ). a ++ rect_bytes (rect_of (drop 8 bytes))) (point_written bytes (omega arith) are.small)
    ∙ ap (λ (a : List ℕ). take 8 bytes ++ a) rest
    ∙ take-append-drop 8 bytes

-- a rectangle and a move have as many bytes as their constants say
pub length-rect_bytes : (r : Rect) → length (rect_bytes r) ≡ 16
unfolding rect_bytes
length-rect_bytes r = refl

pub length-move_bytes : (m : Move) → length (move_bytes m) ≡ 24
unfolding move_bytes rect_bytes
length-move_bytes m = refl
