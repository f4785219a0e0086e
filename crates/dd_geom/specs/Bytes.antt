-- Rectangles and moves as bytes: each coordinate is four bytes, the lowest first, and they stand in the API's order.
use Rattle.std.specs.Prelude.{◌≡◌, ℕ, ℤ, ◌<◌, List, [], ◌∷◌, ◌++◌, length, drop}
use Rattle.std.specs.Int.{w32, cast_signed, cast_unsigned}
use Rattle.std.specs.List.{flat_map, All}
use Rattle.byteorder.specs.Endian.{little_bytes, little_number}
use Rattle.dd_geom.specs.declared.rect.Point.{Point}
use Rattle.dd_geom.specs.declared.rect.Rect.{Rect}
use Rattle.dd_geom.specs.declared.rect.Move.{Move}
use Rattle.dd_geom.specs.declared.rect.TheConstants.{RECT_BYTES, MOVE_BYTES}
use Rattle.dd_geom.specs.Rect.{FitsSides, FitsMove}

-- the four bytes of a coordinate
abbrev pub coordinate_bytes : ℤ → List ℕ
coordinate_bytes z = little_bytes 4 (cast_unsigned w32 z)

-- the bytes of a point (POINT)
abbrev pub point_bytes : Point → List ℕ
point_bytes p = flat_map coordinate_bytes (p.x ∷ p.y ∷ [])

-- the bytes of a rectangle (RECT)
unfoldable pub rect_bytes : Rect → List ℕ
rect_bytes r = flat_map coordinate_bytes (r.left ∷ r.top ∷ r.right ∷ r.bottom ∷ [])

-- the bytes of a move (DXGI_OUTDUPL_MOVE_RECT)
unfoldable pub move_bytes : Move → List ℕ
move_bytes m = point_bytes m.source ++ rect_bytes m.dest

-- the coordinate whose bytes begin at a place
abbrev pub coordinate_at : List ℕ → ℕ → ℤ
coordinate_at bytes n = cast_signed w32 (little_number 4 (drop n bytes))

-- the point that bytes begin with
abbrev pub point_of : List ℕ → Point
point_of bytes = record { x = coordinate_at bytes 0; y = coordinate_at bytes 4 }

-- the rectangle that bytes begin with
unfoldable pub rect_of : List ℕ → Rect
rect_of bytes =
    record {
      left = coordinate_at bytes 0;
      top = coordinate_at bytes 4;
      right = coordinate_at bytes 8;
      bottom = coordinate_at bytes 12;
    }

-- the move that bytes begin with
unfoldable pub move_of : List ℕ → Move
move_of bytes = record { source = point_of bytes; dest = rect_of (drop 8 bytes) }

-- so many bytes
pub record AreBytes (n : ℕ) (bytes : List ℕ) : Type 0 where
  pub count : length bytes ≡ n
  pub small : All (λ b. b < 256) bytes

-- reading undoes writing
abbrev pub RectIsRead : Type 0
RectIsRead = (r : Rect) → FitsSides r → rect_of (rect_bytes r) ≡ r

abbrev pub MoveIsRead : Type 0
MoveIsRead = (m : Move) → FitsMove m → move_of (move_bytes m) ≡ m

-- writing undoes reading
abbrev pub RectIsWritten : Type 0
RectIsWritten = (bytes : List ℕ) → AreBytes RECT_BYTES bytes → rect_bytes (rect_of bytes) ≡ bytes

abbrev pub MoveIsWritten : Type 0
MoveIsWritten = (bytes : List ℕ) → AreBytes MOVE_BYTES bytes → move_bytes (move_of bytes) ≡ bytes
