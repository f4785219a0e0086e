-- What was written is read again: single fields, an opening chunk and a frame's head.
use Rattle.std.proofs.Common.{◌≡◌, ℕ, ◌+◌, ◌*◌, ◌<◌, ◌≤◌, ◌^◌, Bool, true, cond, ℤ, FitsSigned, List, [], ◌++◌, length, take, drop, Option, refl, sym, ap, ◌∙◌, arith}
use Rattle.std.specs.Int.{w32, cast_signed, cast_unsigned}
use Rattle.std.proofs.lemmas.Bool.{le-leb, and_from}
use Rattle.std.proofs.lemmas.Int.{to_z-of_z}
use Rattle.std.proofs.lemmas.List.{append-nil}
use Rattle.std.proofs.Math.Facts.{Fits-of_z}
use Rattle.byteorder.specs.Endian.{little_bytes, little_number}
use Rattle.byteorder.specs.Numbers.{little_number-reads_back}
use Rattle.dd_geom.specs.Bytes.{coordinate_bytes, coordinate_at}
use Rattle.dd_geom.specs.declared.rect.TheConstants.{MAX_SIDE, MAX_PIXELS}
use Rattle.dd_geom.specs.Rect.{IsSize}
use Rattle.dd_modes.specs.declared.modes.Mode.{Mode}
use Rattle.dd_modes.specs.declared.modes.Rotation.{Rotation}
use Rattle.dd_modes.specs.declared.modes.Rotation.TheVariants.{Unspecified, Identity, Rotate90, Rotate180, Rotate270}
use Rattle.dd_record.specs.declared.chunk.Chunk.TheVariants.{Opening, End}
use Rattle.dd_record.specs.Reading.{Reading, Good, Bad, Short, ◌>>=◌, come, kept, number, coordinate}
use Rattle.dd_record.specs.Grammar.{width_of, height_of, rotation_of, mode_of, opening_of, tagged, chunk_of}
use Rattle.dd_modes.specs.Numbers.{rotation_number, rotation_numbered}
use Rattle.dd_record.specs.Writing.{end_bytes, opening_bytes}

pub come_is : (at size : ℕ) (bytes field : List ℕ) → at + size ≤ length bytes → take size (drop at bytes) ≡ field
    → come at size bytes ≡ Good field
unfolding come
come_is at size bytes field within is =
    ap (λ b. cond b (Good (take size (drop at bytes))) Short) (le-leb _ _ within) ∙ ap Good is

pub kept_good : {A : Type 0} (at : ℕ) (rule : Bool) (x : A) → rule ≡ true → kept at rule x ≡ Good x
unfolding kept
kept_good at rule x e = ap (λ b. cond b (Good x) (Bad at)) e

-- a number that was written
pub number_is : (at size n : ℕ) (bytes : List ℕ) → n < 256 ^ size → at + size ≤ length bytes
    → take size (drop at bytes) ≡ little_bytes size n → number at size bytes ≡ Good n
number_is at size n bytes small within is =
    ap (λ r. r >>= λ field. Good (little_number size field)) (come_is at size bytes (little_bytes size n) within is)
    ∙ ap Good (ap (little_number size) (sym (append-nil (little_bytes size n)))
    ∙ little_number-reads_back size n [] small)

pub coordinate_is_read : (z : ℤ) (rest : List ℕ) → FitsSigned w32 z
    → coordinate_at (coordinate_bytes z ++ rest) 0 ≡ z
coordinate_is_read z rest fits =
    let bits : cast_unsigned w32 z < 256 ^ 4 = omega (arith, Fits-of_z fits) in
    ap (cast_signed w32) (little_number-reads_back 4 (cast_unsigned w32 z) rest bits) ∙ to_z-of_z w32 z fits

pub coordinate_is : (at : ℕ) (z : ℤ) (bytes : List ℕ) → FitsSigned w32 z → at + 4 ≤ length bytes
    → take 4 (drop at bytes) ≡ coordinate_bytes z → coordinate at bytes ≡ Good z
coordinate_is at z bytes fits within is =
    ap (λ r. r >>= λ field. Good (coordinate_at field 0)) (come_is at 4 bytes (coordinate_bytes z) within is)
    ∙ ap Good (ap (λ field. coordinate_at field 0) (sym (append-nil (coordinate_bytes z)))
    ∙ coordinate_is_read z [] fits)

-- a field and those behind it
pub go : {A B : Type 0} (r : Reading A) (f : A → Reading B) (x : A) (y : Reading B) → r ≡ Good x → f x ≡ y
    → (r >>= f) ≡ y
go r f x y is rest = ap (λ r. r >>= f) is ∙ rest

rotation_is : (r : Rotation) → rotation_of (rotation_number r) ≡ Good r
unfolding rotation_numbered
rotation_is Unspecified = refl
rotation_is Identity = refl
rotation_is Rotate90 = refl
rotation_is Rotate180 = refl
rotation_is Rotate270 = refl

rotation_small : (r : Rotation) → rotation_number r < 256 ^ 4
rotation_small Unspecified = omega arith
rotation_small Identity = omega arith
rotation_small Rotate90 = omega arith
rotation_small Rotate180 = omega arith
rotation_small Rotate270 = omega arith

pub end_is_read : (mode : Option Mode) (rest : List ℕ)
    → chunk_of mode (end_bytes ++ rest) ≡ Good (record { chunk = End; used = length end_bytes })
unfolding chunk_of end_bytes
end_is_read mode rest =
    go _ (tagged mode (end_bytes ++ rest)) 0 _ (number_is 0 1 0 _ (omega arith) (omega arith) refl) refl

pub opening_is_read : (before : Option Mode) (mode : Mode) (rest : List ℕ) → IsSize mode.width mode.height
    → chunk_of before (opening_bytes mode ++ rest)
    ≡ Good (record { chunk = Opening mode; used = length (opening_bytes mode) })
unfolding chunk_of opening_of mode_of width_of height_of opening_bytes
opening_is_read before mode rest size =
    let bytes : List ℕ = opening_bytes mode ++ rest in
    let long : 13 ≤ length bytes = omega arith in
    let wide = and_from _ _ (le-leb 1 mode.width size.wide) (le-leb mode.width MAX_SIDE size.width) in
    let high = and_from _ _ (and_from _ _ (le-leb 1 mode.height size.high) (le-leb mode.height MAX_SIDE size.height))
    (le-leb (mode.width * mode.height) MAX_PIXELS size.pixels) in
    go _ (tagged before bytes) 1 _ (number_is 0 1 1 bytes (omega arith) (omega arith) refl)
    (go _ _ mode _
    (go _ _ mode.width _
    (go _ _ mode.width _ (number_is 1 4 mode.width bytes (omega (arith, size.width)) (omega (arith, long)) refl)
    (kept_good 1 _ mode.width wide))
    (go _ _ mode.height _
    (go _ _ mode.height _ (number_is 5 4 mode.height bytes (omega (arith, size.height)) (omega (arith, long)) refl)
    (kept_good 5 _ mode.height high))
    (go _ _ mode.rotation _
    (go _ rotation_of (rotation_number mode.rotation) _
    (number_is 9 4 (rotation_number mode.rotation) bytes (rotation_small mode.rotation) (omega (arith, long)) refl)
    (rotation_is mode.rotation))
    refl)))
    refl)
