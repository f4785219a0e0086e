-- The sizes of buffers, and one rectangle put into buffers of several lengths.
use Rattle.std.proofs.Common.{◌≡◌, List, [], ◌∷◌, Ok, Err, pos, refl}
use Rattle.dd_geom.specs.declared.rect.Rect.{Rect}
use Rattle.dd_geom.specs.Bytes.{rect_bytes}
use Rattle.dd_meta.specs.declared.buffer.TheConstants.{MOVES_BUFFER, RECTS_BUFFER, MAX_METADATA}
use Rattle.dd_meta.specs.Buffer.{bytes_of_rects, put}

moves_buffer : MOVES_BUFFER ≡ 384
moves_buffer = refl

rects_buffer : RECTS_BUFFER ≡ 1024
rects_buffer = refl

max_metadata : MAX_METADATA ≡ 1408
max_metadata = refl

abbrev one : List Rect
one = record { left = pos 1; top = pos 1; right = pos 3; bottom = pos 2 } ∷ []

-- a byte too short: all stays
short :
    put (bytes_of_rects one) (1 ∷ 2 ∷ 3 ∷ 4 ∷ 5 ∷ 6 ∷ 7 ∷ 8 ∷ 9 ∷ 10 ∷ 11 ∷ 12 ∷ 13 ∷ 14 ∷ 15 ∷ [])
    ≡ (Err 16, 1 ∷ 2 ∷ 3 ∷ 4 ∷ 5 ∷ 6 ∷ 7 ∷ 8 ∷ 9 ∷ 10 ∷ 11 ∷ 12 ∷ 13 ∷ 14 ∷ 15 ∷ [])
unfolding rect_bytes
short = refl

-- just long enough
full :
    put (bytes_of_rects one) (1 ∷ 2 ∷ 3 ∷ 4 ∷ 5 ∷ 6 ∷ 7 ∷ 8 ∷ 9 ∷ 10 ∷ 11 ∷ 12 ∷ 13 ∷ 14 ∷ 15 ∷ 16 ∷ [])
    ≡ (Ok 16, 1 ∷ 0 ∷ 0 ∷ 0 ∷ 1 ∷ 0 ∷ 0 ∷ 0 ∷ 3 ∷ 0 ∷ 0 ∷ 0 ∷ 2 ∷ 0 ∷ 0 ∷ 0 ∷ [])
unfolding rect_bytes
full = refl

-- longer: the last two stay
longer :
    put (bytes_of_rects one) (1 ∷ 2 ∷ 3 ∷ 4 ∷ 5 ∷ 6 ∷ 7 ∷ 8 ∷ 9 ∷ 10 ∷ 11 ∷ 12 ∷ 13 ∷ 14 ∷ 15 ∷ 16 ∷ 17 ∷ 18 ∷ [])
    ≡ (Ok 16, 1 ∷ 0 ∷ 0 ∷ 0 ∷ 1 ∷ 0 ∷ 0 ∷ 0 ∷ 3 ∷ 0 ∷ 0 ∷ 0 ∷ 2 ∷ 0 ∷ 0 ∷ 0 ∷ 17 ∷ 18 ∷ [])
unfolding rect_bytes
longer = refl

-- nothing fits into every buffer
nothing : put (bytes_of_rects []) [] ≡ (Ok 0, [])
nothing = refl
