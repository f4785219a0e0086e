-- The sizes of a record's parts, and the chunks of a whole record, written and read: a surface of two points, of which
-- the left one was filled with red.
use Rattle.std.proofs.Common.{◌≡◌, ℕ, pos, false, List, [], ◌∷◌, ◌++◌, Some, None, refl, arith}
use Rattle.dd_geom.specs.Bytes.{rect_bytes, rect_of}
use Rattle.dd_bits.specs.CanonicalList.{run_end, same_rows, canonical_list}
use Rattle.dd_modes.specs.declared.modes.Mode.{Mode}
use Rattle.dd_modes.specs.declared.modes.Rotation.TheVariants.{Identity}
use Rattle.dd_modes.specs.Numbers.{rotation_numbered}
use Rattle.dd_record.specs.declared.chunk.Chunk.TheVariants.{Opening, Frame}
use Rattle.dd_record.specs.declared.chunk.FrameChunk.{FrameChunk}
use Rattle.dd_record.specs.declared.layout.TheConstants.{END_BYTES, OPENING_BYTES, FRAME_HEAD_BYTES, PIXEL_BYTES, SHAPE_HEAD_BYTES}
use Rattle.dd_record.specs.Reading.{Good, Bad, Short, come, kept}
use Rattle.dd_record.specs.Dirt.{is_canonical}
use Rattle.dd_record.specs.Grammar.{width_of, height_of, mode_of, opening_of, last_present_of, last_mouse_of, accumulated_of, coalesced_of, protected_of, pointer_of, meta_of, shape_size_of, move_count_of, rect_count_of, info_of, head_of, rect_at, dirt_of, pixel_at, new_shape_of, frame_chunk_of, frame_of, chunk_of}
use Rattle.dd_record.specs.Writing.{opening_bytes, head_bytes, pixel_bytes, frame_bytes, end_bytes, KeepsRules}

end_size : END_BYTES ≡ 1
end_size = refl

opening_size : OPENING_BYTES ≡ 13
opening_size = refl

head_size : FRAME_HEAD_BYTES ≡ 42
head_size = refl

pixel_size : PIXEL_BYTES ≡ 4
pixel_size = refl

shape_head_size : SHAPE_HEAD_BYTES ≡ 20
shape_head_size = refl

abbrev pub two_points : Mode
two_points = record { width = 2; height = 1; rotation = Identity }

abbrev opening : List ℕ
opening = 1 ∷ 2 ∷ 0 ∷ 0 ∷ 0 ∷ 1 ∷ 0 ∷ 0 ∷ 0 ∷ 1 ∷ 0 ∷ 0 ∷ 0 ∷ []

opening_written : opening_bytes two_points ≡ opening
unfolding opening_bytes
opening_written = refl

opening_read : chunk_of None opening ≡ Good (record { chunk = Opening two_points; used = 13 })
unfolding chunk_of opening_of mode_of rotation_numbered width_of height_of come kept
opening_read = refl

abbrev pub red : FrameChunk
red =
    record {
      info =
          record {
            last_present = 2;
            last_mouse = 0;
            accumulated = 1;
            coalesced = false;
            protected = false;
            pointer = record { position = record { x = pos 0; y = pos 0 }; visible = false };
            meta_size = 16;
            shape_size = 0;
          };
      moves = [];
      dirt = record { left = pos 0; top = pos 0; right = pos 1; bottom = pos 1 } ∷ [];
      pixels = 0xff0000 ∷ [];
      shape = None;
    }

-- it keeps the rules
red_keeps : KeepsRules two_points red
unfolding canonical_list same_rows run_end
red_keeps =
    record {
      info =
          record {
            last_present = omega arith;
            last_mouse = omega arith;
            some = omega arith;
            accumulated = omega arith;
            presents = λ e. omega arith;
            coalesced = λ e. omega arith;
            news = λ e. omega arith;
            shape = λ e. e;
            x = omega arith;
            y = omega arith;
          };
      meta = refl;
      shape_size = refl;
      few_moves = omega arith;
      few_rects = omega arith;
      moves = tt;
      rects =
          ((record { left = omega arith; top = omega arith; right = omega arith; bottom = omega arith }, refl), tt);
      dirt = refl;
      pixels = refl;
      colours = (omega arith, tt);
      shape = tt;
    }

-- all of the frame chunk but the last byte of its pixel
abbrev most : List ℕ
most =
    2 ∷ 2 ∷ 0 ∷ 0 ∷ 0 ∷ 0 ∷ 0 ∷ 0 ∷ 0 ∷ 0 ∷ 0 ∷ 0 ∷ 0 ∷ 0 ∷ 0 ∷ 0 ∷ 0 ∷ 1 ∷ 0 ∷ 0 ∷ 0 ∷ 0 ∷ 0
    ∷ 0 ∷ 0 ∷ 0 ∷ 0 ∷ 0 ∷ 0 ∷ 0 ∷ 0 ∷ 0 ∷ 16 ∷ 0 ∷ 0 ∷ 0 ∷ 0 ∷ 0 ∷ 0 ∷ 0 ∷ 0 ∷ 1
    ∷ 0 ∷ 0 ∷ 0 ∷ 0 ∷ 0 ∷ 0 ∷ 0 ∷ 0 ∷ 1 ∷ 0 ∷ 0 ∷ 0 ∷ 1 ∷ 0 ∷ 0 ∷ 0
    ∷ 0 ∷ 0 ∷ 255 ∷ []

frame_written : frame_bytes red ≡ most ++ 255 ∷ []
unfolding frame_bytes head_bytes pixel_bytes rect_bytes
frame_written = refl

frame_read : chunk_of (Some two_points) (most ++ 255 ∷ 0 ∷ []) ≡ Good (record { chunk = Frame red; used = 62 })
unfolding chunk_of frame_of frame_chunk_of head_of info_of last_present_of last_mouse_of accumulated_of coalesced_of
    protected_of pointer_of meta_of shape_size_of move_count_of rect_count_of dirt_of rect_at rect_of is_canonical
    canonical_list same_rows run_end pixel_at new_shape_of come kept
frame_read = refl

-- the pixel, 58 bytes behind the tag, is bad once its fourth byte is there
bad_pixel : chunk_of (Some two_points) (most ++ 254 ∷ []) ≡ Bad 58
unfolding chunk_of frame_of frame_chunk_of head_of info_of last_present_of last_mouse_of accumulated_of coalesced_of
    protected_of pointer_of meta_of shape_size_of move_count_of rect_count_of dirt_of rect_at rect_of is_canonical
    canonical_list same_rows run_end pixel_at new_shape_of come kept
bad_pixel = refl

not_whole : chunk_of (Some two_points) most ≡ Short
unfolding chunk_of frame_of frame_chunk_of head_of info_of last_present_of last_mouse_of accumulated_of coalesced_of
    protected_of pointer_of meta_of shape_size_of move_count_of rect_count_of dirt_of rect_at rect_of is_canonical
    canonical_list same_rows run_end pixel_at new_shape_of come kept
not_whole = refl

-- no frame stands before an opening
early : chunk_of None most ≡ Bad 0
unfolding chunk_of come
early = refl

end_written : end_bytes ≡ 0 ∷ []
unfolding end_bytes
end_written = refl
