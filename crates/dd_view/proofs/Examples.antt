-- A whole record, read and played: of a surface of two points the left one was filled with red.
use Rattle.std.proofs.Common.{◌≡◌, ℕ, List, [], ◌∷◌, ◌++◌, length, take, Some, None, Err, refl}
use Rattle.dd_geom.specs.Bytes.{rect_of}
use Rattle.dd_geom.specs.Grid.{Grid}
use Rattle.dd_bits.specs.CanonicalList.{run_end, same_rows, canonical_list}
use Rattle.dd_modes.specs.declared.modes.Mode.{Mode}
use Rattle.dd_modes.specs.declared.modes.Rotation.TheVariants.{Identity}
use Rattle.dd_log.specs.Desk.{unset}
use Rattle.dd_record.specs.declared.fault.RecordFault.TheVariants.{BadField, Truncated}
use Rattle.dd_record.specs.Reading.{come, kept}
use Rattle.dd_record.specs.Dirt.{is_canonical}
use Rattle.dd_modes.specs.Numbers.{rotation_numbered}
use Rattle.dd_record.specs.Grammar.{width_of, height_of, mode_of, opening_of, last_present_of, last_mouse_of, accumulated_of, coalesced_of, protected_of, pointer_of, meta_of, shape_size_of, move_count_of, rect_count_of, info_of, head_of, rect_at, dirt_of, pixel_at, new_shape_of, frame_chunk_of, frame_of, chunk_of}
use Rattle.dd_record.specs.Writing.{magic}
use Rattle.dd_view.specs.declared.stage.Stage.TheVariants.{Ended}
use Rattle.dd_view.specs.Player.{Reader, begun_next, read_on, reader_of, feed_answer, finish_answer}

abbrev whole : List ℕ
whole =
    68 ∷ 68 ∷ 82 ∷ 49
    ∷ 1 ∷ 2 ∷ 0 ∷ 0 ∷ 0 ∷ 1 ∷ 0 ∷ 0 ∷ 0 ∷ 1 ∷ 0 ∷ 0 ∷ 0
    ∷ 2 ∷ 2 ∷ 0 ∷ 0 ∷ 0 ∷ 0 ∷ 0 ∷ 0 ∷ 0 ∷ 0 ∷ 0 ∷ 0 ∷ 0 ∷ 0 ∷ 0 ∷ 0 ∷ 0 ∷ 1 ∷ 0 ∷ 0 ∷ 0 ∷ 0 ∷ 0
    ∷ 0 ∷ 0 ∷ 0 ∷ 0 ∷ 0 ∷ 0 ∷ 0 ∷ 0 ∷ 0 ∷ 16 ∷ 0 ∷ 0 ∷ 0 ∷ 0 ∷ 0 ∷ 0 ∷ 0 ∷ 0 ∷ 1
    ∷ 0 ∷ 0 ∷ 0 ∷ 0 ∷ 0 ∷ 0 ∷ 0 ∷ 0 ∷ 1 ∷ 0 ∷ 0 ∷ 0 ∷ 1 ∷ 0 ∷ 0 ∷ 0
    ∷ 0 ∷ 0 ∷ 255 ∷ 255
    ∷ 0 ∷ []

abbrev two_points : Mode
two_points = record { width = 2; height = 1; rotation = Identity }

abbrev red_left : Grid ℕ
red_left = record { width = 2; height = 1; cells = 0xff0000 ∷ 0 ∷ [] }

abbrev at_end : Reader
at_end =
    record {
      asked = 1;
      stage = Ended;
      at = 80;
      rest = [];
      played =
          record {
            screen = Some (record { mode = two_points; surface = red_left; pointer = unset; shape = None });
            frames = 1;
            shown = Some (record { surface = red_left; mode = two_points });
          };
    }

read_whole : reader_of 1 whole ≡ at_end
unfolding read_on begun_next magic chunk_of opening_of mode_of rotation_numbered width_of height_of frame_of frame_chunk_of
    head_of info_of last_present_of last_mouse_of accumulated_of coalesced_of protected_of pointer_of meta_of
    shape_size_of move_count_of rect_count_of dirt_of rect_at rect_of is_canonical canonical_list same_rows
    run_end pixel_at new_shape_of come kept
read_whole = refl

-- the frame chunk stands at byte 17
kept_of_75 : length (reader_of 1 (take 75 whole)).rest ≡ 58
unfolding read_on begun_next magic chunk_of opening_of mode_of rotation_numbered width_of height_of frame_of frame_chunk_of
    head_of info_of last_present_of last_mouse_of accumulated_of coalesced_of protected_of pointer_of meta_of
    shape_size_of move_count_of rect_count_of dirt_of rect_at rect_of is_canonical canonical_list same_rows
    run_end pixel_at new_shape_of come kept
kept_of_75 = refl

cut_off : finish_answer (reader_of 1 (take 77 whole)) ≡ Err (Truncated 77)
unfolding read_on begun_next magic chunk_of opening_of mode_of rotation_numbered width_of height_of frame_of frame_chunk_of
    head_of info_of last_present_of last_mouse_of accumulated_of coalesced_of protected_of pointer_of meta_of
    shape_size_of move_count_of rect_count_of dirt_of rect_at rect_of is_canonical canonical_list same_rows
    run_end pixel_at new_shape_of come kept
cut_off = refl

byte_behind : feed_answer (reader_of 1 (whole ++ 7 ∷ [])) ≡ Err (BadField 80)
unfolding read_on begun_next magic chunk_of opening_of mode_of rotation_numbered width_of height_of frame_of frame_chunk_of
    head_of info_of last_present_of last_mouse_of accumulated_of coalesced_of protected_of pointer_of meta_of
    shape_size_of move_count_of rect_count_of dirt_of rect_at rect_of is_canonical canonical_list same_rows
    run_end pixel_at new_shape_of come kept
byte_behind = refl

-- three bytes of the magic, and none
few : finish_answer (reader_of 1 (take 3 whole)) ≡ Err (Truncated 3)
unfolding read_on begun_next magic
few = refl

none : finish_answer (reader_of 1 []) ≡ Err (Truncated 0)
unfolding read_on
none = refl
