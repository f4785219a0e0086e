-- Records of small scripts, byte for byte, and what their frames show.
use Rattle.std.proofs.Common.{◌≡◌, ℕ, pos, true, List, [], ◌∷◌, ◌++◌, replicate, refl}
use Rattle.dd_geom.specs.declared.rect.Rect.{Rect}
use Rattle.dd_geom.specs.Bytes.{rect_bytes}
use Rattle.dd_modes.specs.declared.modes.Mode.{Mode}
use Rattle.dd_modes.specs.declared.modes.Rotation.TheVariants.{Identity}
use Rattle.dd_pointer.specs.declared.kind.Kind.TheVariants.{Monochrome}
use Rattle.dd_pointer.specs.Compositing.{composited}
use Rattle.dd_ops.specs.declared.operations.Op.{Op}
use Rattle.dd_ops.specs.declared.operations.Op.TheVariants.{Fill, Cover, Scroll}
use Rattle.dd_bits.specs.CanonicalList.{run_end, same_rows, canonical_list}
use Rattle.dd_bits.specs.Tiles.{tiles}
use Rattle.dd_coal.specs.Power.{least_power_from, power}
use Rattle.dd_acc.specs.Effects.{dirtied, dirt, is_coalesced, moves}
use Rattle.dd_log.specs.declared.events.Draw.TheVariants.{Present}
use Rattle.dd_log.specs.declared.events.Draw.TheVariants as drawings
use Rattle.dd_log.specs.Desk.{first_desk, desk_after, desk_of}
use Rattle.dd_log.specs.Picture.{picture, presents, state_of}
use Rattle.dd_dup.specs.News.{dirt_of, picture_news}
use Rattle.dd_record.specs.Frames.{pixels_in}
use Rattle.dd_record.specs.Writing.{magic, record_bytes, opening_bytes, head_bytes, pixel_bytes, frame_bytes, end_bytes}
use Rattle.dd_calls.specs.declared.steps.Script.{Script}
use Rattle.dd_calls.specs.declared.steps.Step.{Step}
use Rattle.dd_calls.specs.declared.steps.Step.TheVariants.{Draw, Call}
use Rattle.dd_calls.specs.declared.steps.ClientCall.TheVariants.{Duplicate, Close, Acquire, Release}
use Rattle.dd_station.specs.Run.{start, next}
use Rattle.dd_trace.specs.Trace.{trace}
use Rattle.dd_view.specs.Playing.{Shown}
use Rattle.dd_prog.specs.Recording.{record_of}
use Rattle.dd_playback.specs.FramesShown.{frames_shown}

-- a script of clients with these applications, in these modes
abbrev script : List Mode → List ℕ → List Step → Script
script modes clients steps =
    record {
      spec = record { modes = modes; capacity = 100; privileged = [] };
      clients = clients;
      steps = steps;
    }

abbrev sized : ℕ → ℕ → Mode
sized w h = record { width = w; height = h; rotation = Identity }

abbrev rect : ℕ → ℕ → ℕ → ℕ → Rect
rect l t r b = record { left = pos l; top = pos t; right = pos r; bottom = pos b }

abbrev present : List Op → Step
present ops = Draw (Present ops)

-- what is shown in a mode
abbrev shows : Mode → List ℕ → Shown
shows mode cells =
    record { surface = record { width = mode.width; height = mode.height; cells = cells }; mode = mode }

-- the frames of client 1 show this
abbrev Shows : Script → List Shown → Type 0
Shows s shown = frames_shown 1 (start s.spec s.clients) s.steps ≡ shown

-- two points, of which the left one is filled with red; a second client opens nothing
abbrev one_fill : Script
one_fill =
    script (sized 2 1 ∷ []) (1 ∷ 2 ∷ [])
    (Call 1 Duplicate ∷ present (Fill (rect 0 0 1 1) 0xff0000 ∷ []) ∷ Call 1 (Acquire 0) ∷ [])

-- the opening, and the frame: its head, its rectangle and its pixel
abbrev opening : List ℕ
opening = 1 ∷ 2 ∷ 0 ∷ 0 ∷ 0 ∷ 1 ∷ 0 ∷ 0 ∷ 0 ∷ 1 ∷ 0 ∷ 0 ∷ 0 ∷ []

abbrev frame : List ℕ
frame =
    2 ∷ 2 ∷ 0 ∷ 0 ∷ 0 ∷ 0 ∷ 0 ∷ 0 ∷ 0 ∷ 0 ∷ 0 ∷ 0 ∷ 0 ∷ 0 ∷ 0 ∷ 0 ∷ 0 ∷ 1 ∷ 0 ∷ 0 ∷ 0 ∷ 0 ∷ 0
    ∷ 0 ∷ 0 ∷ 0 ∷ 0 ∷ 0 ∷ 0 ∷ 0 ∷ 0 ∷ 0 ∷ 16 ∷ 0 ∷ 0 ∷ 0 ∷ 0 ∷ 0 ∷ 0 ∷ 0 ∷ 0 ∷ 1
    ∷ 0 ∷ 0 ∷ 0 ∷ 0 ∷ 0 ∷ 0 ∷ 0 ∷ 0 ∷ 1 ∷ 0 ∷ 0 ∷ 0 ∷ 1 ∷ 0 ∷ 0 ∷ 0
    ∷ 0 ∷ 0 ∷ 255 ∷ 255 ∷ []

recorded_bytes : record_of one_fill 1 ≡ (68 ∷ 68 ∷ 82 ∷ 49 ∷ []) ++ opening ++ frame ++ 0 ∷ []
unfolding trace record_bytes magic opening_bytes head_bytes pixel_bytes frame_bytes rect_bytes end_bytes pixels_in
    next picture state_of desk_of desk_after first_desk presents dirtied dirt is_coalesced moves canonical_list
    same_rows run_end tiles power least_power_from dirt_of picture_news
recorded_bytes = refl

nothing_recorded : record_of one_fill 2 ≡ 68 ∷ 68 ∷ 82 ∷ 49 ∷ 0 ∷ []
unfolding trace record_bytes magic end_bytes next
nothing_recorded = refl

-- a scroll is seen with what it brought; after a change of the mode a new duplicator sees a black surface, on which a
-- cover shows black
abbrev two_openings : Script
two_openings =
    script (sized 4 1 ∷ sized 2 1 ∷ []) (1 ∷ [])
    (Call 1 Duplicate ∷ present (Fill (rect 0 0 2 1) 0xff0000 ∷ []) ∷ Call 1 (Acquire 0) ∷ Call 1 Release
    ∷ present (Scroll (record { source = record { x = pos 0; y = pos 0 }; dest = rect 2 0 4 1 }) ∷ [])
    ∷ Call 1 (Acquire 0) ∷ Call 1 Release ∷ Draw (drawings.Mode 1) ∷ Call 1 Close ∷ Call 1 Duplicate
    ∷ present (Cover (rect 0 0 1 1) (0xffffff ∷ []) ∷ []) ∷ Call 1 (Acquire 0) ∷ [])

three_frames : Shows two_openings
    (shows (sized 4 1) (0xff0000 ∷ 0xff0000 ∷ 0 ∷ 0 ∷ []) ∷ shows (sized 4 1) (replicate 4 0xff0000)
    ∷ shows (sized 2 1) (0 ∷ 0 ∷ []) ∷ [])
unfolding next picture state_of desk_of desk_after first_desk presents dirtied dirt is_coalesced moves canonical_list
    same_rows run_end tiles power least_power_from dirt_of picture_news
three_frames = refl

-- the pointer's shape, of which one point lies on the surface, inverts it there
abbrev shape_over_the_corner : Script
shape_over_the_corner =
    script (sized 2 2 ∷ []) (1 ∷ [])
    (Call 1 Duplicate ∷ present (Fill (rect 0 0 2 2) 0x102030 ∷ [])
    ∷ Draw (drawings.Shape (record {
      kind = Monochrome;
      width = 2;
      height = 4;
      hot = record { x = pos 0; y = pos 0 };
      bytes = 0xc0 ∷ 0x00 ∷ 0x80 ∷ 0x80 ∷ [];
    }))
    ∷ Draw (drawings.Pointer (record { x = pos 1; y = pos 1 }) true) ∷ Call 1 (Acquire 0) ∷ [])

inverted : Shows shape_over_the_corner
    (shows (sized 2 2) (0x102030 ∷ 0x102030 ∷ 0x102030 ∷ 0xefdfcf ∷ []) ∷ [])
unfolding next picture state_of desk_of desk_after first_desk presents dirtied dirt is_coalesced moves canonical_list
    same_rows run_end tiles power least_power_from dirt_of picture_news composited
inverted = refl
