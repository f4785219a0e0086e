-- The pixels of some rectangles, and the frame of a small list as a chunk, which keeps the rules.
use Rattle.std.proofs.Common.{◌≡◌, ℕ, pos, [], ◌∷◌, refl, arith}
use Rattle.dd_geom.specs.declared.rect.Rect.{Rect}
use Rattle.dd_geom.specs.Grid.{Grid}
use Rattle.dd_bits.specs.CanonicalList.{run_end, same_rows, canonical_list}
use Rattle.dd_bits.specs.Tiles.{tiles}
use Rattle.dd_coal.specs.Power.{least_power_from, power}
use Rattle.dd_ops.specs.declared.operations.Op.TheVariants.{Fill}
use Rattle.dd_acc.specs.Effects.{moves, dirtied, dirt, is_coalesced}
use Rattle.dd_log.specs.declared.events.Event.TheVariants.{Opened}
use Rattle.dd_log.specs.declared.events.Event.TheVariants as events
use Rattle.dd_log.specs.declared.events.Draw.TheVariants.{Present}
use Rattle.dd_log.specs.Desk.{desk_of, desk_after, first_desk}
use Rattle.dd_log.specs.History.{History, legal, may_add}
use Rattle.dd_log.specs.Picture.{state_of, picture, view, presents}
use Rattle.dd_dup.specs.News.{frame, picture_news, dirt_of}
use Rattle.dd_record.specs.Frames.{pixels_in, frame_chunk}
use Rattle.dd_record.specs.Writing.{KeepsRules}
use Rattle.dd_record.proofs.Examples.{two_points, red}
use Rattle.dd_record.proofs.FrameRules.{frames_keep_rules}

abbrev rect : ℕ → ℕ → ℕ → ℕ → Rect
rect l t r b = record { left = pos l; top = pos t; right = pos r; bottom = pos b }

-- four columns and three rows
abbrev twelve : Grid ℕ
twelve = record { width = 4; height = 3; cells = 0 ∷ 1 ∷ 2 ∷ 3 ∷ 10 ∷ 11 ∷ 12 ∷ 13 ∷ 20 ∷ 21 ∷ 22 ∷ 23 ∷ [] }

-- rectangle after rectangle, row after row
in_order : pixels_in twelve (rect 2 0 4 1 ∷ rect 1 1 3 3 ∷ []) ≡ 2 ∷ 3 ∷ 11 ∷ 12 ∷ 21 ∷ 22 ∷ []
unfolding pixels_in
in_order = refl

-- a duplicator is opened on two points, and the left one is filled with red
abbrev filled : History
filled =
    record {
      spec = record { modes = two_points ∷ []; capacity = 3; privileged = [] };
      entries =
          record { actor = 1; step = 1; event = Opened 0 7 }
          ∷ record { actor = 2; step = 1; event = events.Draw (Present (Fill (rect 0 0 1 1) 0xff0000 ∷ [])) }
          ∷ [];
    }

-- its frame is the chunk of which `Examples` writes and reads the bytes
first_frame : frame_chunk (frame filled 0 0) (view filled) ≡ red
unfolding pixels_in picture_news dirt_of canonical_list same_rows run_end tiles least_power_from power moves dirtied
    dirt is_coalesced desk_of desk_after first_desk state_of picture presents
first_frame = refl

keeps_rules : KeepsRules two_points (frame_chunk (frame filled 0 0) (view filled))
unfolding legal may_add desk_of desk_after first_desk
keeps_rules =
    frames_keep_rules filled 0 0 refl
    (record { wide = omega arith; high = omega arith; width = omega arith; height = omega arith; pixels = omega arith })
    (omega arith) (omega arith) refl (omega arith) (omega arith) refl ((tt, tt), ((tt, tt), tt))
