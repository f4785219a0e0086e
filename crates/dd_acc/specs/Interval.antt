-- What was accumulated over an interval.
use Rattle.std.specs.Prelude.{◌≡◌, ℕ, ◌+◌, Bool, false, ◌||◌, List, [], ◌++◌, length, fold}
use Rattle.dd_geom.specs.declared.rect.Move.{Move}
use Rattle.dd_geom.specs.Grid.{Grid}
use Rattle.dd_bits.specs.Area.{nowhere}
use Rattle.dd_ops.specs.declared.operations.Op.{Op}
use Rattle.dd_acc.specs.Effects.{Effect, effects, moves_in, moves, settled, must_round, dirt, is_coalesced}

-- the dirty points, the moves that are told, whether a present had to be rounded, and the number of presents
pub record Interval : Type 0 where
  pub area : Grid Bool
  pub moves : List Move
  pub coalesced : Bool
  pub frames : ℕ

abbrev pub nothing : ℕ → ℕ → Interval
nothing w h = record { area = nowhere w h; moves = []; coalesced = false; frames = 0 }

-- effects more
abbrev pub with_effects : Interval → List Effect → Interval
with_effects i es =
    record {
      area = settled i.area es;
      moves = i.moves ++ moves_in es;
      coalesced = i.coalesced || must_round i.area es;
      frames = i.frames + 1;
    }

-- one present more: as many scrolls stand before it as moves are told, or sixteen and more
abbrev pub with_present : Interval → List Op → Interval
with_present i ops = with_effects i (effects (length i.moves) ops)

-- what the presents of an interval leave, added one by one, is its dirty points, its moves, its flag and their number
abbrev pub Composes : Type 0
Composes =
    (w h : ℕ) (presents : List (List Op))
    → fold with_present (nothing w h) presents
    ≡ record {
      area = dirt w h presents;
      moves = moves presents;
      coalesced = is_coalesced w h presents;
      frames = length presents;
    }
