-- The hidden points of a picture, brought forward by its operations without its colours.
use Rattle.std.specs.Prelude.{◌≡◌, ◌*◌, ◌↔◌, Bool, false, List, length, fold}
use Rattle.dd_geom.specs.Grid.{Grid}
use Rattle.dd_grid.specs.Cell.{Cell}
use Rattle.dd_grid.specs.Drawing.{any_hidden, hidden_points}
use Rattle.dd_bits.specs.Area.{IsNowhere, with_rect, without_rect, moved_over}
use Rattle.dd_ops.specs.declared.operations.Op.{Op}
use Rattle.dd_ops.specs.declared.operations.Op.TheVariants.{Fill, Blit, Cover, Scroll}
use Rattle.dd_ops.specs.Operations.{drawn}

-- the hidden points after an operation: what is filled or blitted over shows again, what is covered is hidden, and a
-- scroll carries hidden points along
abbrev pub hidden_by : Grid Bool → Op → Grid Bool
hidden_by g (Fill rect colour) = without_rect g rect
hidden_by g (Blit rect colours) = without_rect g rect
hidden_by g (Cover rect colours) = with_rect g rect
hidden_by g (Scroll mv) = moved_over g mv

-- and after a list of them, in order
abbrev pub hidden_after : Grid Bool → List Op → Grid Bool
hidden_after g ops = fold hidden_by g ops

-- the hidden points of a picture that operations are drawn on are those of the picture before, brought forward
abbrev pub HiddenFollows : Type 0
HiddenFollows = (p : Grid Cell) (ops : List Op) → hidden_points (drawn p ops) ≡ hidden_after (hidden_points p) ops

-- a picture with a cell for each point has no hidden cell exactly where its hidden points are the empty set
abbrev pub NoneHidden : Type 0
NoneHidden =
    (p : Grid Cell) → length p.cells ≡ p.width * p.height → (any_hidden p ≡ false) ↔ IsNowhere (hidden_points p)
