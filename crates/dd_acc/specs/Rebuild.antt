-- How a surface is rebuilt from the one before: the moves in order, then the dirty points copied.
use Rattle.std.specs.Prelude.{◌≡◌, ℕ, ◌<◌, Bool, true, if◌then◌else◌, List, fold}
use Rattle.std.specs.List.{list_any}
use Rattle.dd_geom.specs.declared.rect.Rect.{Rect}
use Rattle.dd_geom.specs.declared.rect.Move.{Move}
use Rattle.dd_geom.specs.Rect.{has}
use Rattle.dd_geom.specs.Grid.{Grid, grid, value_at}
use Rattle.dd_grid.specs.Cell.{Cell}
use Rattle.dd_grid.specs.Drawing.{moved, seen}
use Rattle.dd_ops.specs.declared.operations.Op.{Op}
use Rattle.dd_ops.specs.Operations.{drawn}
use Rattle.dd_acc.specs.Effects.{all_effects, drawn_afresh, moves, presents_fit}

-- a point of one of the rectangles
abbrev pub any_has : List Rect → ℕ → ℕ → Bool
any_has rects x y = list_any (λ r. has r x y) rects

-- the dirty points copied from the newer surface
abbrev pub copied : Grid ℕ → List Rect → Grid ℕ → Grid ℕ
copied s rects newer =
    grid s.width s.height (λ x y. if any_has rects x y then value_at 0 newer x y else value_at 0 s x y)

-- a surface after moves, one after another
abbrev pub all_moved : Grid ℕ → List Move → Grid ℕ
all_moved s ms = fold moved s ms

abbrev pub rebuild : Grid ℕ → List Move → List Rect → Grid ℕ → Grid ℕ
rebuild s ms rects newer = copied (all_moved s ms) rects newer

-- the rectangles have each point of a surface that the effects of the presents draw afresh
abbrev pub HasDrawn : ℕ → ℕ → List (List Op) → List Rect → Type 0
HasDrawn w h presents rects =
    (x y : ℕ) → x < w → y < h → drawn_afresh (all_effects presents) x y ≡ true → any_has rects x y ≡ true

-- For each picture, and each list of presents that fit it: what is seen of the picture, with the moves of the
-- presents drawn in order, and then any points copied among which are those that were drawn afresh, is what is seen
-- after the presents.
abbrev pub MovesAndDirtRebuild : Type 0
MovesAndDirtRebuild =
    (p : Grid Cell) (presents : List (List Op)) (rects : List Rect) → presents_fit p.width p.height presents ≡ true
    → HasDrawn p.width p.height presents rects
    → rebuild (seen p) (moves presents) rects (seen (fold drawn p presents)) ≡ seen (fold drawn p presents)
