-- Which operations fit a surface, and what they draw.
use Rattle.std.specs.Prelude.{◌≡◌, ℕ, Bool, ◌&&◌, ◌==◌, not, nat_lt, List, length, fold, Option, position, IsTrue}
use Rattle.std.specs.List.{list_all}
use Rattle.dd_geom.specs.declared.rect.Rect.{Rect}
use Rattle.dd_geom.specs.Grid.{Grid}
use Rattle.dd_geom.specs.Rect.{is_inside, is_move_inside, points}
use Rattle.dd_grid.specs.declared.cell.TheConstants.{COLOURS}
use Rattle.dd_grid.specs.Cell.{Cell}
use Rattle.dd_grid.specs.Drawing.{IsPicture, filled, blitted, covered, moved_cells, seen, painted, imaged, moved}
use Rattle.dd_ops.specs.declared.operations.Op.{Op}
use Rattle.dd_ops.specs.declared.operations.Op.TheVariants.{Fill, Blit, Cover, Scroll}

-- each of them is a colour
abbrev pub are_colours : List ℕ → Bool
are_colours colours = list_all (λ c. nat_lt c COLOURS) colours

-- an image for a rectangle of a surface: one colour for each of its points
abbrev pub is_image : ℕ → ℕ → Rect → List ℕ → Bool
is_image w h rect colours = is_inside rect w h && length colours == points rect && are_colours colours

-- the rectangle or move lies inside, there are as many colours as points, and each is a colour
abbrev pub fits : ℕ → ℕ → Op → Bool
fits w h (Fill rect colour) = is_inside rect w h && nat_lt colour COLOURS
fits w h (Blit rect colours) = is_image w h rect colours
fits w h (Cover rect colours) = is_image w h rect colours
fits w h (Scroll mv) = is_move_inside mv w h

-- each of them fits
abbrev pub all_fit : ℕ → ℕ → List Op → Bool
all_fit w h ops = list_all (fits w h) ops

-- the place of the first that doesn't fit, if there is one
abbrev pub first_unfit : ℕ → ℕ → List Op → Option ℕ
first_unfit w h ops = position (λ op. not (fits w h op)) ops

-- what one operation makes of a picture, and what a list of them makes, in order
abbrev pub drawn_by : Grid Cell → Op → Grid Cell
drawn_by p (Fill rect colour) = filled p rect colour
drawn_by p (Blit rect colours) = blitted p rect colours
drawn_by p (Cover rect colours) = covered p rect colours
drawn_by p (Scroll mv) = moved_cells p mv

abbrev pub drawn : Grid Cell → List Op → Grid Cell
drawn p ops = fold drawn_by p ops

-- what they make of a surface of what is seen: an image that is hidden is black
abbrev pub seen_drawn_by : Grid ℕ → Op → Grid ℕ
seen_drawn_by s (Fill rect colour) = painted s rect colour
seen_drawn_by s (Blit rect colours) = imaged s rect colours
seen_drawn_by s (Cover rect colours) = painted s rect 0
seen_drawn_by s (Scroll mv) = moved s mv

abbrev pub seen_drawn : Grid ℕ → List Op → Grid ℕ
seen_drawn s ops = fold seen_drawn_by s ops

-- what is seen of a picture after operations is what they make of what was seen of it
abbrev pub SeenFollows : Type 0
SeenFollows = (p : Grid Cell) (ops : List Op) → seen (drawn p ops) ≡ seen_drawn (seen p) ops

-- what operations that fit make of a picture is a picture
abbrev pub DrawnIsPicture : Type 0
DrawnIsPicture =
    (p : Grid Cell) (ops : List Op) → IsPicture p → IsTrue (all_fit p.width p.height ops) → IsPicture (drawn p ops)
