-- How many operations a present has, and small lists of them, fitted, drawn and veiled by the definitions.
use Rattle.std.proofs.Common.{◌≡◌, ℕ, true, false, pos, List, [], ◌∷◌, ◌++◌, Some, None, refl}
use Rattle.dd_geom.specs.declared.rect.Rect.{Rect}
use Rattle.dd_geom.specs.declared.rect.Move.{Move}
use Rattle.dd_geom.specs.Grid.{rows}
use Rattle.dd_grid.specs.Drawing.{black, seen, any_hidden, hidden_points}
use Rattle.dd_ops.specs.declared.operations.Op.{Op}
use Rattle.dd_ops.specs.declared.operations.Op.TheVariants.{Fill, Blit, Cover, Scroll}
use Rattle.dd_ops.specs.declared.lists.TheConstants.{MAX_OPS}
use Rattle.dd_ops.specs.Operations.{fits, all_fit, first_unfit, drawn}
use Rattle.dd_ops.specs.Veil.{veiled, covers_coloured}

abbrev rect : ℕ → ℕ → ℕ → ℕ → Rect
rect l t r b = record { left = pos l; top = pos t; right = pos r; bottom = pos b }

abbrev from : ℕ → ℕ → Rect → Move
from x y dest = record { source = record { x = pos x; y = pos y }; dest = dest }

max_ops : MAX_OPS ≡ 64
max_ops = refl

abbrev two : List Op
two = Fill (rect 1 1 3 2) 16711680 ∷ Fill (rect 2 0 4 2) 7 ∷ []

-- two fills over black: the later one covers the earlier one where they overlap
later_covers :
    rows (seen (drawn (black 4 3) two))
    ≡ (0 ∷ 0 ∷ 7 ∷ 7 ∷ []) ∷ (0 ∷ 16711680 ∷ 7 ∷ 7 ∷ []) ∷ (0 ∷ 0 ∷ 0 ∷ 0 ∷ []) ∷ []
later_covers = refl

both_fit : all_fit 4 3 two ≡ true
both_fit = refl

none_unfit : first_unfit 4 3 two ≡ None
none_unfit = refl

-- the second fill is one column past the right side
second_outside :
    first_unfit 4 3 (Fill (rect 1 1 3 2) 16711680 ∷ Fill (rect 3 0 5 1) 7 ∷ Fill (rect 3 0 5 1) 8 ∷ [])
    ≡ Some 1
second_outside = refl

-- as high as the surface is wide
sides_exchanged : fits 4 3 (Fill (rect 0 0 3 4) 7) ≡ false
sides_exchanged = refl

-- the greatest colour, and one more
white : fits 4 3 (Fill (rect 0 0 4 3) 16777215) ≡ true
white = refl

no_colour : fits 4 3 (Fill (rect 0 0 4 3) 16777216) ≡ false
no_colour = refl

-- a fill, an image and a cover: the cover is seen as black
abbrev three : List Op
three = Fill (rect 0 0 4 1) 16711680 ∷ Blit (rect 0 1 3 2) (1 ∷ 2 ∷ 3 ∷ []) ∷ Cover (rect 2 0 4 2) (4 ∷ 5 ∷ 6 ∷ 7 ∷ []) ∷ []

image_and_cover :
    rows (seen (drawn (black 4 3) three))
    ≡ (16711680 ∷ 16711680 ∷ 0 ∷ 0 ∷ []) ∷ (1 ∷ 2 ∷ 0 ∷ 0 ∷ []) ∷ (0 ∷ 0 ∷ 0 ∷ 0 ∷ []) ∷ []
image_and_cover = refl

hidden_then : any_hidden (drawn (black 4 3) three) ≡ true
hidden_then = refl

-- an image drawn over part of a cover is seen
part_seen :
    rows (seen (drawn (drawn (black 2 1) (Cover (rect 0 0 2 1) (4 ∷ 5 ∷ []) ∷ [])) (Blit (rect 1 0 2 1) (6 ∷ []) ∷ [])))
    ≡ (0 ∷ 6 ∷ []) ∷ []
part_seen = refl

-- a scroll over itself takes what stood at its source before, hidden points too
abbrev slide : Op
slide = Scroll (from 1 0 (rect 0 1 3 3))

over_itself :
    rows (seen (drawn (drawn (black 4 3) three) (slide ∷ [])))
    ≡ (16711680 ∷ 16711680 ∷ 0 ∷ 0 ∷ []) ∷ (16711680 ∷ 0 ∷ 0 ∷ 0 ∷ []) ∷ (2 ∷ 0 ∷ 0 ∷ 0 ∷ []) ∷ []
over_itself = refl

-- the image has one colour for two points
bad_image : first_unfit 4 3 (Fill (rect 1 1 3 2) 7 ∷ Blit (rect 1 1 3 2) (1 ∷ []) ∷ slide ∷ []) ≡ Some 1
bad_image = refl

-- an image of no colours never fits, also for a rectangle with no point
no_image : fits 4 3 (Blit (rect 1 1 3 2) []) ≡ false
no_image = refl

no_points : fits 4 3 (Blit (rect 1 1 1 2) []) ≡ false
no_points = refl

-- a move has to come from inside, and to lie inside
from_outside : fits 4 3 (Scroll (from 2 0 (rect 0 0 3 1))) ≡ false
from_outside = refl

to_outside : fits 4 3 (Scroll (from 0 0 (rect 2 0 5 1))) ≡ false
to_outside = refl

-- the veil of a list: as many black colours in its cover, and the image as it is
three_veiled :
    veiled three
    ≡ Fill (rect 0 0 4 1) 16711680 ∷ Blit (rect 0 1 3 2) (1 ∷ 2 ∷ 3 ∷ [])
    ∷ Cover (rect 2 0 4 2) (0 ∷ 0 ∷ 0 ∷ 0 ∷ []) ∷ []
three_veiled = refl

-- after a scroll too, the same points are hidden: a cover of black is a cover
still_hidden :
    rows (hidden_points (drawn (black 4 3) (veiled (three ++ slide ∷ []))))
    ≡ (false ∷ false ∷ true ∷ true ∷ []) ∷ (false ∷ true ∷ true ∷ true ∷ []) ∷ (false ∷ true ∷ true ∷ false ∷ []) ∷ []
still_hidden = refl

-- a cover that hides no colour doesn't fit, but its veil does
abbrev no_cover : List Op
no_cover = Cover (rect 1 1 3 2) (1 ∷ 16777216 ∷ []) ∷ []

not_coloured : covers_coloured no_cover ≡ false
not_coloured = refl

veil_of_none : (first_unfit 4 3 no_cover ≡ Some 0) × (first_unfit 4 3 (veiled no_cover) ≡ None)
veil_of_none = (refl, refl)
