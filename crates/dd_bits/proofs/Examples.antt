-- The canonical lists of small sets on a surface of 4 by 3, computed from the definition.
use Rattle.std.proofs.Common.{◌≡◌, ℕ, pos, [], ◌∷◌, Bool, refl}
use Rattle.dd_geom.specs.declared.rect.Rect.{Rect}
use Rattle.dd_geom.specs.Grid.{Grid}
use Rattle.dd_bits.specs.Area.{nowhere, with_rect}
use Rattle.dd_bits.specs.CanonicalList.{run_end, same_rows, canonical_list}
use Rattle.dd_bits.specs.Tiles.{tiles}
use Rattle.dd_bits.specs.declared.commands.AreaCommand.TheVariants.{Add, Remove, MoveOver, Tiles}
use Rattle.dd_bits.specs.Commands.{made_by}

rect : ℕ → ℕ → ℕ → ℕ → Rect
rect l t r b = record { left = pos l; top = pos t; right = pos r; bottom = pos b }

-- one rectangle on the empty set, and two
one : Rect → Grid Bool
one a = with_rect (nowhere 4 3) a

both : Rect → Rect → Grid Bool
both a b = with_rect (one a) b

-- the empty set has no rectangle
nothing : canonical_list (nowhere 4 3) ≡ []
unfolding canonical_list same_rows run_end
nothing = refl

-- a square of two rows is one rectangle
square : canonical_list (one (rect 0 0 2 2)) ≡ rect 0 0 2 2 ∷ []
unfolding canonical_list same_rows run_end one rect
square = refl

-- the whole surface is one
whole : canonical_list (one (rect 0 0 4 3)) ≡ rect 0 0 4 3 ∷ []
unfolding canonical_list same_rows run_end one rect
whole = refl

-- two runs of one row, with a gap between them
gap : canonical_list (both (rect 2 1 4 2) (rect 0 1 1 2)) ≡ rect 0 1 1 2 ∷ rect 2 1 4 2 ∷ []
unfolding canonical_list same_rows run_end one both rect
gap = refl

-- rectangles that touch make one run
joined : canonical_list (both (rect 2 1 4 2) (rect 0 1 2 2)) ≡ rect 0 1 4 2 ∷ []
unfolding canonical_list same_rows run_end one both rect
joined = refl

-- a full row, up to the surface's edge
full_row : canonical_list (one (rect 0 2 4 3)) ≡ rect 0 2 4 3 ∷ []
unfolding canonical_list same_rows run_end one rect
full_row = refl

-- a band is cut where its rows differ, whichever of the rectangles was there first
corner : canonical_list (both (rect 0 0 1 2) (rect 0 0 3 1)) ≡ rect 0 0 3 1 ∷ rect 0 1 1 2 ∷ []
unfolding canonical_list same_rows run_end one both rect
corner = refl

corner_turned : canonical_list (both (rect 0 0 3 1) (rect 0 0 1 2)) ≡ rect 0 0 3 1 ∷ rect 0 1 1 2 ∷ []
unfolding canonical_list same_rows run_end one both rect
corner_turned = refl

-- a cross has three bands
cross : canonical_list (both (rect 1 0 2 3) (rect 0 1 4 2)) ≡ rect 1 0 2 1 ∷ rect 0 1 4 2 ∷ rect 1 2 2 3 ∷ []
unfolding canonical_list same_rows run_end one both rect
cross = refl

-- equal rows apart from each other stay two bands
apart : canonical_list (both (rect 0 0 2 1) (rect 0 2 2 3)) ≡ rect 0 0 2 1 ∷ rect 0 2 2 3 ∷ []
unfolding canonical_list same_rows run_end one both rect
apart = refl

-- a column that is longer than the one beside it is cut where that one begins
beside : canonical_list (both (rect 0 0 1 3) (rect 2 1 4 3)) ≡ rect 0 0 1 1 ∷ rect 0 1 1 3 ∷ rect 2 1 4 3 ∷ []
unfolding canonical_list same_rows run_end one both rect
beside = refl

-- each command once
commands : canonical_list (made_by 4 3 (Add (rect 0 0 2 1) ∷ MoveOver (record { source = record { x = pos 0; y = pos 0 }; dest = rect 1 1 3 2 }) ∷ Remove (rect 2 1 3 2) ∷ Tiles 2 ∷ [])) ≡ rect 0 0 2 2 ∷ []
unfolding canonical_list same_rows run_end tiles rect
commands = refl
