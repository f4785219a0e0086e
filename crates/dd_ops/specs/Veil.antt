-- The veil of operations: all of them, with black in place of each colour that a cover hides.
use Rattle.std.specs.Prelude.{◌≡◌, ℕ, Bool, true, List, map, length}
use Rattle.std.specs.List.{list_all}
use Rattle.dd_geom.specs.declared.rect.Rect.{Rect}
use Rattle.dd_geom.specs.Grid.{Grid}
use Rattle.dd_grid.specs.Cell.{Cell}
use Rattle.dd_grid.specs.Drawing.{seen, hidden_points}
use Rattle.dd_ops.specs.declared.operations.Op.{Op}
use Rattle.dd_ops.specs.declared.operations.Op.TheVariants.{Fill, Blit, Cover, Scroll}
use Rattle.dd_ops.specs.Operations.{are_colours, fits, first_unfit, drawn}

-- a cover hides black, and all else stays
abbrev pub veiled_by : Op → Op
veiled_by (Fill rect colour) = Fill rect colour
veiled_by (Blit rect colours) = Blit rect colours
veiled_by (Cover rect colours) = Cover rect (map (λ c. 0) colours)
veiled_by (Scroll mv) = Scroll mv

-- each operation of a list
abbrev pub veiled : List Op → List Op
veiled ops = map veiled_by ops

-- what a cover hides are colours; any other operation hides none
abbrev pub covers_are_colours : Op → Bool
covers_are_colours (Fill rect colour) = true
covers_are_colours (Blit rect colours) = true
covers_are_colours (Cover rect colours) = are_colours colours
covers_are_colours (Scroll mv) = true

-- each cover of a list hides colours
abbrev pub covers_coloured : List Op → Bool
covers_coloured ops = list_all covers_are_colours ops

-- covers of as many colours have one veil: nothing is left of the colours themselves
abbrev pub VeilHides : Type 0
VeilHides =
    (rect : Rect) (some other : List ℕ) → length some ≡ length other
    → veiled_by (Cover rect some) ≡ veiled_by (Cover rect other)

-- on pictures of which the same is seen, the same is seen after the veil as after the operations
abbrev pub VeilIsSeen : Type 0
VeilIsSeen = (p q : Grid Cell) (ops : List Op) → seen q ≡ seen p → seen (drawn q (veiled ops)) ≡ seen (drawn p ops)

-- on pictures that hide the same points, the same points are hidden after the veil as after the operations
abbrev pub VeilIsHidden : Type 0
VeilIsHidden =
    (p q : Grid Cell) (ops : List Op) → hidden_points q ≡ hidden_points p
    → hidden_points (drawn q (veiled ops)) ≡ hidden_points (drawn p ops)

-- an operation that fits still fits when veiled, and where its covers hide colours it fits no more often
pub record FitsVeiled (w h : ℕ) (op : Op) : Type 0 where
  pub still : fits w h op ≡ true → fits w h (veiled_by op) ≡ true
  pub same : covers_are_colours op ≡ true → fits w h (veiled_by op) ≡ fits w h op

-- so where all covers hide colours, the first operation that doesn't fit is the same
abbrev pub VeilUnfit : Type 0
VeilUnfit =
    (w h : ℕ) (ops : List Op) → covers_coloured ops ≡ true → first_unfit w h (veiled ops) ≡ first_unfit w h ops
