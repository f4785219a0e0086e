-- How many moves a frame has, and small intervals on a surface of 4 by 3 points: where points come from, what is dirty,
-- what is told as a move, and what is rebuilt.
use Rattle.std.proofs.Common.{◌≡◌, ℕ, true, false, pos, List, [], ◌∷◌, length, replicate, map, ◌+◌, ◌*◌, refl}
use Rattle.dd_geom.specs.declared.rect.Rect.{Rect}
use Rattle.dd_geom.specs.declared.rect.Move.{Move}
use Rattle.dd_geom.specs.Grid.{Grid, rows}
use Rattle.dd_grid.specs.Drawing.{black, blank, seen}
use Rattle.dd_bits.specs.Area.{nowhere}
use Rattle.dd_bits.specs.CanonicalList.{run_end, same_rows, canonical_list}
use Rattle.dd_bits.specs.Tiles.{tiles}
use Rattle.dd_coal.specs.Power.{least_power_from, power}
use Rattle.dd_ops.specs.declared.operations.Op.{Op}
use Rattle.dd_ops.specs.declared.operations.Op.TheVariants.{Fill, Blit, Cover, Scroll}
use Rattle.dd_ops.specs.Operations.{drawn}
use Rattle.std.specs.List.{fold, range_with_len}
use Rattle.dd_acc.specs.declared.interval.TheConstants.{MAX_MOVES}
use Rattle.dd_acc.specs.Effects.{over, shifted, fresh, kept, origin, dirtied, dirt, moves, any_reaches, is_coalesced}
use Rattle.dd_acc.specs.Hidden.{hidden_after}
use Rattle.dd_acc.specs.Rebuild.{all_moved, rebuild}

max_moves : MAX_MOVES ≡ 16
max_moves = refl

abbrev rect : ℕ → ℕ → ℕ → ℕ → Rect
rect l t r b = record { left = pos l; top = pos t; right = pos r; bottom = pos b }

abbrev from : ℕ → ℕ → Rect → Move
from x y dest = record { source = record { x = pos x; y = pos y }; dest = dest }

-- a red fill, and one of another colour that overlaps it
abbrev red : List Op
red = Fill (rect 1 1 3 2) 16711680 ∷ []

abbrev corner : List Op
corner = Fill (rect 2 0 4 2) 7 ∷ []

-- no present, and a present that draws nothing
no_dirt : canonical_list (dirt 4 3 []) ≡ []
unfolding dirt dirtied canonical_list same_rows run_end tiles power least_power_from
no_dirt = refl

empty_present : canonical_list (dirt 4 3 ([] ∷ [])) ≡ []
unfolding dirt dirtied canonical_list same_rows run_end tiles power least_power_from
empty_present = refl

one_present : canonical_list (dirt 4 3 (red ∷ [])) ≡ rect 1 1 3 2 ∷ []
unfolding dirt dirtied canonical_list same_rows run_end tiles power least_power_from
one_present = refl

-- two presents that overlap
two_presents : canonical_list (dirt 4 3 (red ∷ corner ∷ [])) ≡ rect 2 0 4 1 ∷ rect 1 1 4 2 ∷ []
unfolding dirt dirtied canonical_list same_rows run_end tiles power least_power_from
two_presents = refl

-- what two presents dirty is dirty after one present of both
one_of_both : canonical_list (dirt 4 3 ((Fill (rect 1 1 3 2) 16711680 ∷ Fill (rect 2 0 4 2) 7 ∷ []) ∷ [])) ≡ rect 2 0 4 1 ∷ rect 1 1 4 2 ∷ []
unfolding dirt dirtied canonical_list same_rows run_end tiles power least_power_from
one_of_both = refl

-- an image and a cover are drawn like a fill
image_and_cover : canonical_list (dirt 4 3 ((Blit (rect 0 0 1 1) (1 ∷ []) ∷ Cover (rect 2 2 4 3) (1 ∷ 2 ∷ []) ∷ []) ∷ [])) ≡ rect 0 0 1 1 ∷ rect 2 2 4 3 ∷ []
unfolding dirt dirtied canonical_list same_rows run_end tiles power least_power_from
image_and_cover = refl

-- a scroll of what is clean is a move and leaves no dirt
abbrev alone : List (List Op)
alone = (Scroll (from 0 0 (rect 2 0 4 1)) ∷ []) ∷ []

alone_moves : moves alone ≡ from 0 0 (rect 2 0 4 1) ∷ []
unfolding moves
alone_moves = refl

alone_dirt : canonical_list (dirt 4 3 alone) ≡ []
unfolding dirt dirtied canonical_list same_rows run_end tiles power least_power_from
alone_dirt = refl

-- a scroll carries the dirt of its source along, also where it overlaps itself
abbrev carried : List (List Op)
carried = (Fill (rect 0 0 2 1) 16711680 ∷ []) ∷ (Scroll (from 0 0 (rect 1 0 3 1)) ∷ []) ∷ []

carried_moves : moves carried ≡ from 0 0 (rect 1 0 3 1) ∷ []
unfolding moves
carried_moves = refl

carried_dirt : canonical_list (dirt 4 3 carried) ≡ rect 0 0 3 1 ∷ []
unfolding dirt dirtied canonical_list same_rows run_end tiles power least_power_from
carried_dirt = refl

-- no dirt stays under a destination whose source is clean
abbrev covered_up : List (List Op)
covered_up = (Fill (rect 2 0 3 1) 16711680 ∷ []) ∷ (Scroll (from 0 0 (rect 2 0 3 1)) ∷ []) ∷ []

covered_up_dirt : canonical_list (dirt 4 3 covered_up) ≡ []
unfolding dirt dirtied canonical_list same_rows run_end tiles power least_power_from
covered_up_dirt = refl

-- seventeen presents of one scroll each: sixteen moves, and the last is a draw of its destination
abbrev down : Op
down = Scroll (from 0 0 (rect 0 1 4 2))

abbrev seventeen : List (List Op)
seventeen = replicate 17 (down ∷ [])

sixteen_moves : moves seventeen ≡ replicate 16 (from 0 0 (rect 0 1 4 2))
unfolding moves
sixteen_moves = refl

seventeenth_is_dirt : canonical_list (dirt 4 3 seventeen) ≡ rect 0 1 4 2 ∷ []
unfolding dirt dirtied canonical_list same_rows run_end tiles power least_power_from
seventeenth_is_dirt = refl

-- all in one present they count alike
seventeen_at_once : moves (replicate 17 down ∷ []) ≡ replicate 16 (from 0 0 (rect 0 1 4 2))
unfolding moves
seventeen_at_once = refl

-- what is drawn between scrolls counts for none
fills_between : length (moves ((replicate 9 down) ∷ red ∷ (Fill (rect 0 0 1 1) 7 ∷ replicate 9 down) ∷ [])) ≡ 16
unfolding moves
fills_between = refl

-- a point that either rectangle draws, and points that both leave where they are
first_draws : origin (over (rect 1 1 3 2) ∷ over (rect 2 0 4 2) ∷ []) 1 1 ≡ fresh
first_draws = refl

second_draws : origin (over (rect 1 1 3 2) ∷ over (rect 2 0 4 2) ∷ []) 3 0 ≡ fresh
second_draws = refl

left_edge_stays : origin (over (rect 1 1 3 2) ∷ over (rect 2 0 4 2) ∷ []) 0 1 ≡ kept 0 1
left_edge_stays = refl

bottom_stays : origin (over (rect 1 1 3 2) ∷ over (rect 2 0 4 2) ∷ []) 2 2 ≡ kept 2 2
bottom_stays = refl

-- through a shift: a kept point's source, and a drawn point that was shifted
shifted_kept : origin (shifted (from 0 1 (rect 2 0 4 1)) ∷ []) 3 0 ≡ kept 1 1
shifted_kept = refl

shifted_drawn : origin (over (rect 1 1 3 2) ∷ shifted (from 0 1 (rect 2 0 4 1)) ∷ []) 3 0 ≡ fresh
shifted_drawn = refl

-- two shifts, the later one followed back first
twice_shifted : origin (shifted (from 0 0 (rect 1 0 2 1)) ∷ shifted (from 1 0 (rect 3 2 4 3)) ∷ []) 3 2 ≡ kept 0 0
twice_shifted = refl

-- a black surface, with the dirty points copied from the newer one, is the newer one
abbrev newer : Grid ℕ
newer = seen (drawn (black 4 3) red)

rebuilt_red : rebuild (blank 4 3) [] (rect 1 1 3 2 ∷ []) newer ≡ newer
rebuilt_red = refl

-- from the runs themselves, after two presents
abbrev newest : Grid ℕ
newest = seen (drawn (drawn (black 4 3) red) corner)

rebuilt_both : rebuild (blank 4 3) [] (canonical_list (dirt 4 3 (red ∷ corner ∷ []))) newest ≡ newest
unfolding dirt dirtied canonical_list same_rows run_end tiles power least_power_from
rebuilt_both = refl

-- without the rectangle it stays black
not_rebuilt : rebuild (blank 4 3) [] [] newer ≡ blank 4 3
not_rebuilt = refl

-- by a move and its dirt
abbrev scrolled_once : Grid ℕ
scrolled_once = seen (fold drawn (black 4 3) carried)

rebuilt_scrolled : rebuild (blank 4 3) (moves carried) (canonical_list (dirt 4 3 carried)) scrolled_once ≡ scrolled_once
unfolding moves dirt dirtied canonical_list same_rows run_end tiles power least_power_from
rebuilt_scrolled = refl

-- two moves of one frame are drawn in order: the other way round they give another surface
abbrev red_seen : Grid ℕ
red_seen = seen (drawn (black 4 3) (Fill (rect 0 0 1 1) 16711680 ∷ []))

abbrev first_move : Move
first_move = from 0 0 (rect 1 0 2 1)

abbrev second_move : Move
second_move = from 1 0 (rect 3 2 4 3)

in_order : rows (all_moved red_seen (first_move ∷ second_move ∷ [])) ≡ (16711680 ∷ 16711680 ∷ 0 ∷ 0 ∷ []) ∷ (0 ∷ 0 ∷ 0 ∷ 0 ∷ []) ∷ (0 ∷ 0 ∷ 0 ∷ 16711680 ∷ []) ∷ []
in_order = refl

newest_first : rows (all_moved red_seen (second_move ∷ first_move ∷ [])) ≡ (16711680 ∷ 16711680 ∷ 0 ∷ 0 ∷ []) ∷ (0 ∷ 0 ∷ 0 ∷ 0 ∷ []) ∷ (0 ∷ 0 ∷ 0 ∷ 0 ∷ []) ∷ []
newest_first = refl

-- dirt is where something was drawn or scrolled to, and nowhere else
in_reach : any_reaches carried 2 0 ≡ true
in_reach = refl

out_of_reach : any_reaches carried 3 0 ≡ false
out_of_reach = refl

-- a fill two rows high is one rectangle
two_high : canonical_list (dirt 4 3 ((Fill (rect 0 0 2 2) 7 ∷ []) ∷ [])) ≡ rect 0 0 2 2 ∷ []
unfolding dirt dirtied canonical_list same_rows run_end tiles power least_power_from
two_high = refl

-- two fills that meet in a corner are cut into bands
in_bands : canonical_list (dirt 4 3 ((Fill (rect 0 0 1 2) 7 ∷ Fill (rect 0 0 3 1) 7 ∷ []) ∷ [])) ≡ rect 0 0 3 1 ∷ rect 0 1 1 2 ∷ []
unfolding dirt dirtied canonical_list same_rows run_end tiles power least_power_from
in_bands = refl

-- every second of 130 points: 64 rectangles are no more than a frame may have, and 65 are rounded
abbrev point : ℕ → Op
point k = Fill (rect (2 * k) 0 (2 * k + 1) 1) 7

abbrev sixty_four : List Op
sixty_four = map point (range_with_len 0 64)

as_many_as_may_be : (length (canonical_list (dirt 130 1 (sixty_four ∷ []))) ≡ 64) × (is_coalesced 130 1 (sixty_four ∷ []) ≡ false)
unfolding dirt dirtied canonical_list same_rows run_end tiles power least_power_from is_coalesced
as_many_as_may_be = (refl, refl)

abbrev one_more : List (List Op)
one_more = sixty_four ∷ (point 64 ∷ []) ∷ []

one_too_many : (canonical_list (dirt 130 1 one_more) ≡ rect 0 0 130 1 ∷ []) × (is_coalesced 130 1 one_more ≡ true)
unfolding dirt dirtied canonical_list same_rows run_end tiles power least_power_from is_coalesced
one_too_many = (refl, refl)

-- two points are covered, carried over themselves, and one of them is shown again
abbrev hiding : List Op
hiding =
    Cover (rect 1 0 3 1) (1 ∷ 2 ∷ []) ∷ Scroll (from 0 0 (rect 1 0 4 2)) ∷ Fill (rect 2 0 3 2) 7 ∷ []

one_is_hidden : canonical_list (hidden_after (nowhere 4 3) hiding) ≡ rect 3 0 4 1 ∷ []
unfolding canonical_list same_rows run_end
one_is_hidden = refl
