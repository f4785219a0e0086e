-- Commands that change a set of points.
use Rattle.std.specs.Prelude.{ℕ, Bool, List, nat_le, fold}
use Rattle.std.specs.List.{list_all}
use Rattle.dd_geom.specs.Grid.{Grid}
use Rattle.dd_geom.specs.Rect.{is_inside, is_move_inside}
use Rattle.dd_bits.specs.Area.{nowhere, with_rect, without_rect, moved_over}
use Rattle.dd_bits.specs.Tiles.{tiles}
use Rattle.dd_bits.specs.declared.commands.AreaCommand.{AreaCommand}
use Rattle.dd_bits.specs.declared.commands.AreaCommand.TheVariants.{Add, Remove, MoveOver, Tiles}

-- the set after a command
abbrev pub obeyed : Grid Bool → AreaCommand → Grid Bool
obeyed g (Add r) = with_rect g r
obeyed g (Remove r) = without_rect g r
obeyed g (MoveOver m) = moved_over g m
obeyed g (Tiles t) = tiles t g

-- the set that commands make from the empty one of a surface of w by h points
abbrev pub made_by : ℕ → ℕ → List AreaCommand → Grid Bool
made_by w h commands = fold obeyed (nowhere w h) commands

-- a rectangle or a move lies inside a surface of w by h points, and a tile has a side of at least one point
abbrev pub command_fits : ℕ → ℕ → AreaCommand → Bool
command_fits w h (Add r) = is_inside r w h
command_fits w h (Remove r) = is_inside r w h
command_fits w h (MoveOver m) = is_move_inside m w h
command_fits w h (Tiles t) = nat_le 1 t

abbrev pub commands_fit : ℕ → ℕ → List AreaCommand → Bool
commands_fit w h commands = list_all (command_fits w h) commands
