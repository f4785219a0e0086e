-- The seats so far, and what is left of the share.
use Rattle.std.proofs.Common.{◌≡◌, ◌+◌, take, length}
use Rattle.dd_board.specs.Boards.{seats_from}
use Rattle.dd_board.proofs.board.seats_of.Given as goal

abbrev pub invariant-loop-number : goal.invariant-loop-number
invariant-loop-number g l =
    (l.seats.items ≡ seats_from 0 (take l.number l.roles)) × (l.share.amount ≡ 0)
    × (l.share.parts + l.number ≡ length l.roles) × (length l.seats.items ≡ l.number)
