-- The limit of a board, as a number.
use Rattle.std.proofs.Common.{◌≡◌, refl}
use Rattle.dd_board.specs.declared.board.TheConstants.{MAX_SEATS}

most_seats : MAX_SEATS ≡ 32
most_seats = refl
