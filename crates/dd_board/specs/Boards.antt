-- What contracts see of a board before and after it has a name.
use Rattle.std.specs.Prelude.{ℕ, ◌+◌, List, [], ◌∷◌}
use Rattle.dd_calls.specs.declared.answers.Role.{Role}
use Rattle.dd_calls.specs.declared.answers.Role.TheVariants as roles
use Rattle.dd_board.specs.declared.board.Seat.{Seat}
use Rattle.dd_board.specs.declared.board.Seat.TheVariants as seats
use Rattle.dd_board.specs.Seats.{fresh_seat}
use Rattle.dd_board.specs.Clients.{fresh_client}

-- the seat of a role, as it is at first
abbrev pub seat_of : {L : Type 0} → ℕ → Role → Seat L
seat_of number roles.Drawer = seats.Drawer (fresh_seat number)
seat_of number (roles.Client app) = seats.Client (fresh_client number app)

-- the seats of some roles, numbered from a number on
abbrev pub seats_from : {L : Type 0} → ℕ → List Role → List (Seat L)
seats_from number [] = []
seats_from number (r ∷ rs) = seat_of number r ∷ seats_from (number + 1) rs
