-- What the seats of a board saw and made together.
use Rattle.std.specs.Prelude.{ℕ, List, [], ◌∷◌}
use Rattle.std.specs.List.{sum_by}
use mathlib.Core.List.{IsPrefix}
use Rattle.dd_log.specs.declared.events.Entry.{Entry}
use Rattle.dd_board.specs.declared.board.Seat.{Seat}
use Rattle.dd_board.specs.declared.board.Seat.TheVariants as seats
use Rattle.dd_board.specs.Seats.{Seated}

-- the actor of a seat
abbrev pub actor_in : {L : Type 0} → Seat L → Seated
actor_in (seats.Drawer actor) = actor
actor_in (seats.Client client) = client.actor

-- how many entries the seats made together
abbrev pub made_by : {L : Type 0} → List (Seat L) → ℕ
made_by ss = sum_by (λ s. (actor_in s).made) ss

-- a list begins with what each of them saw
abbrev pub EachBegins : {L : Type 0} → List (Seat L) → List Entry → Type 0
EachBegins [] es = Unit {0}
EachBegins (s ∷ ss) es = IsPrefix (actor_in s).view es × EachBegins ss es
