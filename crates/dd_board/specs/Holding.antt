-- A client's duplicator with its slot. No public clause names it.
use Rattle.std.specs.Prelude.{◌≡◌, ℕ, Option, Some, None, option_map, unwrap_or}
use Rattle.dd_log.specs.History.{History}
use Rattle.dd_log.specs.Slots.{slot_at}
use Rattle.dd_dup.specs.Duplicator.{Duplicator}
use Rattle.dd_dup.specs.Stands.{Stands}
use Rattle.dd_board.specs.Seats.{Seated}
use Rattle.dd_board.specs.Clients.{ClientState}
use Rattle.dd_board.specs.declared.holding.Holding.{Holding}

abbrev pub held_dup : Option Holding → Option Duplicator
held_dup o = option_map (λ x. x.dup) o

-- what contracts see of a client: a door that isn't there counts nothing
abbrev pub client_state : Seated → ℕ → Option Holding → Option ℕ → ClientState
client_state actor app held door =
    record { actor = actor; app = app; dup = held_dup held; refusals = unwrap_or door 0 }

-- it stands on the list, and its slot is that of its opening
abbrev pub MayHold : Option Holding → History → Type 0
MayHold None h = Unit {0}
MayHold (Some x) h = Stands x.dup h × (slot_at h x.dup.memory.opened ≡ Some x.slot)
