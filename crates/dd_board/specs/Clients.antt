-- What contracts see of a client.
use Rattle.std.specs.Prelude.{ℕ, Option, None}
use Rattle.dd_dup.specs.Duplicator.{Duplicator}
use Rattle.dd_board.specs.Seats.{Seated, fresh_seat}

-- the actor, its application, its duplicator where it has one, and how often its door gave nothing
pub record ClientState : Type 0 where
  pub actor : Seated
  pub app : ℕ
  pub dup : Option Duplicator
  pub refusals : ℕ

-- of this number and application, at first
abbrev pub fresh_client : ℕ → ℕ → ClientState
fresh_client number app = record { actor = fresh_seat number; app = app; dup = None; refusals = 0 }
