-- Whose a slot is.
use Rattle.std.specs.Prelude.{◌≡◌, ℕ, Some, position}
use Rattle.dd_log.specs.Desk.{is_app}
use Rattle.dd_log.specs.History.{History, desk}
use Rattle.dd_log.specs.Slots.{slot_at}

-- The entry at a place opened a slot, and it is the one that is open for an application.
pub record IsOpenFor (h : History) (place app : ℕ) : Type 0 where
  pub slot : ℕ
  pub opened : slot_at h place ≡ Some slot
  pub stands : position (is_app app) (desk h).slots ≡ Some slot
