-- What the list keeps.
use Rattle.std.specs.Prelude.{◌≡◌, ◌≤◌, IsTrue, vec_len, vec_capacity}
use Rattle.dd_geom.specs.Rect.{IsSize}
use Rattle.dd_log.specs.declared.log.Log.TheInside.{Inside}
use Rattle.dd_log.specs.declared.events.TheConstants.{MAX_CAPACITY}
use Rattle.dd_log.specs.Desk.{desk_of}
use Rattle.dd_log.specs.History.{History, legal}

abbrev pub history : Inside → History
history l = record { spec = l.spec; entries = l.entries.items }

-- The list is legal, the desk is what its entries make of it, in a mode of a size that surfaces have, and there is
-- memory for all entries.
pub record IsKept (l : Inside) : Type 0 where
  pub legal : IsTrue (legal (history l))
  pub desk : l.desk ≡ desk_of l.spec.modes l.entries.items
  pub size : IsSize l.desk.mode.width l.desk.mode.height
  pub some : 1 ≤ l.spec.capacity
  pub few : l.spec.capacity ≤ MAX_CAPACITY
  pub room : l.spec.capacity ≤ vec_capacity l.entries
  pub within : vec_len l.entries ≤ l.spec.capacity
