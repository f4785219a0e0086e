-- The slot of an opening.
use Rattle.std.specs.Prelude.{ℕ, Option, Some, None, slice_get}
use Rattle.dd_log.specs.declared.events.Event.{Event}
use Rattle.dd_log.specs.declared.events.Event.TheVariants.{Opened, Closed, End}
use Rattle.dd_log.specs.declared.events.Event.TheVariants as events
use Rattle.dd_log.specs.declared.events.Entry.{Entry}
use Rattle.dd_log.specs.History.{History}

-- the slot that an event opens a duplicator in
abbrev pub slot_opened : Event → Option ℕ
slot_opened (events.Draw drawing) = None
slot_opened (Opened slot app) = Some slot
slot_opened (Closed slot) = None
slot_opened End = None

abbrev pub entry_slot : Option Entry → Option ℕ
entry_slot None = None
entry_slot (Some e) = slot_opened e.event

-- that of the opening at a place, where there is one
abbrev pub slot_at : History → ℕ → Option ℕ
slot_at h place = entry_slot (slice_get h.entries place)
