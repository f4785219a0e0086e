-- What an opening leaves.
use Rattle.std.specs.Prelude.{◌≡◌, ℕ, ◌+◌, length, Ok, Err}
use Rattle.dd_log.specs.History.{History, with_entry}
use Rattle.dd_log.specs.declared.events.Event.TheVariants as events
use Rattle.dd_dup.specs.Reply.{fresh_memory}
use Rattle.dd_dup.specs.Stands.{Stands}
use Rattle.dd_table.specs.Opening.{opening}
use Rattle.dd_station.specs.declared.opening.Attempt.{Attempt}
use Rattle.dd_station.specs.declared.opening.Attempt.TheVariants.{Made, Refused}

-- The opening is the next entry, of this actor and step, and its duplicator is fresh and stands on the list; or the
-- first cause refused it, and the list is as it was.
abbrev pub IsAttempt : Attempt → History → History → ℕ → ℕ → ℕ → Type 0
IsAttempt (Made entry slot dup) old new app actor step =
    (opening old app ≡ Ok slot)
    × (new ≡ with_entry old (record { actor = actor; step = step; event = events.Opened slot app }))
    × (entry ≡ length old.entries + 1)
    × (dup.memory ≡ fresh_memory old (length old.entries))
    × Stands dup new
IsAttempt (Refused cause) old new app actor step = (opening old app ≡ Err cause) × (new ≡ old)
