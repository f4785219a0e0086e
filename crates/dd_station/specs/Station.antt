-- A station's value and what it keeps.
use Rattle.std.specs.Prelude.{◌≡◌, ◌≢◌, ℕ, ◌≤◌, true, List, length, map, Option, Some, None, is_some, slice_index, slice_index_or}
use Rattle.dd_log.specs.History.{History, last_step}
use Rattle.dd_table.specs.Slots.{IsOpenFor}
use Rattle.dd_dup.specs.Reply.{Memory}
use Rattle.dd_dup.specs.Duplicator.{Duplicator}
use Rattle.dd_dup.specs.Stands.{memory, MayStand}
use Rattle.dd_calls.specs.declared.steps.TheConstants.{MAX_CLIENTS}
use Rattle.dd_station.specs.Run.{State}

abbrev pub memories : List (Option Duplicator) → List (Option Memory)
memories dups = map memory dups

abbrev pub state : History → List ℕ → List (Option Duplicator) → ℕ → State
state h clients dups steps = record { history = h; clients = clients; memories = memories dups; steps = steps }

-- the slot of its opening is the one that is open for the client's application
abbrev pub HasSlot : Option Duplicator → History → ℕ → Type 0
HasSlot None h app = Unit {0}
HasSlot (Some d) h app = IsOpenFor h d.memory.opened app

-- a place has a duplicator
abbrev pub Has : List (Option Duplicator) → ℕ → Type 0
Has dups k = is_some (slice_index_or dups k None) ≡ true

-- There is a place for each client's duplicator. Each stands on the list and has its slot, and two are of two
-- applications. No entry is of a later step.
pub record IsKept (h : History) (clients : List ℕ) (dups : List (Option Duplicator)) (steps : ℕ) : Type 0 where
  pub few : length clients ≤ MAX_CLIENTS
  pub places : length dups ≡ length clients
  pub stand : (k : ℕ) → MayStand (slice_index_or dups k None) h
  pub slots : (k : ℕ) → HasSlot (slice_index_or dups k None) h (slice_index clients k)
  pub apart : (j k : ℕ) → j ≢ k → Has dups j → Has dups k → slice_index clients j ≢ slice_index clients k
  pub past : (actor : ℕ) → last_step h.entries actor ≤ steps
