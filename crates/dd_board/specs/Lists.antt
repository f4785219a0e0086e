-- Lists of a board: which it may have, and what they are to its seats.
use Rattle.std.specs.Prelude.{◌≡◌, ℕ, ◌<◌, ◌≤◌, ◌==◌, nat_lt, Bool, ◌&&◌, if◌then◌else◌, List, [], ◌∷◌, ◌++◌, ◌-◌, length, take, IsTrue}
use Rattle.std.specs.List.{list_all}
use Rattle.dd_log.specs.declared.events.TheConstants.{MAX_ACTORS, MAX_CAPACITY}
use Rattle.dd_log.specs.declared.events.Spec.{Spec}
use Rattle.dd_log.specs.declared.events.Entry.{Entry}
use Rattle.dd_log.specs.History.{History, legal, is_end}

-- entries under a spec
abbrev pub listed : Spec → List Entry → History
listed spec es = record { spec = spec; entries = es }

-- an entry names one of some seats; the end names the number after the last of them, and step 1
abbrev pub is_seated : ℕ → Entry → Bool
is_seated seats e = if is_end e.event then e.actor == seats && e.step == 1 else nat_lt e.actor seats

unfoldable pub all_seated : ℕ → List Entry → Bool
all_seated seats es = list_all (is_seated seats) es

-- A list that a board of some seats may have: it is legal for the spec, whose capacity is within the limits, and each
-- entry names a seat.
pub record IsListed (spec : Spec) (seats : ℕ) (es : List Entry) : Type 0 where
  pub legal : IsTrue (legal (listed spec es))
  pub some : 1 ≤ spec.capacity
  pub few : spec.capacity ≤ MAX_CAPACITY
  pub most : seats < MAX_ACTORS
  pub seated : IsTrue (all_seated seats es)

-- the entry is the last of a list
abbrev pub IsLast : Entry → List Entry → Type 0
IsLast e es = es ≡ take (length es - 1) es ++ e ∷ []

-- the longer of two
abbrev pub longer : List Entry → List Entry → List Entry
longer xs ys = if nat_lt (length xs) (length ys) then ys else xs

-- the first entries of a list under a spec: the list at a place
abbrev pub at_place : Spec → List Entry → ℕ → History
at_place spec es place = listed spec (take place es)
