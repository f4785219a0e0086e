-- What contracts see of a seat, and of what it does to the list.
use Rattle.std.specs.Prelude.{◌≡◌, ℕ, ◌+◌, ◌≤◌, if◌then◌else◌, List, [], ◌∷◌, ◌++◌, length, take, Option, Some, None, is_some, Result, Ok, Err}
use mathlib.Core.List.{IsPrefix}
use Rattle.dd_log.specs.declared.events.Entry.{Entry}

-- its number, how many entries it made, and the list that it saw or was told of
pub record Seated : Type 0 where
  pub number : ℕ
  pub made : ℕ
  pub view : List Entry

-- of this number, at first
abbrev pub fresh_seat : ℕ → Seated
fresh_seat number = record { number = number; made = 0; view = [] }

-- with another view, and with one that has an entry of its own more
abbrev pub seeing : Seated → List Entry → Seated
seeing s es = record s { view = es }

abbrev pub entering : Seated → List Entry → Seated
entering s es = record s { view = es; made = s.made + 1 }

-- a list, with an entry where one was entered
abbrev pub list_after : List Entry → Option Entry → List Entry
list_after es None = es
list_after es (Some e) = es ++ e ∷ []

-- an entry where an answer accepts it
abbrev pub entry_if : {A B : Type 0} → Result A B → Entry → Option Entry
entry_if (Ok x) e = Some e
entry_if (Err cause) e = None

-- A seat's call at a place: the list there begins with what the seat had seen, and with the call's own entry, where it
-- entered one, it is what the seat has seen then. The seat made one entry more exactly where it entered one.
pub record IsCall (old new : Seated) (place : ℕ) (own : Option Entry) : Type 0 where
  pub number : new.number ≡ old.number
  pub begins : IsPrefix old.view (take place new.view)
  pub later : length old.view ≤ place
  pub within : place ≤ length new.view
  pub list : new.view ≡ list_after (take place new.view) own
  pub made : new.made ≡ (if is_some own then old.made + 1 else old.made)
