-- The law of the book that keeps the one list: its word is the list's length. No public clause names it.
use Rattle.std.specs.Prelude.{ℕ, ◌≡◌, ◌==◌, true, List, [], ◌∷◌, ◌++◌, length, MatchBool}
use Rattle.logbook.specs.Pages.{Cell, Step, View, Book, Named}
use Rattle.dd_log.specs.declared.events.Entry.{Entry}

-- the first word is the length of the list; a book has two words, of which this one leaves the second at 0
abbrev pub IsKept : List Cell → List Entry → Type 0
IsKept cells log = cells ≡ (length log, true) ∷ (0, true) ∷ []

-- that word, of a book
abbrev pub head_of : Book → Named
head_of book = record { tracked = true; key = 0; book = book }

-- the entry was added to all that had been seen; or the list was longer, and was seen
abbrev pub Adds : Step Entry → View Entry ℕ → ℕ → View Entry ℕ → Type 0
Adds s v found w = MatchBool (found == s.old) (w.0 ≡ v.0 ++ s.ask ∷ []) (length w.0 ≡ found)
