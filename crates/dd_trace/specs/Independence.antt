-- That clients are independent: which steps may be left out of a list, and what stays the same.
use Rattle.std.specs.Prelude.{◌≡◌, ◌≤◌, ℕ, nat_le, ◌==◌, Bool, false, ◌&&◌, not, if◌then◌else◌, List, [], ◌∷◌, length, map}
use Rattle.dd_log.specs.declared.events.Entry.{Entry}
use Rattle.dd_calls.specs.declared.answers.Answer.{Answer}
use Rattle.dd_log.specs.History.{History}
use Rattle.dd_calls.specs.declared.steps.Step.{Step}
use Rattle.dd_calls.specs.declared.steps.Step.TheVariants as steps
use Rattle.dd_station.specs.Run.{State, next, after}

-- an entry and a list, but for the numbers of steps
abbrev pub unnumbered : Entry → Entry
unnumbered e = record e { step = 0 }

abbrev pub without_numbers : History → History
without_numbers h = record { spec = h.spec; entries = map unnumbered h.entries }

-- a step is a call of this client
abbrev pub is_of : ℕ → Step → Bool
is_of k (steps.Draw d) = false
is_of k (steps.Call j call) = j == k

-- or of another one
abbrev pub is_of_other : ℕ → Step → Bool
is_of_other k (steps.Draw d) = false
is_of_other k (steps.Call j call) = nat_le 1 j && not (j == k)

abbrev pub enters_nothing : State → Step → Bool
enters_nothing s t = length (next s t).1.history.entries == length s.history.entries

-- Steps of others that enter nothing may be left out: acquires, releases, buffers, surfaces, refused openings and
-- closings. Which of them are is chosen by their numbers.
abbrev pub is_left_out : ℕ → (ℕ → Bool) → State → Step → Bool
is_left_out k chosen s t = chosen s.steps && is_of_other k t && enters_nothing s t

-- the steps that are left
abbrev pub left_steps : ℕ → (ℕ → Bool) → State → List Step → List Step
left_steps k chosen s [] = []
left_steps k chosen s (t ∷ ts) =
    if is_left_out k chosen s t then left_steps k chosen (next s t).1 ts
    else t ∷ left_steps k chosen (next s t).1 ts

-- the answers to a client's steps
abbrev pub own_answers : ℕ → State → List Step → List Answer
own_answers k s [] = []
own_answers k s (t ∷ ts) =
    if is_of k t then (next s t).0 ∷ own_answers k (next s t).1 ts else own_answers k (next s t).1 ts

-- From any state, a client's answers are the same without them, and so is the list, but for the numbers of steps.
abbrev pub ClientsAreIndependent : Type 0
ClientsAreIndependent =
    (k : ℕ) (chosen : ℕ → Bool) (s : State) (ts : List Step) → 1 ≤ k
    → (own_answers k s (left_steps k chosen s ts) ≡ own_answers k s ts)
    × (without_numbers (after s (left_steps k chosen s ts)).history ≡ without_numbers (after s ts).history)
