-- What a step leaves: the list begins with what it was, and a call of another client keeps the client's memory.
use Rattle.std.proofs.Common.{◌≡◌, ◌≢◌, ℕ, ◌-◌, ◌≤◌, List, [], ◌∷◌, length, take, Option, Some, None, Result, Ok, Err, refl, sym, ap, ◌∙◌, arith}
use Rattle.std.specs.Prelude.{slice_set, slice_index_or}
use Rattle.std.proofs.lemmas.List.{get_or-set_other, take_all, take-take}
use Rattle.dd_log.specs.declared.refusal.LogRefusal.{LogRefusal}
use Rattle.dd_calls.specs.declared.answers.OpenRefusal.{OpenRefusal}
use Rattle.dd_calls.specs.declared.answers.CloseRefusal.{CloseRefusal}
use Rattle.dd_log.specs.declared.events.Entry.{Entry}
use Rattle.dd_log.specs.declared.events.Spec.{Spec}
use Rattle.dd_log.specs.declared.events.Event.TheVariants as events
use Rattle.dd_log.specs.History.{History, Begins, allowed, first_entries}
use Rattle.dd_table.specs.Opening.{opening, closing}
use Rattle.dd_dup.specs.Reply.{Memory}
use Rattle.dd_calls.specs.declared.steps.Step.{Step}
use Rattle.dd_calls.specs.declared.steps.Step.TheVariants as steps
use Rattle.dd_calls.specs.declared.steps.ClientCall.{ClientCall}
use Rattle.dd_calls.specs.declared.steps.ClientCall.TheVariants as calls
use Rattle.dd_station.specs.Run.{State, next, after, app_of, memory_of, entry_of, draw_history, opening_outcome, closing_outcome, call_outcome}
use Rattle.dd_dup.specs.Reply.{slot_of}
use Rattle.dd_station.proofs.Kept.{begins-with_entry}

-- ---- lists that grow

pub begins_same : (h : History) → Begins h h
begins_same h = record {
  spec = refl;
  within = omega arith;
  entries = take_all (length h.entries) h.entries (omega arith);
}

pub begins_drawn : (cause : Option LogRefusal) (h : History) (e : Entry) → Begins h (draw_history cause h e)
begins_drawn None h e = begins-with_entry h e
begins_drawn (Some cause) h e = begins_same h

begins_opened : (r : Result ℕ OpenRefusal) (s : State) (k : ℕ) → Begins s.history (opening_outcome r s k).1.history
begins_opened (Ok slot) s k = begins-with_entry s.history (entry_of s k (events.Opened slot (app_of s k)))
begins_opened (Err cause) s k = begins_same s.history

begins_closed : (r : Result ℕ CloseRefusal) (s : State) (k : ℕ) → Begins s.history (closing_outcome r s k).1.history
begins_closed (Ok slot) s k = begins-with_entry s.history (entry_of s k (events.Closed slot))
begins_closed (Err cause) s k = begins_same s.history

pub begins_called : (s : State) (k : ℕ) (call : ClientCall) → Begins s.history (call_outcome s k call).1.history
begins_called s k calls.Duplicate = begins_opened (opening s.history (app_of s k)) s k
begins_called s k calls.Close = begins_closed (closing s.history (slot_of (memory_of s k) s.history)) s k
begins_called s k (calls.Acquire timeout) = begins_same s.history
begins_called s k calls.Release = begins_same s.history
begins_called s k (calls.Moves buffer) = begins_same s.history
begins_called s k (calls.Dirty buffer) = begins_same s.history
begins_called s k (calls.Shape buffer) = begins_same s.history
begins_called s k calls.Surface = begins_same s.history
begins_called s k calls.Desc = begins_same s.history

-- ---- calls of others

-- another client's memory is set
pub other_set : (ms : List (Option Memory)) (j c : ℕ) (m : Option Memory) → 1 ≤ j → 1 ≤ c → j ≢ c
    → slice_index_or (slice_set ms (j - 1) m) (c - 1) None ≡ slice_index_or ms (c - 1) None
other_set ms j c m from one ne =
    get_or-set_other ms (j - 1) (c - 1) m None (λ (e : c - 1 ≡ j - 1). ne (omega (arith, e, from, one)))

other_opened : (r : Result ℕ OpenRefusal) (s : State) (j c : ℕ) → 1 ≤ j → 1 ≤ c → j ≢ c
    → memory_of (opening_outcome r s j).1 c ≡ memory_of s c
other_opened (Ok slot) s j c from one ne = other_set s.memories j c _ from one ne
other_opened (Err cause) s j c from one ne = refl

other_closed : (r : Result ℕ CloseRefusal) (s : State) (j c : ℕ) → 1 ≤ j → 1 ≤ c → j ≢ c
    → memory_of (closing_outcome r s j).1 c ≡ memory_of s c
other_closed (Ok slot) s j c from one ne = other_set s.memories j c None from one ne
other_closed (Err cause) s j c from one ne = refl

pub other_called : (s : State) (j c : ℕ) (call : ClientCall) → 1 ≤ j → 1 ≤ c → j ≢ c
    → memory_of (call_outcome s j call).1 c ≡ memory_of s c
other_called s j c calls.Duplicate from one ne = other_opened (opening s.history (app_of s j)) s j c from one ne
other_called s j c calls.Close from one ne =
    other_closed (closing s.history (slot_of (memory_of s j) s.history)) s j c from one ne
other_called s j c (calls.Acquire timeout) from one ne = other_set s.memories j c _ from one ne
other_called s j c calls.Release from one ne = other_set s.memories j c _ from one ne
other_called s j c (calls.Moves buffer) from one ne = other_set s.memories j c _ from one ne
other_called s j c (calls.Dirty buffer) from one ne = other_set s.memories j c _ from one ne
other_called s j c (calls.Shape buffer) from one ne = other_set s.memories j c _ from one ne
other_called s j c calls.Surface from one ne = other_set s.memories j c _ from one ne
other_called s j c calls.Desc from one ne = other_set s.memories j c _ from one ne

-- ---- each step, and all

pub begins_next : (s : State) (t : Step) → Begins s.history (next s t).1.history
unfolding next
begins_next s (steps.Draw d) = begins_drawn (allowed s.history d) s.history (entry_of s 0 (events.Draw d))
begins_next s (steps.Call k call) = begins_called s k call

pub begins_further : (h later last : History) → Begins h later → Begins later last → Begins h last
begins_further h later last first second = record {
  spec = second.spec ∙ first.spec;
  within = omega (arith, first.within, second.within);
  entries =
      sym (take-take (length h.entries) (length later.entries) last.entries first.within)
      ∙ ap (take (length h.entries)) second.entries
      ∙ first.entries;
}

pub begins_after : (s : State) (ts : List Step) → Begins s.history (after s ts).history
begins_after s [] = begins_same s.history
begins_after s (t ∷ ts) =
    begins_further s.history (next s t).1.history (after s (t ∷ ts)).history (begins_next s t)
    (begins_after (next s t).1 ts)

-- a list that another begins with is its first entries
pub begins_first : (h last : History) → Begins h last → h ≡ first_entries (length h.entries) last
begins_first h last begins =
    ap (λ es. record { spec = h.spec; entries = es }) (sym begins.entries)
    ∙ ap (λ (s : Spec). record { spec = s; entries = take (length h.entries) last.entries }) (sym begins.spec)
