-- Two runs side by side, the second with black in place of what covers hide: all answers are the same.
use Rattle.std.proofs.Common.{◌≡◌, ℕ, ◌+◌, nat_le, true, ◌||◌, ◌&&◌, not, false, if◌then◌else◌, List, [], ◌∷◌, length, map, Option, Some, None, Result, Ok, Err, refl, ap, ◌∙◌, ◌==◌}
use Rattle.std.specs.Prelude.{is_none, is_some, position}
use Rattle.std.specs.List.{list_any}
use Rattle.std.proofs.lemmas.Bool.{and_parts}
use Rattle.std.proofs.lemmas.List.{length-map}
use Rattle.dd_calls.specs.declared.answers.Answer.{Answer}
use Rattle.dd_calls.specs.declared.answers.Answer.TheVariants as answered
use Rattle.dd_log.specs.declared.refusal.LogRefusal.{LogRefusal}
use Rattle.dd_calls.specs.declared.answers.OpenRefusal.{OpenRefusal}
use Rattle.dd_calls.specs.declared.answers.OpenRefusal.TheVariants as openings
use Rattle.dd_calls.specs.declared.answers.CloseRefusal.{CloseRefusal}
use Rattle.dd_calls.specs.declared.answers.CloseRefusal.TheVariants as closings
use Rattle.dd_log.specs.declared.desk.Desk.{Desk}
use Rattle.dd_log.specs.declared.events.Entry.{Entry}
use Rattle.dd_log.specs.declared.events.Draw.{Draw}
use Rattle.dd_log.specs.declared.events.Event.TheVariants as events
use Rattle.dd_log.specs.declared.events.Spec.{Spec}
use Rattle.dd_log.specs.Desk.{is_app}
use Rattle.dd_log.specs.History.{History, with_entry, desk, is_full, allowed}
use Rattle.dd_log.specs.Veil.{veil, veiled_entry, veiled_drawing, event_coloured}
use Rattle.dd_log.proofs.Veiling.{shows-veiled, refusal-veiled, slot_at-veiled, push-veiled}
use Rattle.dd_table.specs.Opening.{opening, closing, least_free}
use Rattle.dd_calls.specs.declared.dup_call.DupCall.{DupCall}
use Rattle.dd_calls.specs.declared.dup_call.DupCall.TheVariants as asked
use Rattle.dd_dup.specs.Reply.{Memory, fresh_memory}
use Rattle.dd_dup.proofs.Veiling.{reply-veiled}
use Rattle.dd_calls.specs.declared.steps.Step.{Step}
use Rattle.dd_calls.specs.declared.steps.Step.TheVariants as steps
use Rattle.dd_calls.specs.declared.steps.ClientCall.{ClientCall}
use Rattle.dd_calls.specs.declared.steps.ClientCall.TheVariants as calls
use Rattle.dd_station.specs.Run.{State, start, one_step_on, with_memory, app_of, memory_of, entry_of, next_number, draw_answer, draw_history, draw_outcome, opening_outcome, closing_outcome, client_reply, reply_outcome, asking_outcome, call_outcome, next, answers, run}
use Rattle.dd_dup.specs.Reply.{slot_of}
use Rattle.dd_trace.specs.Veil.{veiled_step, step_coloured, steps_coloured, HiddenContent}

-- a state with the veil of its list, and an outcome with that state
abbrev veiled_state : State → State
veiled_state s = record s { history = veil s.history }

abbrev veiled_outcome : Answer × State → Answer × State
veiled_outcome o = (o.0, veiled_state o.1)

-- the next event number
number_same : (s : State) → next_number (veiled_state s) ≡ next_number s
number_same s = ap (λ n. n + 1) (length-map s.history.entries veiled_entry)

-- a drawing
drawn_list : (c : Option LogRefusal) (h : History) (e : Entry)
    → draw_history c (veil h) (veiled_entry e) ≡ veil (draw_history c h e)
drawn_list None h e = push-veiled h e
drawn_list (Some cause) h e = refl

abbrev draw_by : State → Option LogRefusal → ℕ → History → Answer × State
draw_by s c number h = (draw_answer c number, one_step_on s h)

draw_same : (s : State) (d : Draw) → event_coloured (events.Draw d) ≡ true
    → draw_outcome (veiled_state s) (veiled_drawing d) ≡ veiled_outcome (draw_outcome s d)
draw_same s d t =
    let h : History = s.history in
    let e : Entry = entry_of s 0 (events.Draw d) in
    ap (λ c. draw_by s c (next_number (veiled_state s)) (draw_history c (veil h) (veiled_entry e)))
    (refusal-veiled h (events.Draw d) t)
    ∙ ap (λ n. draw_by s (allowed h d) n (draw_history (allowed h d) (veil h) (veiled_entry e))) (number_same s)
    ∙ ap (draw_by s (allowed h d) (next_number s)) (drawn_list (allowed h d) h e)

-- an opening
full_same : (h : History) → is_full (veil h) ≡ is_full h
full_same h = ap (λ n. nat_le h.spec.capacity (n + 1)) (length-map h.entries veiled_entry)

free_same : (h : History) (found : Option ℕ) → least_free found (veil h) ≡ least_free found h
free_same h None = refl
free_same h (Some slot) = ap (λ b. if b then Err openings.Full else Ok slot) (full_same h)

abbrev opening_by : Spec → ℕ → Desk → Result ℕ OpenRefusal → Result ℕ OpenRefusal
opening_by spec app d least =
    if not d.connected || d.ended then Err openings.SessionDisconnected
    else (if d.secure && not (list_any (λ other. other == app) spec.privileged) then Err openings.AccessDenied
    else (if is_some (position (is_app app) d.slots) then Err openings.AlreadyDuplicating else least))

opening_same : (h : History) (app : ℕ) → opening (veil h) app ≡ opening h app
opening_same h app =
    ap (λ (d : Desk). opening_by h.spec app d (least_free (position is_none d.slots) (veil h)))
    (shows-veiled h).same_desk
    ∙ ap (opening_by h.spec app (desk h)) (free_same h (position is_none (desk h).slots))

abbrev fresh_by : Desk → ℕ → Memory
fresh_by d place =
    record { opened = place; mark = d.picture_start; pointer_mark = 0; held = None; lost = false }

fresh_same : (h : History) → fresh_memory (veil h) (length (veil h).entries) ≡ fresh_memory h (length h.entries)
fresh_same h =
    ap (λ (d : Desk). fresh_by d (length (veil h).entries)) (shows-veiled h).same_desk
    ∙ ap (fresh_by (desk h)) (length-map h.entries veiled_entry)

abbrev opened_by : State → ℕ → ℕ → ℕ → History → Memory → Answer × State
opened_by s k slot number h m = (answered.Opened number slot, with_memory (one_step_on s h) k (Some m))

opening_alike : (o : Result ℕ OpenRefusal) (s : State) (k : ℕ)
    → opening_outcome o (veiled_state s) k ≡ veiled_outcome (opening_outcome o s k)
opening_alike (Ok slot) s k =
    let h : History = s.history in
    let e : Entry = entry_of s k (events.Opened slot (app_of s k)) in
    ap (λ n. opened_by s k slot n (with_entry (veil h) e) (fresh_memory (veil h) (length (veil h).entries)))
    (number_same s)
    ∙ ap (λ (l : History). opened_by s k slot (next_number s) l (fresh_memory (veil h) (length (veil h).entries)))
    (push-veiled h e)
    ∙ ap (opened_by s k slot (next_number s) (veil (with_entry h e))) (fresh_same h)
opening_alike (Err cause) s k = refl

-- a closing
closing_same : (h : History) (own : Option ℕ) → closing (veil h) own ≡ closing h own
closing_same h None = refl
closing_same h (Some slot) =
    ap (λ (d : Desk). if d.ended then Err closings.Ended else (if is_full (veil h) then Err closings.Full else Ok slot))
    (shows-veiled h).same_desk
    ∙ ap (λ b. if (desk h).ended then Err closings.Ended else (if b then Err closings.Full else Ok slot)) (full_same h)

slot_same : (o : Option Memory) (h : History) → slot_of o (veil h) ≡ slot_of o h
slot_same None h = refl
slot_same (Some m) h = slot_at-veiled h m.opened

abbrev closed_by : State → ℕ → ℕ → History → Answer × State
closed_by s k number h = (answered.Closed number, with_memory (one_step_on s h) k None)

closing_alike : (o : Result ℕ CloseRefusal) (s : State) (k : ℕ)
    → closing_outcome o (veiled_state s) k ≡ veiled_outcome (closing_outcome o s k)
closing_alike (Ok slot) s k =
    let h : History = s.history in
    let e : Entry = entry_of s k (events.Closed slot) in
    ap (λ n. closed_by s k n (with_entry (veil h) e)) (number_same s)
    ∙ ap (closed_by s k (next_number s)) (push-veiled h e)
closing_alike (Err cause) s k = refl

-- a call of a duplicator
client_same : (call : DupCall) (o : Option Memory) (h : History) → client_reply call o (veil h) ≡ client_reply call o h
client_same call None h = refl
client_same call (Some m) h = ap (λ (r : Answer × Memory). (r.0, Some r.1)) (reply-veiled call m h)

asking_same : (s : State) (k : ℕ) (call : DupCall)
    → asking_outcome (veiled_state s) k call ≡ veiled_outcome (asking_outcome s k call)
asking_same s k call = ap (reply_outcome (veiled_state s) k) (client_same call (memory_of s k) s.history)

-- a step
call_same : (s : State) (k : ℕ) (call : ClientCall)
    → call_outcome (veiled_state s) k call ≡ veiled_outcome (call_outcome s k call)
call_same s k calls.Duplicate =
    ap (λ o. opening_outcome o (veiled_state s) k) (opening_same s.history (app_of s k))
    ∙ opening_alike (opening s.history (app_of s k)) s k
call_same s k calls.Close =
    let own : Option ℕ = slot_of (memory_of s k) s.history in
    ap (λ o. closing_outcome (closing (veil s.history) o) (veiled_state s) k) (slot_same (memory_of s k) s.history)
    ∙ ap (λ o. closing_outcome o (veiled_state s) k) (closing_same s.history own)
    ∙ closing_alike (closing s.history own) s k
call_same s k (calls.Acquire timeout) = asking_same s k asked.Acquire
call_same s k calls.Release = asking_same s k asked.Release
call_same s k (calls.Moves buffer) = asking_same s k (asked.Moves buffer)
call_same s k (calls.Dirty buffer) = asking_same s k (asked.Dirty buffer)
call_same s k (calls.Shape buffer) = asking_same s k (asked.Shape buffer)
call_same s k calls.Surface = asking_same s k asked.Surface
call_same s k calls.Desc = asking_same s k asked.Desc

next_same : (s : State) (t : Step) → step_coloured t ≡ true
    → next (veiled_state s) (veiled_step t) ≡ veiled_outcome (next s t)
unfolding next
next_same s (steps.Draw d) t = draw_same s d t
next_same s (steps.Call k call) t = call_same s k call

-- all of them
answers_same : (s : State) (ts : List Step) → steps_coloured ts ≡ true
    → answers (veiled_state s) (map veiled_step ts) ≡ answers s ts
answers_same s [] t = refl
answers_same s (x ∷ xs) t =
    let both = and_parts (step_coloured x) (steps_coloured xs) t in
    ap (λ (o : Answer × State). o.0 ∷ answers o.1 (map veiled_step xs)) (next_same s x both.0)
    ∙ ap (λ (rest : List Answer). (next s x).0 ∷ rest) (answers_same (next s x).1 xs both.1)

pub run-veiled : HiddenContent
unfolding run
run-veiled script t = answers_same (start script.spec script.clients) script.steps t
