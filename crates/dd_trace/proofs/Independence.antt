-- Two runs side by side, the second without some steps of other clients than one: what stays the same.
use Rattle.std.proofs.Common.{◌≡◌, ◌≢◌, ℕ, ◌+◌, ◌-◌, ◌≤◌, nat_lt, nat_le, Bool, true, false, ◌&&◌, not, if◌then◌else◌, List, [], ◌∷◌, length, get_or, set, Option, Some, None, Result, Ok, Err, refl, sym, ap, ◌∙◌, subst, arith, length-append, ⊎_elim, ◌==◌}
use Rattle.std.specs.Prelude.{slice_index, slice_index_or, option_map}
use Rattle.std.proofs.Math.ListN.{length-set}
use Rattle.std.proofs.lemmas.Bool.{cases_eq, eq-eqb, eqb-true, ltb-true, ltb-false, leb-true}
use Rattle.std.proofs.lemmas.List.{get_or-set_same, get_or-set_other, get_or_past, set-get_or, length-map, map-append}
use Rattle.dd_calls.specs.declared.answers.Answer.{Answer}
use Rattle.dd_calls.specs.declared.answers.Answer.TheVariants as answers
use Rattle.dd_log.specs.declared.refusal.LogRefusal.{LogRefusal}
use Rattle.dd_calls.specs.declared.answers.OpenRefusal.{OpenRefusal}
use Rattle.dd_calls.specs.declared.answers.CloseRefusal.{CloseRefusal}
use Rattle.dd_log.specs.declared.events.Entry.{Entry}
use Rattle.dd_log.specs.declared.events.Draw.{Draw}
use Rattle.dd_log.specs.declared.events.Event.TheVariants.{Opened, Closed}
use Rattle.dd_log.specs.declared.events.Event.TheVariants as events
use Rattle.dd_log.specs.History.{History, with_entry, allowed}
use Rattle.dd_log.specs.Slots.{slot_at}
use Rattle.dd_table.specs.Opening.{opening, closing}
use Rattle.dd_calls.specs.declared.dup_call.DupCall.{DupCall}
use Rattle.dd_calls.specs.declared.dup_call.DupCall.TheVariants as asked
use Rattle.dd_dup.specs.Reply.{Memory, fresh_memory}
use Rattle.dd_calls.specs.declared.steps.Step.{Step}
use Rattle.dd_calls.specs.declared.steps.Step.TheVariants as steps
use Rattle.dd_calls.specs.declared.steps.ClientCall.{ClientCall}
use Rattle.dd_calls.specs.declared.steps.ClientCall.TheVariants as calls
use Rattle.dd_station.specs.Run.{State, next, after, memory_of, app_of, entry_of, draw_history, draw_outcome, opening_outcome, closing_outcome, client_reply, asking_outcome, call_outcome}
use Rattle.dd_dup.specs.Reply.{slot_of}
use Rattle.dd_trace.specs.Independence.{unnumbered, without_numbers, is_of, is_of_other, enters_nothing, is_left_out, left_steps, own_answers, ClientsAreIndependent}
use Rattle.dd_station.proofs.Kept.{reply_opened}
use Rattle.dd_trace.proofs.Unnumbered.{reply_same, opening_same, closing_same, allowed_same, fresh_same, slot_same}

-- the place of a duplicator's opening
abbrev opened_of : Option Memory → Option ℕ
opened_of m = option_map (λ x. x.opened) m

-- Two states are the same to a client: so are their lists, but for the numbers of steps, its memory, and where the
-- others' duplicators were opened.
record Same (k : ℕ) (s r : State) : Type 0 where
  list : without_numbers s.history ≡ without_numbers r.history
  clients : s.clients ≡ r.clients
  size : length s.memories ≡ length r.memories
  own : memory_of s k ≡ memory_of r k
  others : (j : ℕ) → opened_of (slice_index_or s.memories j None) ≡ opened_of (slice_index_or r.memories j None)

-- what doesn't hang on the numbers of steps is the same for two such lists
both : {A : Type 0} (f : History → A) → ((h : History) → f h ≡ f (without_numbers h)) → (h g : History)
    → without_numbers h ≡ without_numbers g → f h ≡ f g
both f same h g e = same h ∙ ap f e ∙ sym (same g)

length_same : (h g : History) → without_numbers h ≡ without_numbers g → length h.entries ≡ length g.entries
length_same h g e = both (λ (x : History). length x.entries) (λ x. sym (length-map x.entries unnumbered)) h g e

pushed : (h : History) (e : Entry) → without_numbers (with_entry h e) ≡ with_entry (without_numbers h) (unnumbered e)
pushed h e = ap (λ xs. record { spec = h.spec; entries = xs }) (map-append unnumbered h.entries (e ∷ []))

entry_same : (h g : History) (e f : Entry) → without_numbers h ≡ without_numbers g → unnumbered e ≡ unnumbered f
    → without_numbers (with_entry h e) ≡ without_numbers (with_entry g f)
entry_same h g e f same es =
    pushed h e ∙ ap (λ (x : History). with_entry x (unnumbered e)) same
    ∙ ap (with_entry (without_numbers g)) es ∙ sym (pushed g f)

-- what is read after one memory changed in each
set_reads : {B : Type 0} (f : Option Memory → B) (xs ys : List (Option Memory)) (i p : ℕ) (u v : Option Memory)
    → length xs ≡ length ys → (p ≡ i → f u ≡ f v) → f (get_or xs p None) ≡ f (get_or ys p None)
    → f (get_or (set xs i u) p None) ≡ f (get_or (set ys i v) p None)
set_reads f xs ys i p u v sizes here there = ⊎_elim
    (λ (e : p ≡ i). at e (nat_lt i (length xs)) refl)
    (λ (ne : p ≢ i). ap f (get_or-set_other xs i p u None ne) ∙ there ∙ sym (ap f (get_or-set_other ys i p v None ne)))
    (cases_eq p i) where
      at : p ≡ i → (b : Bool) → nat_lt i (length xs) ≡ b
          → f (get_or (set xs i u) p None) ≡ f (get_or (set ys i v) p None)
      at e true within =
          let i_in = ltb-true i (length xs) within in
          ap f (ap (λ m. get_or (set xs i u) m None) e ∙ get_or-set_same xs i u None i_in)
          ∙ here e
          ∙ sym (ap f (ap (λ m. get_or (set ys i v) m None) e ∙ get_or-set_same ys i v None (omega arith)))
      at e false past =
          let i_past = ltb-false i (length xs) past in
          let one = length-set xs i u in
          let other = length-set ys i v in
          ap f (get_or_past (set xs i u) p None (omega arith) ∙ sym (get_or_past (set ys i v) p None (omega arith)))

-- and in one of them
set_keeps : {B : Type 0} (f : Option Memory → B) (xs : List (Option Memory)) (i p : ℕ) (u : Option Memory)
    → (p ≡ i → f u ≡ f (get_or xs i None)) → f (get_or (set xs i u) p None) ≡ f (get_or xs p None)
set_keeps f xs i p u here =
    set_reads f xs xs i p u (get_or xs i None) refl here refl
    ∙ ap (λ l. f (get_or l p None)) (set-get_or xs i None)

-- a drawing
draw_list : (c : Option LogRefusal) (k : ℕ) (s r : State) (d : Draw) → Same k s r
    → without_numbers (draw_history c s.history (entry_of s 0 (events.Draw d)))
    ≡ without_numbers (draw_history c r.history (entry_of r 0 (events.Draw d)))
draw_list None k s r d same =
    entry_same s.history r.history (entry_of s 0 (events.Draw d)) (entry_of r 0 (events.Draw d)) same.list refl
draw_list (Some cause) k s r d same = same.list

draw_same : (k : ℕ) (s r : State) (d : Draw) → Same k s r → Same k (draw_outcome s d).1 (draw_outcome r d).1
draw_same k s r d same = record {
  list =
      ap (λ c. without_numbers (draw_history c s.history (entry_of s 0 (events.Draw d))))
      (both (λ h. allowed h d) (λ h. allowed_same h d) s.history r.history same.list)
      ∙ draw_list (allowed r.history d) k s r d same;
  clients = same.clients;
  size = same.size;
  own = same.own;
  others = same.others;
}

-- an opening
app_same : (k j : ℕ) (s r : State) → Same k s r → app_of s j ≡ app_of r j
app_same k j s r same = ap (λ xs. slice_index xs (j - 1)) same.clients

fresh_both : (k : ℕ) (s r : State) → Same k s r
    → fresh_memory s.history (length s.history.entries) ≡ fresh_memory r.history (length r.history.entries)
fresh_both k s r same =
    both (λ (h : History). fresh_memory h (length h.entries))
    (λ h. fresh_same h (length h.entries)
    ∙ ap (fresh_memory (without_numbers h)) (sym (length-map h.entries unnumbered))) s.history r.history same.list

opening_alike : (o : Result ℕ OpenRefusal) (k j : ℕ) (s r : State) → Same k s r
    → Same k (opening_outcome o s j).1 (opening_outcome o r j).1
    × ((opening_outcome o s j).0 ≡ (opening_outcome o r j).0)
opening_alike (Ok slot) k j s r same =
    let m : Option Memory = Some (fresh_memory s.history (length s.history.entries)) in
    let n : Option Memory = Some (fresh_memory r.history (length r.history.entries)) in
    let fresh : m ≡ n = ap Some (fresh_both k s r same) in
    let entry : ℕ → Entry = λ app. record { actor = j; step = 0; event = Opened slot app } in (
      record {
        list =
            entry_same s.history r.history (entry_of s j (Opened slot (app_of s j)))
            (entry_of r j (Opened slot (app_of r j))) same.list (ap entry (app_same k j s r same));
        clients = same.clients;
        size = length-set s.memories (j - 1) m ∙ same.size ∙ sym (length-set r.memories (j - 1) n);
        own =
            set_reads (λ (x : Option Memory). x) s.memories r.memories (j - 1) (k - 1) m n same.size (λ _. fresh)
            same.own;
        others =
            λ p. set_reads opened_of s.memories r.memories (j - 1) p m n same.size (λ _. ap opened_of fresh)
            (same.others p);
      },
      ap (λ l. answers.Opened (l + 1) slot) (length_same s.history r.history same.list),
    )
opening_alike (Err cause) k j s r same = (
  record { list = same.list; clients = same.clients; size = same.size; own = same.own; others = same.others },
  refl,
)

-- a closing
closing_alike : (o : Result ℕ CloseRefusal) (k j : ℕ) (s r : State) → Same k s r
    → Same k (closing_outcome o s j).1 (closing_outcome o r j).1
    × ((closing_outcome o s j).0 ≡ (closing_outcome o r j).0)
closing_alike (Ok slot) k j s r same = (
  record {
    list =
        entry_same s.history r.history (entry_of s j (Closed slot)) (entry_of r j (Closed slot)) same.list refl;
    clients = same.clients;
    size = length-set s.memories (j - 1) None ∙ same.size ∙ sym (length-set r.memories (j - 1) None);
    own =
        set_reads (λ (x : Option Memory). x) s.memories r.memories (j - 1) (k - 1) None None same.size (λ _. refl)
        same.own;
    others =
        λ p. set_reads opened_of s.memories r.memories (j - 1) p None None same.size (λ _. refl) (same.others p);
  },
  ap (λ l. answers.Closed (l + 1)) (length_same s.history r.history same.list),
)
closing_alike (Err cause) k j s r same = (
  record { list = same.list; clients = same.clients; size = same.size; own = same.own; others = same.others },
  refl,
)

abbrev place_slot : Option ℕ → History → Option ℕ
place_slot None h = None
place_slot (Some place) h = slot_at h place

slot_by_place : (o : Option Memory) (h : History) → slot_of o h ≡ place_slot (opened_of o) h
slot_by_place None h = refl
slot_by_place (Some m) h = refl

place_same : (o : Option ℕ) (h : History) → place_slot o h ≡ place_slot o (without_numbers h)
place_same None h = refl
place_same (Some place) h = slot_same h place

slot_both : (k j : ℕ) (s r : State) → Same k s r
    → slot_of (memory_of s j) s.history ≡ slot_of (memory_of r j) r.history
slot_both k j s r same =
    slot_by_place (memory_of s j) s.history
    ∙ ap (λ o. place_slot o s.history) (same.others (j - 1))
    ∙ both (place_slot (opened_of (memory_of r j))) (place_same (opened_of (memory_of r j))) s.history r.history
    same.list
    ∙ sym (slot_by_place (memory_of r j) r.history)

-- a call of a duplicator
client_opened : (call : DupCall) (o : Option Memory) (h : History)
    → opened_of (client_reply call o h).1 ≡ opened_of o
client_opened call None h = refl
client_opened call (Some m) h = ap Some (reply_opened call m h)

client_same : (call : DupCall) (o : Option Memory) (h : History)
    → client_reply call o h ≡ client_reply call o (without_numbers h)
client_same call None h = refl
client_same call (Some m) h = ap (λ (x : Answer × Memory). (x.0, Some x.1)) (reply_same call m h)

client_both : (k j : ℕ) (s r : State) (call : DupCall) → Same k s r → k - 1 ≡ j - 1
    → client_reply call (memory_of s j) s.history ≡ client_reply call (memory_of r j) r.history
client_both k j s r call same e =
    ap (λ (o : Option Memory). client_reply call o s.history)
    (ap (λ i. slice_index_or s.memories i None) (sym e) ∙ same.own ∙ ap (λ i. slice_index_or r.memories i None) e)
    ∙ both (client_reply call (memory_of r j)) (client_same call (memory_of r j)) s.history r.history same.list

asking_alike : (k j : ℕ) (s r : State) (call : DupCall) → Same k s r
    → Same k (asking_outcome s j call).1 (asking_outcome r j call).1
    × (j ≡ k → (asking_outcome s j call).0 ≡ (asking_outcome r j call).0)
asking_alike k j s r call same =
    let u : Option Memory = (client_reply call (memory_of s j) s.history).1 in
    let v : Option Memory = (client_reply call (memory_of r j) r.history).1 in (
      record {
        list = same.list;
        clients = same.clients;
        size = length-set s.memories (j - 1) u ∙ same.size ∙ sym (length-set r.memories (j - 1) v);
        own =
            set_reads (λ (x : Option Memory). x) s.memories r.memories (j - 1) (k - 1) u v same.size
            (λ e. ap (λ (x : Answer × Option Memory). x.1) (client_both k j s r call same e)) same.own;
        others =
            λ p. set_reads opened_of s.memories r.memories (j - 1) p u v same.size
            (λ _. client_opened call (memory_of s j) s.history ∙ same.others (j - 1)
            ∙ sym (client_opened call (memory_of r j) r.history)) (same.others p);
      },
      λ e. ap (λ (x : Answer × Option Memory). x.0)
          (client_both k j s r call same (ap (λ n. n - 1) (sym e))),
    )

-- a call of a client
call_alike : (call : ClientCall) (k j : ℕ) (s r : State) → Same k s r
    → Same k (call_outcome s j call).1 (call_outcome r j call).1
    × (j ≡ k → (call_outcome s j call).0 ≡ (call_outcome r j call).0)
call_alike calls.Duplicate k j s r same =
    let o : opening s.history (app_of s j) ≡ opening r.history (app_of r j) =
    ap (opening s.history) (app_same k j s r same)
    ∙ both (λ h. opening h (app_of r j)) (λ h. opening_same h (app_of r j)) s.history r.history same.list in
    let a = opening_alike (opening s.history (app_of s j)) k j s r same in (
      subst (λ (x : Result ℕ OpenRefusal).
          Same k (opening_outcome (opening s.history (app_of s j)) s j).1 (opening_outcome x r j).1) o a.0,
      λ _. a.1 ∙ ap (λ (x : Result ℕ OpenRefusal). (opening_outcome x r j).0) o,
    )
call_alike calls.Close k j s r same =
    let own = slot_both k j s r same in
    let o : closing s.history (slot_of (memory_of s j) s.history)
    ≡ closing r.history (slot_of (memory_of r j) r.history) =
    ap (closing s.history) own
    ∙ both (λ h. closing h (slot_of (memory_of r j) r.history))
    (λ h. closing_same h (slot_of (memory_of r j) r.history)) s.history r.history same.list in
    let a = closing_alike (closing s.history (slot_of (memory_of s j) s.history)) k j s r same in (
      subst (λ (x : Result ℕ CloseRefusal).
          Same k (closing_outcome (closing s.history (slot_of (memory_of s j) s.history)) s j).1
          (closing_outcome x r j).1) o a.0,
      λ _. a.1 ∙ ap (λ (x : Result ℕ CloseRefusal). (closing_outcome x r j).0) o,
    )
call_alike (calls.Acquire timeout) k j s r same = asking_alike k j s r asked.Acquire same
call_alike calls.Release k j s r same = asking_alike k j s r asked.Release same
call_alike (calls.Moves buffer) k j s r same = asking_alike k j s r (asked.Moves buffer) same
call_alike (calls.Dirty buffer) k j s r same = asking_alike k j s r (asked.Dirty buffer) same
call_alike (calls.Shape buffer) k j s r same = asking_alike k j s r (asked.Shape buffer) same
call_alike calls.Surface k j s r same = asking_alike k j s r asked.Surface same
call_alike calls.Desc k j s r same = asking_alike k j s r asked.Desc same

-- a step that is left
step_alike : (k : ℕ) (s r : State) (t : Step) → Same k s r
    → Same k (next s t).1 (next r t).1 × (is_of k t ≡ true → (next s t).0 ≡ (next r t).0)
unfolding next
step_alike k s r (steps.Draw d) same = (draw_same k s r d same, λ (e : false ≡ true). cc)
step_alike k s r (steps.Call j call) same =
    let a = call_alike call k j s r same in (a.0, λ e. a.1 (eqb-true j k e))

-- a step that is left out
one_more : (h : History) (e : Entry) → (length (with_entry h e).entries == length h.entries) ≡ true → ⊥
one_more h e same =
    let is = eqb-true (length (with_entry h e).entries) (length h.entries) same in
    let more = length-append h.entries (e ∷ []) in
    omega arith

opening_skip : (o : Result ℕ OpenRefusal) (k j : ℕ) (s r : State) → Same k s r
    → (length (opening_outcome o s j).1.history.entries == length s.history.entries) ≡ true
    → Same k (opening_outcome o s j).1 r
opening_skip (Ok slot) k j s r same none = absurd (one_more s.history (entry_of s j (Opened slot (app_of s j))) none)
opening_skip (Err cause) k j s r same none =
    record { list = same.list; clients = same.clients; size = same.size; own = same.own; others = same.others }

closing_skip : (o : Result ℕ CloseRefusal) (k j : ℕ) (s r : State) → Same k s r
    → (length (closing_outcome o s j).1.history.entries == length s.history.entries) ≡ true
    → Same k (closing_outcome o s j).1 r
closing_skip (Ok slot) k j s r same none = absurd (one_more s.history (entry_of s j (Closed slot)) none)
closing_skip (Err cause) k j s r same none =
    record { list = same.list; clients = same.clients; size = same.size; own = same.own; others = same.others }

asking_skip : (k j : ℕ) (s r : State) (call : DupCall) → k - 1 ≢ j - 1 → Same k s r
    → Same k (asking_outcome s j call).1 r
asking_skip k j s r call apart same =
    let u : Option Memory = (client_reply call (memory_of s j) s.history).1 in
    record {
      list = same.list;
      clients = same.clients;
      size = length-set s.memories (j - 1) u ∙ same.size;
      own =
          set_keeps (λ (x : Option Memory). x) s.memories (j - 1) (k - 1) u (λ e. absurd (apart e)) ∙ same.own;
      others =
          λ p. set_keeps opened_of s.memories (j - 1) p u (λ _. client_opened call (memory_of s j) s.history)
          ∙ same.others p;
    }

call_skip : (call : ClientCall) (k j : ℕ) (s r : State) → k - 1 ≢ j - 1 → Same k s r
    → (length (call_outcome s j call).1.history.entries == length s.history.entries) ≡ true
    → Same k (call_outcome s j call).1 r
call_skip calls.Duplicate k j s r apart same none =
    opening_skip (opening s.history (app_of s j)) k j s r same none
call_skip calls.Close k j s r apart same none =
    closing_skip (closing s.history (slot_of (memory_of s j) s.history)) k j s r same none
call_skip (calls.Acquire timeout) k j s r apart same none = asking_skip k j s r asked.Acquire apart same
call_skip calls.Release k j s r apart same none = asking_skip k j s r asked.Release apart same
call_skip (calls.Moves buffer) k j s r apart same none = asking_skip k j s r (asked.Moves buffer) apart same
call_skip (calls.Dirty buffer) k j s r apart same none = asking_skip k j s r (asked.Dirty buffer) apart same
call_skip (calls.Shape buffer) k j s r apart same none = asking_skip k j s r (asked.Shape buffer) apart same
call_skip calls.Surface k j s r apart same none = asking_skip k j s r asked.Surface apart same
call_skip calls.Desc k j s r apart same none = asking_skip k j s r asked.Desc apart same

and_both : (a b : Bool) → (a && b) ≡ true → (a ≡ true) × (b ≡ true)
and_both true b e = (refl, e)
and_both false b e = cc

not_true : (b : Bool) → not b ≡ true → b ≡ false
not_true true e = cc
not_true false e = refl

others_place : (k j : ℕ) → 1 ≤ k → (nat_le 1 j && not (j == k)) ≡ true → k - 1 ≢ j - 1
others_place k j k_from e same =
    let parts = and_both (nat_le 1 j) (not (j == k)) e in
    let j_from = leb-true 1 j parts.0 in
    let equal : j ≡ k = omega arith in
    let yes : (j == k) ≡ true = eq-eqb j k equal in
    let other : (j == k) ≡ false = not_true (j == k) parts.1 in
    cc

step_skip : (k : ℕ) (s r : State) (t : Step) → 1 ≤ k → Same k s r → is_of_other k t ≡ true
    → enters_nothing s t ≡ true → Same k (next s t).1 r
unfolding next
step_skip k s r (steps.Draw d) k_from same other none = cc
step_skip k s r (steps.Call j call) k_from same other none =
    call_skip call k j s r (others_place k j k_from other) same none

not_of : (k : ℕ) (t : Step) → is_of_other k t ≡ true → is_of k t ≡ false
not_of k (steps.Draw d) e = refl
not_of k (steps.Call j call) e = not_true (j == k) (and_both (nat_le 1 j) (not (j == k)) e).1

-- the whole list
abbrev Goes : ℕ → State → State → List Step → List Step → Type 0
Goes k s r ts us =
    (own_answers k r us ≡ own_answers k s ts)
    × (without_numbers (after r us).history ≡ without_numbers (after s ts).history)

answer_on : (b : Bool) (x y : Answer) (xs ys : List Answer) → (b ≡ true → y ≡ x) → ys ≡ xs
    → (if b then y ∷ ys else ys) ≡ (if b then x ∷ xs else xs)
answer_on true x y xs ys here rest = ap (λ a. a ∷ ys) (here refl) ∙ ap (λ l. x ∷ l) rest
answer_on false x y xs ys here rest = rest

-- from one step on, where the rest of the list goes
goes_on : (k : ℕ) (chosen : ℕ → Bool) (t : Step) (ts : List Step) (s r : State) → 1 ≤ k → Same k s r
    → ((q : State) → Same k (next s t).1 q → Goes k (next s t).1 q ts (left_steps k chosen (next s t).1 ts))
    → (b : Bool) → is_left_out k chosen s t ≡ b
    → Goes k s r (t ∷ ts)
    (if b then left_steps k chosen (next s t).1 ts else t ∷ left_steps k chosen (next s t).1 ts)
goes_on k chosen t ts s r k_from same rest true out =
    let parts = and_both (chosen s.steps && is_of_other k t) (enters_nothing s t) out in
    let other : is_of_other k t ≡ true = (and_both (chosen s.steps) (is_of_other k t) parts.0).1 in
    let later = rest r (step_skip k s r t k_from same other parts.1) in (
      later.0
          ∙ sym (ap (λ b. if b then (next s t).0 ∷ own_answers k (next s t).1 ts
          else own_answers k (next s t).1 ts) (not_of k t other)),
      later.1,
    )
goes_on k chosen t ts s r k_from same rest false left =
    let a = step_alike k s r t same in
    let later = rest (next r t).1 a.0 in (
      answer_on (is_of k t) (next s t).0 (next r t).0 (own_answers k (next s t).1 ts)
          (own_answers k (next r t).1 (left_steps k chosen (next s t).1 ts)) (λ e. sym (a.1 e)) later.0,
      later.1,
    )

goes : (k : ℕ) (chosen : ℕ → Bool) (ts : List Step) (s r : State) → 1 ≤ k → Same k s r
    → Goes k s r ts (left_steps k chosen s ts)
goes k chosen [] s r k_from same = (refl, sym same.list)
goes k chosen (t ∷ ts) s r k_from same =
    goes_on k chosen t ts s r k_from same (λ q same_q. goes k chosen ts (next s t).1 q k_from same_q)
    (is_left_out k chosen s t) refl

pub clients_are_independent : ClientsAreIndependent
clients_are_independent k chosen s ts k_from =
    goes k chosen ts s s k_from
    (record { list = refl; clients = refl; size = refl; own = refl; others = λ j. refl })
