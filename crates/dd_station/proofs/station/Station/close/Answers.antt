use Rattle.std.proofs.Common.{◌≡◌, ℕ, ◌+◌, ◌-◌, ◌<◌, ◌∙◌, List, Option, Some, None, Ok, Result, length, sym, ap, subst, arith}
use Rattle.std.specs.Prelude.{slice_set}
use Rattle.dd_log.specs.declared.events.Event.TheVariants.{Closed}
use Rattle.dd_calls.specs.declared.answers.CloseRefusal.{CloseRefusal}
use Rattle.dd_log.specs.History.{History, with_entry}
use Rattle.dd_table.specs.Opening.{closing}
use Rattle.dd_table.proofs.Openings.{closing_granted}
use Rattle.dd_dup.specs.Reply.{Memory}
use Rattle.dd_dup.specs.Duplicator.{Duplicator}
use Rattle.dd_station.specs.Run.{State, memory_of, closing_outcome}
use Rattle.dd_dup.specs.Reply.{slot_of}
use Rattle.dd_station.specs.Station.{state, IsKept}
use Rattle.dd_station.proofs.Kept.{kept_closed, slot_open, memories-set}
use Rattle.dd_station.proofs.station.Station.close.Goals as goal

abbrev with_memories : History → List ℕ → List (Option Memory) → ℕ → State
with_memories h clients ms n = record { history = h; clients = clients; memories = ms; steps = n }

-- the value of a station after a closing
closed : (h new : History) (clients : List ℕ) (dups : List (Option Duplicator)) (n k slot : ℕ) (own : Option ℕ)
    → new ≡ with_entry h (record { actor = k; step = n + 1; event = Closed slot })
    → own ≡ slot_of (memory_of (state h clients dups n) k) h → Ok slot ≡ closing h own
    → state new clients (slice_set dups (k - 1) None) (n + 1)
    ≡ (closing_outcome (closing h (slot_of (memory_of (state h clients dups n) k) h)) (state h clients dups n) k).1
closed h new clients dups n k slot own new_is own_is e =
    ap (λ (g : History). state g clients (slice_set dups (k - 1) None) (n + 1)) new_is
    ∙ ap (λ (ms : List (Option Memory)). with_memories
    (with_entry h (record { actor = k; step = n + 1; event = Closed slot })) clients ms (n + 1))
    (memories-set dups (k - 1) None)
    ∙ ap (λ (r : Result ℕ CloseRefusal). (closing_outcome r (state h clients dups n) k).1) e
    ∙ ap (λ (o : Option ℕ). (closing_outcome (closing h o) (state h clients dups n) k).1) own_is

pub invariant_of-self : goal.invariant_of-self
invariant_of-self c =
    let h = c.self.inside.log in
    let n = c.self.inside.steps in
    let k = c.args.client in
    let clients = c.self.inside.clients.items in
    let dups = c.self.inside.dups.items in
    let slot = c.in-Ok.slot in
    let same_clients : length clients ≡ length c.args.self.now.clients =
    ap (λ (s : State). length s.clients) c.self.view_is in
    let i_in : k - 1 < length dups =
    omega (arith, same_clients, c.self.invariant.places, c.requires.from, c.requires.to) in
    let own : slot_of (memory_of (state h clients dups n) k) h ≡ Some slot =
    ap (λ (s : State). slot_of (memory_of s k) s.history) c.self.view_is
    ∙ sym c.slot_of-own.ensures.value
    ∙ closing_granted h c.slot_of-own.result slot (sym c.in-Ok.ensures) in
    let there = slot_open h clients dups n (k - 1) slot i_in c.self.invariant own in
    subst (λ (g : History). IsKept g clients (slice_set dups (k - 1) None) (n + 1)) (sym c.close-entry.ensures.list)
    (kept_closed h k n slot clients dups (k - 1) i_in c.self.invariant there.0 there.1)

pub returns-in-Ok-clause-state : goal.returns-in-Ok-clause-state
returns-in-Ok-clause-state c =
    let h = c.self.inside.log in
    let n = c.self.inside.steps in
    let k = c.args.client in
    let clients = c.self.inside.clients.items in
    let dups = c.self.inside.dups.items in
    closed h c.close-entry.new.log clients dups n k c.in-Ok.slot c.slot_of-own.result c.close-entry.ensures.list
    (c.slot_of-own.ensures.value ∙ sym (ap (λ (s : State). slot_of (memory_of s k) s.history) c.self.view_is))
    c.in-Ok.ensures
    ∙ ap (λ (s : State). (closing_outcome (closing s.history (slot_of (memory_of s k) s.history)) s k).1)
    c.self.view_is
