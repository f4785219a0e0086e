use Rattle.std.proofs.Common.{◌≡◌, ℕ, ◌+◌, ◌-◌, ◌<◌, ◌∙◌, true, List, Option, None, length, ap, sym, arith}
use Rattle.std.specs.Prelude.{slice_set, slice_index, is_some}
use Rattle.std.proofs.lemmas.List.{get_or_default}
use Rattle.dd_dup.specs.Reply.{Memory}
use Rattle.dd_station.specs.Run.{State, client_reply, memory_of, reply_outcome}
use Rattle.dd_station.specs.Station.{memories}
use Rattle.dd_station.proofs.Kept.{kept_counted, kept_set, slot_asked, slots_there, memories-set, memories-get}
use Rattle.dd_log.specs.History.{History}
use Rattle.dd_station.proofs.station.Station.ask.Goals as goal

abbrev looked_state : History → List ℕ → List (Option Memory) → ℕ → State
looked_state h clients ms n = record { history = h; clients = clients; memories = ms; steps = n }

pub invariant_of-self-2 : goal.invariant_of-self-2
invariant_of-self-2 c =
    let h = c.self.inside.log in
    let n = c.self.inside.steps in
    let clients = c.self.inside.clients.items in
    let dups = c.self.inside.dups.items in
    let i = c.args.client - 1 in
    let o = c.index_mut.result.now in
    let is = c.index_mut.ensures.value in
    let same_clients : length clients ≡ length c.args.self.now.clients =
    ap (λ (s : State). length s.clients) c.self.view_is in
    let i_in : i < length dups = omega (arith, same_clients, c.self.invariant.places, c.requires.from, c.requires.to) in
    let slot = slot_asked o c.answer_of.new.dup c.args.call h (slice_index clients i) c.in_ok-answer.ensures.memory
    (slots_there h clients dups n i o i_in is c.self.invariant) in
    kept_counted h clients (slice_set dups i c.answer_of.new.dup) n
    (kept_set h clients dups n i c.answer_of.new.dup i_in c.self.invariant c.in_ok-answer.ensures.stands slot.0
    (λ (s : is_some c.answer_of.new.dup ≡ true). sym (ap is_some (is ∙ get_or_default dups i o None i_in)) ∙ slot.1 s))

pub returns-clause-state : goal.returns-clause-state
returns-clause-state c =
    let dups = c.self.inside.dups.items in
    let log = c.self.inside.log in
    let i = c.args.client - 1 in
    let same_clients : length c.self.inside.clients.items ≡ length c.args.self.now.clients =
    ap (λ (s : State). length s.clients) c.self.view_is in
    let i_in : i < length dups = omega (arith, same_clients, c.self.invariant.places, c.requires.from, c.requires.to) in
    ap (λ (ms : List (Option Memory)). looked_state log c.self.inside.clients.items ms (c.self.inside.steps + 1))
    (memories-set dups i c.answer_of.new.dup
    ∙ ap (slice_set (memories dups) i)
    (c.in_ok-answer.ensures.memory
    ∙ ap (λ (m : Option Memory). (client_reply c.args.call m log).1)
    (memories-get dups i c.index_mut.result.now i_in c.index_mut.ensures.value)))
    ∙ ap (λ (s : State).
    (reply_outcome s c.args.client (client_reply c.args.call (memory_of s c.args.client) s.history)).1) c.self.view_is
