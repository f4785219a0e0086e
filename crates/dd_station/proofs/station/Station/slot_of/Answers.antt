use Rattle.std.proofs.Common.{◌≡◌, ◌-◌, ◌<◌, ◌∙◌, length, sym, ap, subst, arith}
use Rattle.std.specs.Prelude.{position, IsTrue, IfSome}
use Rattle.dd_log.specs.declared.events.Event.TheVariants.{Closed}
use Rattle.dd_log.specs.Desk.{is_app, finds_slot}
use Rattle.dd_log.specs.History.{desk}
use Rattle.dd_station.specs.Run.{State, memory_of}
use Rattle.dd_dup.specs.Reply.{slot_of}
use Rattle.dd_station.proofs.Kept.{app_there, slot_there, slot_taken_if}
use Rattle.dd_station.proofs.station.Station.slot_of.Goals as goal

pub returns-in-Some-clause-value : goal.returns-in-Some-clause-value
returns-in-Some-clause-value c =
    let h = c.self.inside.log in
    let clients = c.self.inside.clients.items in
    let dups = c.self.inside.dups.items in
    let i = c.args.client - 1 in
    let same_clients : length clients ≡ length c.args.self.now.clients =
    ap (λ (s : State). length s.clients) c.self.view_is in
    let i_in : i < length clients = omega (arith, same_clients, c.requires.from, c.requires.to) in
    let i_there : i < length dups = omega (arith, i_in, c.self.invariant.places) in
    c.slot_of.ensures
    ∙ ap (λ a. position (is_app a) (desk h).slots)
    (app_there clients i c.index-in-Some.result.now i_in c.index-in-Some.ensures)
    ∙ sym (slot_there h clients dups c.self.inside.steps i c.index.result.now c.in-Some.field-0 i_there c.index.ensures
    c.in-Some.is c.self.invariant)
    ∙ ap (λ (s : State). slot_of (memory_of s c.args.client) s.history) c.self.view_is

pub returns-in-Some-clause-open : goal.returns-in-Some-clause-open
returns-in-Some-clause-open c =
    subst (λ (s : State). IfSome c.slot_of.result (λ slot. IsTrue (finds_slot (desk s.history).slots (Closed slot))))
    c.self.view_is (slot_taken_if c.slot_of.result c.self.inside.log c.index-in-Some.result.now c.slot_of.ensures)
