-- The client is there after its step, which left what the answer and the duplicator then say.
use Rattle.std.proofs.Common.{◌≡◌, Option, length, sym, ap, ◌∙◌, subst, arith}
use Rattle.std.specs.Prelude.{option_map, IfSome}
use Rattle.dd_log.specs.History.{desk_mode}
use Rattle.dd_dup.specs.Duplicator.{Duplicator}
use Rattle.dd_dup.specs.Stands.{Stands}
use Rattle.dd_calls.specs.declared.steps.Step.TheVariants.{Call}
use Rattle.dd_station.specs.Run.{State, next, memory_of}
use Rattle.dd_calls.specs.Calls.{IsOfClient}
use Rattle.dd_trace.specs.Trace.{moment_of}
use Rattle.dd_station.proofs.Stepped.{stepped_next}
use Rattle.dd_prog.specs.Exchange.{side}
use Rattle.dd_prog.specs.Leaving.{left_by, bytes_left}
use Rattle.dd_prog.specs.Outcome.{WritesText}
use Rattle.dd_prog.specs.Recording.{chunk_at}
use Rattle.dd_prog.proofs.Left.{step_leaves, lent_memory, lent_stands}
use Rattle.dd_prog.proofs.recording.record_step.Goals as goal

pub dup-requires-clause-to : goal.dup-requires-clause-to
dup-requires-clause-to g c =
    let of = subst (IsOfClient (length c.args.station.now.clients)) c.in-Call.is c.requires.client in
    let last = of.1 in
    let same = c.if-caller-client.true in
    let clients = ap length (ap (λ s. s.clients) c.in_ok-answer.ensures.state
    ∙ (stepped_next c.args.station.now c.args.step.now).0) in
    omega (arith, last, same, clients)

pub returns-in-Call-clause-wrote : goal.returns-in-Call-clause-wrote
returns-in-Call-clause-wrote g c =
    let s : State = c.args.station.now in
    let client = c.args.client in
    let caller = c.in-Call.caller in
    let call = c.in-Call.call in
    let mode = c.mode-mode.result in
    let dup : Option Duplicator = option_map (λ d. d.now) c.dup.result in
    let state : c.step.new.self ≡ (next s (Call caller call)).1 =
    c.in_ok-answer.ensures.state ∙ ap (λ t. (next s t).1) c.in-Call.is in
    let memory = lent_memory (λ d. d.now) c.dup.result ∙ c.dup.ensures.memory ∙ ap (λ n. memory_of n client) state in
    let stands = subst (λ n. IfSome dup (λ d. Stands d n.history)) state
    (lent_stands (λ d. d.now) c.dup.result c.step.new.self.history c.dup.ensures.stands) in
    let left : left_by c.in_ok-answer.answer mode dup ≡ bytes_left (chunk_at client (moment_of s c.args.step.now)) =
    ap (λ a. left_by a mode dup) (c.in_ok-answer.ensures.answer ∙ ap (λ t. (next s t).0) c.in-Call.is)
    ∙ ap (λ m. left_by (next s (Call caller call)).0 m dup) (c.mode-mode.ensures.value ∙ ap desk_mode c.log.ensures)
    ∙ step_leaves s client caller call dup c.if-caller-client.true memory stands
    ∙ ap (λ t. bytes_left (chunk_at client (moment_of s t))) (sym c.in-Call.is) in
    subst (λ bs. WritesText (side g.K.Sink.held g.K.Sink.faults c.args.sink.now c.leave.new.sink) bs c.leave.result) left
    c.leave.ensures.wrote
