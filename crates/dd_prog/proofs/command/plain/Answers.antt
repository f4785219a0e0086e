-- The command that the words are is done, unless a cause stands.
use Rattle.std.proofs.Common.{◌≡◌, ◌∙◌, sym, subst, ap, map, string_bytes, Some, rules}
use Rattle.std.specs.Prelude.{IfOk, IfSome}
use Rattle.dd_prog.specs.Commands.{command_of, task}
use Rattle.dd_prog.specs.Exchange.{Exchange, side}
use Rattle.dd_prog.specs.Outcome.{TaskEnds}
use Rattle.dd_prog.specs.Telling.{ToldByTrace}
use Rattle.dd_prog.proofs.Completing.{task_completes}
use Rattle.dd_prog.proofs.Told.{tells}
use Rattle.dd_prog.proofs.command.plain.Goals as goal

pub returns-in-Ok-Some-clause-complete : goal.returns-in-Ok-Some-clause-complete
returns-in-Ok-Some-clause-complete g c =
    let x : Exchange g.row.S.Denot g.row.K.Denot = record {
      source = side g.S.Source.left g.S.Source.faults c.args.source.now c.perform.new.source;
      sink = side g.K.Sink.held g.K.Sink.faults c.args.sink.now c.perform.new.sink;
    } in
    let found = subst (λ r. IfOk r (λ o. o ≡ command_of (map string_bytes c.deref.result.now)))
    c.in-Ok-Some.is c.command_of.ensures.value
    in
    let is : command_of (map string_bytes c.args.words.now.items) ≡ Some c.in-Ok-Some.command =
    ap (λ ws. command_of (map string_bytes ws)) (sym c.deref.ensures.value) ∙ (sym found ∙ search rules)
    in
    rw is
    (task_completes (task c.in-Ok-Some.command) c.perform.result x c.perform.ensures.outcome c.perform.ensures.told)

pub returns-in-Ok-Some-clause-headline : goal.returns-in-Ok-Some-clause-headline
returns-in-Ok-Some-clause-headline g c done =
    let command = c.in-Ok-Some.command in
    let x : Exchange g.row.S.Denot g.row.K.Denot = record {
      source = side g.S.Source.left g.S.Source.faults c.args.source.now c.perform.new.source;
      sink = side g.K.Sink.held g.K.Sink.faults c.args.sink.now c.perform.new.sink;
    } in
    let found = subst (λ r. IfOk r (λ o. o ≡ command_of (map string_bytes c.deref.result.now)))
    c.in-Ok-Some.is c.command_of.ensures.value
    in
    let is : command_of (map string_bytes c.args.words.now.items) ≡ Some command =
    ap (λ ws. command_of (map string_bytes ws)) (sym c.deref.ensures.value) ∙ (sym found ∙ search rules)
    in
    subst (λ o. IfSome o (λ named. ToldByTrace named x)) (sym is)
    (tells command x (subst (λ status. TaskEnds (task command) x status) done c.perform.ensures.outcome))
