-- A client and a frame are counted from 1.
use Rattle.std.proofs.Common.{map, string_bytes, sym, subst, rules}
use Rattle.std.specs.Prelude.{IfSome}
use Rattle.std.proofs.lemmas.Result.{IfOk-weaker}
use Rattle.dd_prog.specs.Commands.{IsCounted}
use Rattle.dd_prog.proofs.Taken.{counted}
use Rattle.dd_prog.proofs.command_line.command_of.Goals as goal

pub returns-clause-value : goal.returns-clause-value
returns-clause-value c = search rules

pub returns-clause-counted : goal.returns-clause-counted
returns-clause-counted c =
    IfOk-weaker c.map_err.result _ _
    (λ o is. subst (λ x. IfSome x IsCounted) (sym is) (counted (map string_bytes c.args.words.now)))
    (returns-clause-value c)
