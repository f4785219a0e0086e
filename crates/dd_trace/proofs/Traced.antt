-- The answers in a trace are those of the run.
use Rattle.std.proofs.Common.{◌≡◌, List, [], ◌∷◌, refl, ap}
use Rattle.dd_calls.specs.declared.answers.Answer.{Answer}
use Rattle.dd_calls.specs.declared.steps.Step.{Step}
use Rattle.dd_station.specs.Run.{State, start, next, answers, run}
use Rattle.dd_trace.specs.Trace.{moments, trace, answers_of, TraceIsTheRun}

answers-moments : (s : State) (ts : List Step) → answers_of (moments s ts) ≡ answers s ts
answers-moments s [] = refl
answers-moments s (t ∷ ts) = ap (λ (rest : List Answer). (next s t).0 ∷ rest) (answers-moments (next s t).1 ts)

pub traced : TraceIsTheRun
unfolding trace run
traced script = answers-moments (start script.spec script.clients) script.steps
