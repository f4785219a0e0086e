-- What a command wrote is told by one trace.
use Rattle.std.proofs.Common.{sym, subst}
use Rattle.dd_calls.specs.declared.steps.Script.{Script}
use Rattle.dd_trace.specs.Headline.{Headline}
use Rattle.dd_calls.specs.Counting.{counts_of}
use Rattle.dd_trace.proofs.EachStep.{headline_holds}
use Rattle.dd_trace.proofs.Traced.{traced}
use Rattle.dd_gen.specs.Generator.{made}
use Rattle.dd_script_read.specs.Script.{IsRunnable}
use Rattle.dd_script_write.specs.Texts as texts
use Rattle.dd_script_read.proofs.Runnable.{script_runs}
use Rattle.dd_prog.specs.declared.command.Command.{Command}
use Rattle.dd_prog.specs.declared.command.Command.TheVariants.{Replay, Record, View, Gen, Sum}
use Rattle.dd_prog.specs.declared.status.Status.TheVariants.{Done}
use Rattle.dd_prog.specs.Commands.{task}
use Rattle.dd_prog.specs.Exchange.{Exchange, Took}
use Rattle.dd_prog.specs.Outcome.{TaskEnds}
use Rattle.dd_prog.specs.Telling.{ToldByTrace}
use Rattle.dd_prog.proofs.MadeRuns.{made_runnable}

headline_of : (script : Script) → IsRunnable script → Headline script
headline_of script runs = headline_holds script runs.few runs.calls

pub tells : (c : Command) → {S K : Type 0} (x : Exchange S K) → TaskEnds (task c) x Done → ToldByTrace c x
tells Replay x ends =
    let script = ends.1 in
    let is = ends.3 in (
      ends.0,
      script,
      ends.2,
      is,
      subst (λ given. Took x.sink (texts.text given)) (sym (traced script)) ends.4,
      headline_of script (script_runs is.0 script is.2),
    )
tells (Record client) x ends =
    let script = ends.1 in
    let is = ends.3 in (
      ends.0,
      script,
      ends.2,
      is,
      ends.4,
      headline_of script (script_runs is.0.0 script is.0.2),
    )
tells (View frame) x ends = tt
tells (Gen seed) x ends = tt
tells (Sum seed) x ends = (
  subst (λ given. Took x.sink (texts.counts_line (counts_of given))) (sym (traced (made seed))) ends.1,
  headline_of (made seed) (made_runnable seed),
)
