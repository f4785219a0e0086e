-- The headline of a command: what was written is told by one trace, and each step of that trace is right.
use Rattle.std.specs.Prelude.{ℕ, List}
use Rattle.dd_calls.specs.declared.steps.Script.{Script}
use Rattle.dd_trace.specs.Trace.{Moment, trace, answers_of}
use Rattle.dd_trace.specs.Headline.{Headline}
use Rattle.dd_calls.specs.Counting.{counts_of}
use Rattle.dd_gen.specs.Generator.{made}
use Rattle.dd_script_write.specs.Texts as texts
use Rattle.dd_prog.specs.declared.command.Command.{Command}
use Rattle.dd_prog.specs.declared.command.Command.TheVariants.{Replay, Record, View, Gen, Sum}
use Rattle.dd_prog.specs.Commands.{replay_work, record_work}
use Rattle.dd_prog.specs.Exchange.{Exchange, GaveAll, Took}
use Rattle.dd_prog.specs.Recording.{record_told}

-- The bytes that came to their end are a script, in this sense; what was written is this of its trace; and each step of
-- the trace is right.
abbrev pub RunOf : {S K : Type 0} → ℕ → (List ℕ → Script → Type 0) → (List Moment → List ℕ) → Exchange S K → Type 0
RunOf limit is written x =
    (b : List ℕ) × (script : Script) × GaveAll x.source limit b × is b script × Took x.sink (written (trace script))
    × Headline script

-- of a command that is done
abbrev pub ToldByTrace : {S K : Type 0} → Command → Exchange S K → Type 0
ToldByTrace Replay x = RunOf replay_work.limit replay_work.accepts (λ ms. texts.text (answers_of ms)) x
ToldByTrace (Record client) x = RunOf (record_work client).limit (record_work client).accepts (record_told client) x
ToldByTrace (View frame) x = Unit {0}
ToldByTrace (Gen seed) x = Unit {0}
ToldByTrace (Sum seed) x =
    Took x.sink (texts.counts_line (counts_of (answers_of (trace (made seed))))) × Headline (made seed)
