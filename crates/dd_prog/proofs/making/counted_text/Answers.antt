-- The script of each seed can be run, and has few steps.
use Rattle.std.proofs.Common.{◌<◌, ◌-◌, ◌^◌, length, sym, subst, arith}
use Rattle.dd_script_read.specs.Script.{IsRunnable}
use Rattle.dd_gen.proofs.Every.{scripts_are_made}
use Rattle.dd_prog.proofs.MadeRuns.{made_runnable}
use Rattle.dd_prog.proofs.making.counted_text.Goals as goal

pub count_run-requires-clause-whole : goal.count_run-requires-clause-whole
count_run-requires-clause-whole c =
    subst (λ s. IsRunnable s) (sym c.in_ok-script.ensures) (made_runnable c.args.seed)

pub count_run-requires-clause-count : goal.count_run-requires-clause-count
count_run-requires-clause-count c =
    let made = (scripts_are_made c.args.seed).count in
    subst (λ s. length s.steps < 2 ^ 32 - 1) (sym c.in_ok-script.ensures) (omega (arith, made))
