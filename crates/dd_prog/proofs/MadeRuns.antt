-- The script of every seed can be run.
use Rattle.std.proofs.Common.{ℕ, lit≤}
use Rattle.dd_script_read.specs.Script.{IsRunnable}
use Rattle.dd_gen.specs.Generator.{made}
use Rattle.dd_gen.proofs.Every.{scripts_are_made}

pub made_runnable : (seed : ℕ) → IsRunnable (made seed)
unfolding made
made_runnable seed =
    record {
      capacity_low = lit≤ tt;
      capacity_high = lit≤ tt;
      some = lit≤ tt;
      few = lit≤ tt;
      calls = (scripts_are_made seed).calls;
    }
