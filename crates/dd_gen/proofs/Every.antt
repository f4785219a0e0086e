-- What holds of the script of every seed.
use Rattle.std.proofs.Common.{refl}
use Rattle.dd_modes.specs.Modes.{is_mode, are_modes}
use Rattle.dd_gen.specs.Generator.{made}
use Rattle.dd_gen.specs.EverySeed.{ScriptsAreMade}
use Rattle.dd_gen.proofs.Counts.{steps-count}
use Rattle.dd_gen.proofs.Passing.{steps-pass, of_clients}

pub scripts_are_made : ScriptsAreMade
unfolding made are_modes is_mode
scripts_are_made seed =
    record {
      modes = refl;
      capacity = refl;
      clients = refl;
      count = steps-count seed;
      steps = steps-pass seed;
      calls = of_clients _ (steps-pass seed);
    }
