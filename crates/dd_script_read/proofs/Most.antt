-- Each limit of a script as a number, kept and passed by one.
use Rattle.std.proofs.Common.{◌≡◌, ◌^◌, [], ◌∷◌, ℕ, true, false, refl, map, replicate}
use Rattle.dd_modes.specs.declared.modes.Rotation.TheVariants.{Identity}
use Rattle.dd_modes.specs.declared.modes.TheConstants.{MAX_MODES}
use Rattle.dd_grid.specs.declared.cell.TheConstants.{COLOURS}
use Rattle.dd_ops.specs.declared.lists.TheConstants.{MAX_OPS}
use Rattle.dd_log.specs.declared.events.TheConstants.{MAX_CAPACITY}
use Rattle.dd_calls.specs.declared.steps.ClientCall.TheVariants.{Duplicate}
use Rattle.dd_calls.specs.declared.steps.Step.TheVariants.{Call}
use Rattle.dd_calls.specs.declared.steps.Script.{Script}
use Rattle.dd_calls.specs.declared.steps.TheConstants.{MAX_CLIENTS}
use Rattle.dd_log.specs.declared.events.TheConstants.{MAX_PRIVILEGED}
use Rattle.dd_script_read.specs.declared.calls.TheConstants.{MAX_BUFFER}
use Rattle.dd_script_read.specs.Script.{keeps_limits}

greatest_capacity : MAX_CAPACITY ≡ 1048576
greatest_capacity = refl

most_clients : MAX_CLIENTS ≡ 16
most_clients = refl

most_privileged : MAX_PRIVILEGED ≡ 16
most_privileged = refl

most_modes : MAX_MODES ≡ 16
most_modes = refl

most_operations : MAX_OPS ≡ 64
most_operations = refl

colours : COLOURS ≡ 2 ^ 24
colours = refl

greatest_buffer : MAX_BUFFER ≡ 524288
greatest_buffer = refl

-- a script with so many applications of each kind, of this capacity and with one step of a client
abbrev counted : ℕ → ℕ → ℕ → ℕ → Script
counted capacity privileged clients client =
    record {
      spec = record { modes = record { width = 1; height = 1; rotation = Identity } ∷ []; capacity = capacity; privileged = replicate privileged 1 };
      clients = replicate clients 1;
      steps = Call client Duplicate ∷ [];
    }

all_at_the_greatest : keeps_limits (counted 1048576 16 16 16) ≡ true
unfolding keeps_limits
all_at_the_greatest = refl

all_at_the_least : keeps_limits (counted 1 0 1 1) ≡ true
unfolding keeps_limits
all_at_the_least = refl

-- each limit passed by one
past_a_limit : map keeps_limits
    (counted 0 0 1 1 ∷ counted 1048577 0 1 1 ∷ counted 1 17 1 1 ∷ counted 1 0 0 1 ∷ counted 1 0 17 1 ∷ counted 1 0 1 0 ∷ counted 1 0 1 2 ∷ [])
    ≡ replicate 7 false
unfolding keeps_limits
past_a_limit = refl
