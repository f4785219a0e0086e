-- What a step calls, and whom.
use Rattle.std.specs.Prelude.{ℕ, ◌≤◌, Option, Some, None}
use Rattle.dd_calls.specs.declared.steps.Step.{Step}
use Rattle.dd_calls.specs.declared.steps.Step.TheVariants as steps
use Rattle.dd_calls.specs.declared.steps.ClientCall.{ClientCall}
use Rattle.dd_calls.specs.declared.steps.ClientCall.TheVariants as calls
use Rattle.dd_calls.specs.declared.dup_call.DupCall.{DupCall}
use Rattle.dd_calls.specs.declared.dup_call.DupCall.TheVariants as dup_calls

-- a call is of one of n clients, numbered from 1
abbrev pub IsOfClient : ℕ → Step → Type 0
IsOfClient n (steps.Draw d) = Unit {0}
IsOfClient n (steps.Call k call) = (1 ≤ k) × (k ≤ n)

-- what a client's call asks of its duplicator; none where the call opens or closes it
abbrev pub asked : ClientCall → Option DupCall
asked calls.Duplicate = None
asked calls.Close = None
asked (calls.Acquire timeout) = Some dup_calls.Acquire
asked calls.Release = Some dup_calls.Release
asked (calls.Moves buffer) = Some (dup_calls.Moves buffer)
asked (calls.Dirty buffer) = Some (dup_calls.Dirty buffer)
asked (calls.Shape buffer) = Some (dup_calls.Shape buffer)
asked calls.Surface = Some dup_calls.Surface
asked calls.Desc = Some dup_calls.Desc
