-- What the tests on a script say of it.
use Rattle.std.proofs.Common.{◌≡◌, ℕ, true, List, [], ◌∷◌, length, Some, None, cond, subst}
use Rattle.std.specs.Prelude.{nat_le}
use Rattle.std.specs.List.{list_all, AllByRecursion}
use Rattle.std.proofs.lemmas.Bool.{and_parts, leb-true}
use Rattle.std.proofs.lemmas.Option.{cond_some, option_and_then_some}
use Rattle.serde_json.specs.Data.{Data}
use Rattle.dd_calls.specs.declared.steps.Step.{Step}
use Rattle.dd_calls.specs.declared.steps.Step.TheVariants.{Draw, Call}
use Rattle.dd_calls.specs.declared.steps.Script.{Script}
use Rattle.dd_log.specs.declared.events.TheConstants.{MAX_CAPACITY}
use Rattle.dd_calls.specs.declared.steps.TheConstants.{MAX_CLIENTS}
use Rattle.dd_log.specs.declared.events.TheConstants.{MAX_PRIVILEGED}
use Rattle.dd_script_read.specs.Script.{parts_of, script_of, has_client, keeps_limits, IsRunnable}
use Rattle.dd_calls.specs.Calls.{IsOfClient}

of_client : (n : ℕ) (s : Step) → has_client n s ≡ true → IsOfClient n s
of_client n (Draw drawing) h = tt
of_client n (Call client call) h =
    let p = and_parts (nat_le 1 client) (nat_le client n) h in
    (leb-true _ _ p.0, leb-true _ _ p.1)

of_clients : (n : ℕ) (ss : List Step) → list_all (has_client n) ss ≡ true → AllByRecursion (IsOfClient n) ss
of_clients n [] h = tt
of_clients n (s ∷ ss) h =
    let p = and_parts (has_client n s) (list_all (has_client n) ss) h in
    (of_client n s p.0, of_clients n ss p.1)

runs : (s : Script) → keeps_limits s ≡ true → IsRunnable s
unfolding keeps_limits
runs s h =
    let calls = and_parts _ (list_all (has_client (length s.clients)) s.steps) h in
    let few = and_parts _ (nat_le (length s.clients) MAX_CLIENTS) calls.0 in
    let some = and_parts _ (nat_le 1 (length s.clients)) few.0 in
    let privileged = and_parts _ (nat_le (length s.spec.privileged) MAX_PRIVILEGED) some.0 in
    let capacity = and_parts (nat_le 1 s.spec.capacity) (nat_le s.spec.capacity MAX_CAPACITY) privileged.0 in
    record {
      capacity_low = leb-true _ _ capacity.0;
      capacity_high = leb-true _ _ capacity.1;
      some = leb-true _ _ some.1;
      few = leb-true _ _ few.1;
      calls = of_clients _ _ calls.1;
    }

-- each script runs within the limits
pub script_runs : (d : Data) (s : Script) → script_of d ≡ Some s → IsRunnable s
unfolding script_of
script_runs d s e =
    option_and_then_some (λ (r : Script). cond (keeps_limits r) (Some r) None) (parts_of d) s e (λ r read kept.
    let c = cond_some (keeps_limits r) r s kept in
    subst IsRunnable c.1 (runs r c.0))
