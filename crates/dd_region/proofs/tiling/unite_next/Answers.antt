use Rattle.dd_region.proofs.UniteLemmas.{IsUnited-more, IsUnited-turned}
use Rattle.dd_region.proofs.tiling.unite_next.Goals as goal

pub returns-in_ok-push_run-clause-row : goal.returns-in_ok-push_run-clause-row
returns-in_ok-push_run-clause-row c =
    let more = c.in_ok-push_run.ensures in
    IsUnited-more c.args.first.now c.args.second.now _ _ _ _ (record { left = 0; right = 0 }) c.requires.row
    c.requires.first c.requires.second c.if-comes_first.ensures.first c.if-comes_first.ensures.before
    more.columns more.row more.begin

pub returns-in_ok-push_run-2-clause-row : goal.returns-in_ok-push_run-2-clause-row
returns-in_ok-push_run-2-clause-row c =
    let more = c.in_ok-push_run-2.ensures in
    let turned = IsUnited-turned c.args.first.now c.args.second.now _ _ _ c.requires.row in
    IsUnited-turned c.args.second.now c.args.first.now _ _ _
    (IsUnited-more c.args.second.now c.args.first.now _ _ _ _ (record { left = 0; right = 0 }) turned c.requires.second
    c.requires.first c.if-comes_first.ensures.second c.if-comes_first.ensures.after more.columns more.row more.begin)
