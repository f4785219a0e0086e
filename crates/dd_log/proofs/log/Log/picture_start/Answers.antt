-- The last picture begins within the list.
use Rattle.dd_log.proofs.Desks.{start_tells}
use Rattle.dd_log.proofs.log.Log.picture_start.Goals as goal

pub returns-clause-within : goal.returns-clause-within
returns-clause-within c =
    let within = (start_tells c.self.inside.spec.modes c.self.inside.entries.items).within in
    rw (← c.self.view_is, c.self.invariant.desk) within
