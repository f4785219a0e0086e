use Rattle.dd_log.specs.Log.{history}
use Rattle.dd_log.proofs.Pictures.{goes_on}
use Rattle.dd_log.proofs.log.Log.after.Goals as goal

pub returns-clause-fit : goal.returns-clause-fit
returns-clause-fit c = rw (c.split_at.ensures.back, c.as_slice.ensures.value, ← c.self.view_is)
    (λ none. (goes_on (history c.self.inside) c.args.place none).fit c.self.invariant.legal)
