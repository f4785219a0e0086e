use Rattle.dd_dup.proofs.Veiling.{lends_veil}
use Rattle.dd_dup.proofs.duplicator.Dup.surface.Goals as goal

pub returns-clause-veiled : goal.returns-clause-veiled
returns-clause-veiled c = lends_veil _ c.args.self.now c.lent_surface.ensures
