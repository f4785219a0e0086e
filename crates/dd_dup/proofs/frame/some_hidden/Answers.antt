use Rattle.std.proofs.Common.{sym, subst, Bool}
use Rattle.std.specs.Prelude.{IsTrue, ◌↔◌}
use Rattle.dd_geom.specs.Grid.{Grid}
use Rattle.dd_bits.specs.Area.{IsNowhere}
use Rattle.dd_acc.proofs.Hiding.{hides_unless}
use Rattle.dd_dup.proofs.frame.some_hidden.Goals as goal

pub returns : goal.returns
returns c p whole is =
    sym
    (hides_unless p c.is_empty.result whole
    (subst (λ (g : Grid Bool). IsTrue c.is_empty.result ↔ IsNowhere g) is c.is_empty.ensures.empty))
