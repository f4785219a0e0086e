-- A mode that is found keeps the limits.
use Rattle.std.proofs.Common.{◌≡◌, List, slice_get, Option, subst, sym, ◌∙◌, ap}
use Rattle.std.specs.Prelude.{IfSome}
use Rattle.dd_geom.specs.Rect.{IsSize}
use Rattle.dd_modes.specs.declared.modes.Mode.{Mode}
use Rattle.dd_modes.proofs.Limits.{sizes_of_modes}
use Rattle.dd_modes.proofs.modes.Modes.get.Goals as goal

pub returns-clause-size : goal.returns-clause-size
returns-clause-size c =
    let found : c.found.result ≡ slice_get c.self.inside.items.items c.args.index =
    c.found.ensures ∙ ap (λ (ms : List Mode). slice_get ms c.args.index) c.as_slice.ensures.value in
    subst (λ (o : Option Mode). IfSome o (λ mode. IsSize mode.width mode.height)) (sym found)
    (sizes_of_modes c.self.inside.items.items c.args.index c.self.invariant)
