-- A list of modes has a first one, and it keeps the limits.
use Rattle.std.proofs.Common.{◌≡◌, ◌<◌, sym, subst, rules, List, [], ◌∷◌, length, slice_index_or, arith}
use Rattle.dd_geom.specs.Rect.{IsSize}
use Rattle.dd_modes.specs.declared.modes.Mode.{Mode}
use Rattle.dd_modes.specs.Modes.{first_mode}
use Rattle.dd_modes.proofs.Limits.{first_of_modes}
use Rattle.dd_modes.proofs.modes.Modes.first.Goals as goal

at_front : (ms : List Mode) (m : Mode) → 0 < length ms → m ≡ slice_index_or ms 0 m → m ≡ first_mode ms
at_front [] m h e = absurd (omega arith)
at_front (x ∷ ms) m h e = e

pub index-requires : goal.index-requires
index-requires c =
    let f = first_of_modes c.self.inside.items.items c.self.invariant in
    let there : 0 < length c.self.inside.items.items = f.0 in
    search rules

pub returns-clause-value : goal.returns-clause-value
returns-clause-value c =
    let f = first_of_modes c.self.inside.items.items c.self.invariant in
    rw (← c.self.view_is) (at_front c.self.inside.items.items c.index.result.now f.0 c.index.ensures)

pub returns-clause-size : goal.returns-clause-size
returns-clause-size c =
    let f = first_of_modes c.self.inside.items.items c.self.invariant in
    let at : c.index.result.now ≡ first_mode c.self.inside.items.items =
    at_front c.self.inside.items.items c.index.result.now f.0 c.index.ensures in
    subst (λ (m : Mode). IsSize m.width m.height) (sym at) f.1
