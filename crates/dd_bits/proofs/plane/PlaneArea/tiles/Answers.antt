-- Tiles of one point change nothing.
use Rattle.std.proofs.Common.{◌≡◌, ◌*◌, Bool, length, sym, subst, ap, ◌∙◌, arith}
use Rattle.dd_geom.specs.Grid.{Grid}
use Rattle.dd_bits.specs.Tiles.{tiles}
use Rattle.dd_bits.proofs.TileLemmas.{tiles_one}
use Rattle.dd_bits.proofs.plane.PlaneArea.tiles.Goals as goal

pub returns-else-t-gt1-clause-ok : goal.returns-else-t-gt1-clause-ok
returns-else-t-gt1-clause-ok c =
    let g : Grid Bool = c.args.self.now in
    let one : c.args.t ≡ 1 = omega arith in
    let whole : length g.cells ≡ g.width * g.height =
    subst (λ (v : Grid Bool). length v.cells ≡ v.width * v.height) c.self.view_is c.self.invariant.whole in
    sym (ap (λ n. tiles n g) one ∙ tiles_one g whole)
