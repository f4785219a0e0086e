use Rattle.std.proofs.Common.{◌≡◌, Bool, ◌∙◌, ap, sym, append-nil}
use Rattle.dd_geom.specs.Grid.{Grid}
use Rattle.dd_acc.proofs.Origins.{dirtied-none, width-dirtied, height-dirtied}
use Rattle.dd_ops.proofs.Fitting.{fits_at}
use Rattle.dd_acc.proofs.Counting.{area_more, moves_more}
use Rattle.dd_acc.proofs.interval.add_effects.Goals as goal

pub loop-op-init : goal.loop-op-init
loop-op-init g c = (dirtied-none (g.A.Area.points c.args.area.now) c.requires.whole, sym (append-nil c.args.moves.now))

pub add_effect-requires : goal.add_effect-requires
add_effect-requires g c =
    let old = g.A.Area.points c.args.area.now in
    let so_far = c.loop-op.invariant.0 in
    let wide : (g.A.Area.points c.loop-op.area).width ≡ old.width = ap (λ (s : Grid Bool). s.width) so_far
    ∙ width-dirtied old _ in
    let high : (g.A.Area.points c.loop-op.area).height ≡ old.height = ap (λ (s : Grid Bool). s.height) so_far
    ∙ height-dirtied old _ in
    rw (wide, high)
    (fits_at old.width old.height c.args.ops.now c.loop-op.op-index c.op-item.result c.requires.fit c.loop-op-test.true
    c.op-item.is)

pub loop-op-preserved : goal.loop-op-preserved
loop-op-preserved g c = (
  c.in_ok-add_effect.ensures.area
      ∙ area_more (g.A.Area.points c.args.area.now) (g.A.Area.points c.loop-op.area) c.args.moves.now c.loop-op.moves
      c.args.ops.now c.loop-op.op-index c.op-item.result c.loop-op-test.true c.op-item.is c.requires.fit
      c.loop-op.invariant.0 c.loop-op.invariant.1,
  c.in_ok-add_effect.ensures.moves
      ∙ moves_more c.args.moves.now c.loop-op.moves c.args.ops.now c.loop-op.op-index c.op-item.result
      c.loop-op-test.true c.op-item.is c.loop-op.invariant.1,
)
