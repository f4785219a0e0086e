-- The points where two rectangles meet, and that there are none where the sides leave no room.
use Rattle.std.proofs.Common.{sym, ◌∙◌}
use Rattle.dd_geom.proofs.RectLemmas.{CoversBoth-met, AreApart-met}
use Rattle.dd_geom.proofs.rect.intersect.Goals as goal

pub returns-then-has_points-clause-common : goal.returns-then-has_points-clause-common
returns-then-has_points-clause-common c = CoversBoth-met c.meet-r.result c.args.a c.args.b c.meet-r.ensures

pub returns-else-has_points-clause-none : goal.returns-else-has_points-clause-none
returns-else-has_points-clause-none c =
    AreApart-met c.meet-r.result c.args.a c.args.b c.meet-r.ensures (sym c.has_points.ensures ∙ c.if-has_points.false)
