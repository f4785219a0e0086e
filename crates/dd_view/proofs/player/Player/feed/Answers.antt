use Rattle.std.proofs.Common.{sym, ap, ◌∙◌}
use Rattle.dd_view.specs.Player.{Reader}
use Rattle.dd_view.proofs.Feeding.{feeds_failed}
use Rattle.dd_view.proofs.player.Player.feed.Goals as goal

pub returns-in-Failed-clause-fed : goal.returns-in-Failed-clause-fed
returns-in-Failed-clause-fed c =
    let stage = sym (ap (λ (r : Reader). r.stage) c.self.view_is) ∙ c.in-Failed.is in
    feeds_failed c.in-Failed.fault c.args.self.now c.stop.new.self c.args.piece.now stage c.stop.ensures.value
