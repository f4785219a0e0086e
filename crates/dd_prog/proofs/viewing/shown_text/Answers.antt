-- Why the input wasn't read; and what was made of a player that was fed all of it.
use Rattle.std.proofs.Common.{◌≡◌, Ok, Err, ap, subst}
use Rattle.std.proofs.lemmas.Result.{err_from_is_err_and}
use Rattle.dd_view.specs.Player.{Reader}
use Rattle.dd_prog.specs.Exchange.{side}
use Rattle.dd_prog.specs.Viewing.{FedAll}
use Rattle.dd_prog.proofs.Pictured.{texts}
use Rattle.dd_prog.proofs.viewing.shown_text.Goals as goal

pub returns-in_err-fault-clause-texts : goal.returns-in_err-fault-clause-texts
returns-in_err-fault-clause-texts g c =
    let p = err_from_is_err_and c.from_residual-in_err-fault.result c.from_residual-in_err-fault.ensures.1 in
    let asked : c.in_ok-player.player.asked ≡ c.args.frame = ap (λ (r : Reader). r.asked) c.in_ok-player.ensures in
    let sides = side g.S.Source.left g.S.Source.faults c.args.source.now c.feed_all.new.source in
    rw (p.1, p.2)
    (subst (λ n. FedAll n sides (Err c.in_err-fault.field-0.0) c.feed_all.new.player) asked c.in_err-fault.ensures.fed)

pub returns-clause-texts : goal.returns-clause-texts
returns-clause-texts g c =
    let asked : c.in_ok-player.player.asked ≡ c.args.frame = ap (λ (r : Reader). r.asked) c.in_ok-player.ensures in
    let sides = side g.S.Source.left g.S.Source.faults c.args.source.now c.feed_all.new.source in
    let so =
    subst (λ n. FedAll n sides (Ok c.in_ok-fault.fault) c.feed_all.new.player) asked c.in_ok-fault.ensures.fed
    in
    texts c.record_text.result c.args.frame sides so.0 so.1 (c.record_text.ensures c.args.frame so.0 so.2)
