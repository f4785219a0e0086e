use Rattle.std.proofs.Common.{sym, subst}
use Rattle.dd_dup.specs.News.{news_since}
use Rattle.dd_dup.specs.Duplicator.{Duplicator}
use Rattle.dd_dup.specs.Acquiring.{Acquires}
use Rattle.dd_dup.specs.Stands.{Stands}
use Rattle.dd_dup.proofs.Frames.{granted_is, granted_kept, kept_parts, stands_holding}
use Rattle.dd_dup.proofs.Acquiring.{acquires}
use Rattle.dd_dup.proofs.duplicator.Dup.hold.Goals as goal

pub take-requires-clause-begins : goal.take-requires-clause-begins
take-requires-clause-begins c =
    let h = c.args.log.now in
    let d = c.args.self.now in
    let kept =
    granted_kept d.memory h (news_since h d.memory.mark d.memory.pointer_mark) c.args.next c.requires.next in
    (kept_parts d h c.requires.stands kept).1

pub take-requires-clause-next : goal.take-requires-clause-next
take-requires-clause-next c =
    let h = c.args.log.now in
    let m = c.args.self.now.memory in
    sym (granted_is m h (news_since h m.mark m.pointer_mark) c.args.next c.requires.next)

pub returns-clause-stands_still : goal.returns-clause-stands_still
returns-clause-stands_still c =
    let h = c.args.log.now in
    let d = c.args.self.now in
    let kept =
    granted_kept d.memory h (news_since h d.memory.mark d.memory.pointer_mark) c.args.next c.requires.next in
    subst (λ (e : Duplicator). Stands e h) (sym c.take.ensures.held)
    (stands_holding d h c.requires.stands (kept_parts d h c.requires.stands kept).0)

pub returns-clause-acquired : goal.returns-clause-acquired
returns-clause-acquired c =
    let h = c.args.log.now in
    let d = c.args.self.now in
    let kept =
    granted_kept d.memory h (news_since h d.memory.mark d.memory.pointer_mark) c.args.next c.requires.next in
    subst (λ (e : Duplicator). Acquires d e h) (sym c.take.ensures.held)
    (acquires d h c.requires.stands c.take.ensures.legal (kept_parts d h c.requires.stands kept).1)
