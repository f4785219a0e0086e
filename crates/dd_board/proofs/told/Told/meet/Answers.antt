use Rattle.std.proofs.Common.{List, ap, subst}
use mathlib.Core.List.{IsPrefix}
use Rattle.dd_log.specs.declared.events.Entry.{Entry}
use Rattle.dd_board.proofs.Prefixes.{shorter_begins, same_length_is}
use Rattle.dd_board.proofs.told.Told.meet.Goals as goal

pub returns-clause-this : goal.returns-clause-this
returns-clause-this g c =
    let both = c.learn.new.self.log in
    let this : IsPrefix c.self.inside.seen.log both =
    subst (λ (l : List Entry). IsPrefix l both) (ap (λ s. s.log) c.again-both.ensures) c.learn.ensures.2 in
    rw (← c.self.view_is, ← c.other.view_is)
    (shorter_begins c.self.inside.seen.log c.other.inside.seen.log both this c.learn.ensures.3)

pub returns-clause-that : goal.returns-clause-that
returns-clause-that g c =
    let both = c.learn.new.self.log in
    let this : IsPrefix c.self.inside.seen.log both =
    subst (λ (l : List Entry). IsPrefix l both) (ap (λ s. s.log) c.again-both.ensures) c.learn.ensures.2 in
    rw (← c.self.view_is, ← c.other.view_is)
    (shorter_begins c.other.inside.seen.log c.self.inside.seen.log both c.learn.ensures.3 this)

pub returns-clause-same : goal.returns-clause-same
returns-clause-same g c =
    let both = c.learn.new.self.log in
    let this : IsPrefix c.self.inside.seen.log both =
    subst (λ (l : List Entry). IsPrefix l both) (ap (λ s. s.log) c.again-both.ensures) c.learn.ensures.2 in
    rw (← c.self.view_is, ← c.other.view_is)
    (same_length_is c.self.inside.seen.log c.other.inside.seen.log both this c.learn.ensures.3)
