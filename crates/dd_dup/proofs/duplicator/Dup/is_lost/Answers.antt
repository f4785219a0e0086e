use Rattle.std.proofs.Common.{◌+◌, ◌||◌, ◌∙◌, sym, ap, subst, drop, Bool}
use Rattle.dd_log.specs.History.{any_cuts_off}
use Rattle.dd_dup.specs.Dup.{value}
use Rattle.dd_dup.specs.Duplicator.{Duplicator}
use Rattle.dd_dup.specs.Reply.{is_lost}
use Rattle.dd_dup.specs.Stands.{Stands}
use Rattle.dd_dup.proofs.Frames.{kept_parts}
use Rattle.dd_dup.proofs.Loss.{cut_off_past}
use Rattle.dd_dup.proofs.duplicator.Dup.is_lost.Goals as goal

is_value : goal.returns-else-self-clause-value
is_value c =
    let h = c.args.log.now in
    let o = c.self.inside.opened in
    let stands : Stands (value c.self.inside) h =
    subst (λ (d : Duplicator). Stands d h) (sym c.self.view_is) c.requires in
    c.cut_off_since.ensures
    ∙ (cut_off_past h o stands.opened
    ∙ (ap (λ (b : Bool). b || any_cuts_off (drop (o + 1) h.entries)) (sym c.if-self.false)
    ∙ ap (λ (d : Duplicator). is_lost d.memory h) c.self.view_is))

pub returns-else-self-clause-value : goal.returns-else-self-clause-value
returns-else-self-clause-value c = is_value c

pub returns-else-self-clause-begins : goal.returns-else-self-clause-begins
returns-else-self-clause-begins c kept =
    (kept_parts c.args.self.now c.args.log.now c.requires (sym (is_value c) ∙ kept)).1
