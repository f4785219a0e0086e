-- The desk's place leads to the last shape, where it stands from a place on.
use Rattle.std.proofs.Common.{◌≡◌, ◌-◌, nat_lt, drop, sym, ap, ◌∙◌, true, false}
use Rattle.std.proofs.lemmas.Bool.{lt-ltb, le-ltb}
use Rattle.std.specs.Prelude.{slice_get}
use Rattle.dd_log.specs.declared.desk.Desk.{Desk}
use Rattle.dd_log.specs.Events.{shape_at}
use Rattle.dd_log.specs.History.{History, last_shape}
use Rattle.dd_log.specs.Desk.{desk_of}
use Rattle.dd_log.proofs.Desks.{last_shape_tells, no_shape_tells}
use Rattle.dd_log.proofs.log.Log.shape_since.Goals as goal

pub returns-then-place-self : goal.returns-then-place-self
returns-then-place-self c =
    let modes = c.self.inside.spec.modes in
    let es = c.self.inside.entries.items in
    let here : nat_lt c.args.place (desk_of modes es).shaped ≡ true =
    ap (λ (d : Desk). nat_lt c.args.place d.shaped) (sym c.self.invariant.desk)
    ∙ lt-ltb c.args.place c.self.inside.desk.shaped c.if-place-self.true in
    c.shape_of.ensures
    ∙ (ap shape_at c.get.ensures
    ∙ (ap (λ (h : History). shape_at (slice_get h.entries (c.self.inside.desk.shaped - 1))) (sym c.self.view_is)
    ∙ (ap (λ (d : Desk). shape_at (slice_get es (d.shaped - 1))) c.self.invariant.desk
    ∙ (sym (last_shape_tells modes es c.args.place here)
    ∙ ap (λ (h : History). last_shape (drop c.args.place h.entries)) c.self.view_is))))

pub returns-else-place-self : goal.returns-else-place-self
returns-else-place-self c =
    let modes = c.self.inside.spec.modes in
    let es = c.self.inside.entries.items in
    let past : nat_lt c.args.place (desk_of modes es).shaped ≡ false =
    ap (λ (d : Desk). nat_lt c.args.place d.shaped) (sym c.self.invariant.desk)
    ∙ le-ltb c.args.place c.self.inside.desk.shaped c.if-place-self.false in
    sym (no_shape_tells modes es c.args.place past)
    ∙ ap (λ (h : History). last_shape (drop c.args.place h.entries)) c.self.view_is
