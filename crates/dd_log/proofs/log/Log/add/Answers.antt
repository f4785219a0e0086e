use Rattle.std.proofs.Common.{◌≡◌, ◌+◌, ◌≤◌, true, sym, subst, length, arith, rules}
use Rattle.dd_log.specs.History.{History, may_add}
use Rattle.dd_log.specs.Log.{history}
use Rattle.dd_log.proofs.Desks.{desk-push, len_tells}
use Rattle.dd_log.proofs.Legal.{parts_of_may_add, room_before, legal_added}
use Rattle.dd_log.proofs.log.Log.add.Goals as goal

pub follow-requires-clause-few : goal.follow-requires-clause-few
follow-requires-clause-few c =
    let may : may_add (history c.self.inside) c.args.entry ≡ true =
    subst (λ (h : History). may_add h c.args.entry ≡ true) (sym c.self.view_is) c.requires in
    let room = room_before (history c.self.inside) c.args.entry c.self.invariant.legal c.self.invariant.some may in
    let len = len_tells c.self.inside.spec.modes c.self.inside.entries.items in
    rw c.self.invariant.desk (omega (arith, room, len, c.self.invariant.few))

pub follow-requires-clause-actor : goal.follow-requires-clause-actor
follow-requires-clause-actor c = (parts_of_may_add c.args.self.now c.args.entry c.requires).actor

pub follow-requires-clause-slot : goal.follow-requires-clause-slot
follow-requires-clause-slot c =
    let may : may_add (history c.self.inside) c.args.entry ≡ true =
    subst (λ (h : History). may_add h c.args.entry ≡ true) (sym c.self.view_is) c.requires in
    rw c.self.invariant.desk (parts_of_may_add (history c.self.inside) c.args.entry may).slot

pub push_reserved-requires : goal.push_reserved-requires
push_reserved-requires c =
    let may : may_add (history c.self.inside) c.args.entry ≡ true =
    subst (λ (h : History). may_add h c.args.entry ≡ true) (sym c.self.view_is) c.requires in
    let room = room_before (history c.self.inside) c.args.entry c.self.invariant.legal c.self.invariant.some may in
    let long : length c.self.inside.entries.items + 1 ≤ c.self.inside.spec.capacity = room in
    let enough = c.self.invariant.room in
    search rules

pub invariant_of-self : goal.invariant_of-self
invariant_of-self c =
    let h : History = history c.self.inside in
    let may : may_add h c.args.entry ≡ true =
    subst (λ (h : History). may_add h c.args.entry ≡ true) (sym c.self.view_is) c.requires in
    let room = room_before h c.args.entry c.self.invariant.legal c.self.invariant.some may in
    record {
      legal = rw c.push_reserved.ensures.items (legal_added h c.args.entry c.self.invariant.legal may);
      desk = rw (c.follow.ensures.value, c.push_reserved.ensures.items, c.self.invariant.desk)
          (sym (desk-push h.spec.modes h.entries c.args.entry));
      size = c.follow.ensures.size;
      some = c.self.invariant.some;
      few = c.self.invariant.few;
      room = rw c.push_reserved.ensures.capacity c.self.invariant.room;
      within = omega (arith, c.push_reserved.ensures.len, c.self.inside.entries.ok.0, room);
    }
