use Rattle.std.proofs.Common.{[], ◌∷◌, ◌++◌, sym, ap, ◌∙◌, take, arith}
use Rattle.std.proofs.lemmas.List.{take_more}
use Rattle.dd_log.specs.Desk.{desk_of, desk_after}
use Rattle.dd_log.specs.History.{History, first_entries}
use Rattle.dd_log.proofs.Desks.{desk-push, len_tells}
use Rattle.dd_log.proofs.Legal.{parts_of_may_add, room_before, legal_beginning, may_follow}
use Rattle.dd_log.proofs.log.desk_after.Goals as goal

pub loop-entry-init : goal.loop-entry-init
unfolding desk_of
loop-entry-init c = (c.first-desk.ensures.value, c.first-desk.ensures.size)

pub follow-requires-clause-few : goal.follow-requires-clause-few
follow-requires-clause-few c =
    let h : History = record { spec = c.args.spec.now; entries = c.args.entries.now } in
    let k = c.loop-entry.entry-index in
    let may = may_follow h k c.entry-item.result c.requires.legal c.loop-entry-test.true c.entry-item.is in
    let room = room_before (first_entries k h) c.entry-item.result (legal_beginning h k c.requires.legal)
    c.requires.some may in
    let len = len_tells h.spec.modes (take k h.entries) in
    rw c.loop-entry.invariant.0 (omega (arith, room, len, c.requires.few))

pub follow-requires-clause-actor : goal.follow-requires-clause-actor
follow-requires-clause-actor c =
    let h : History = record { spec = c.args.spec.now; entries = c.args.entries.now } in
    let k = c.loop-entry.entry-index in
    let may = may_follow h k c.entry-item.result c.requires.legal c.loop-entry-test.true c.entry-item.is in
    (parts_of_may_add (first_entries k h) c.entry-item.result may).actor

pub follow-requires-clause-slot : goal.follow-requires-clause-slot
follow-requires-clause-slot c =
    let h : History = record { spec = c.args.spec.now; entries = c.args.entries.now } in
    let k = c.loop-entry.entry-index in
    let may = may_follow h k c.entry-item.result c.requires.legal c.loop-entry-test.true c.entry-item.is in
    rw c.loop-entry.invariant.0 (parts_of_may_add (first_entries k h) c.entry-item.result may).slot

pub loop-entry-preserved : goal.loop-entry-preserved
loop-entry-preserved c =
    let ms = c.args.spec.now.modes in
    let es = c.args.entries.now in
    let k = c.loop-entry.entry-index in
    let e = c.entry-item.result in (
      c.follow.ensures.value ∙ ap (λ d. desk_after ms d e) c.loop-entry.invariant.0 ∙ sym (desk-push ms (take k es) e)
          ∙ ap (λ x. desk_of ms (take k es ++ x ∷ [])) c.entry-item.is
          ∙ ap (desk_of ms) (sym (take_more es k e c.loop-entry-test.true)),
      c.follow.ensures.size,
    )
