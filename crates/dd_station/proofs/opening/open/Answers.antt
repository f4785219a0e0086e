use Rattle.std.proofs.Common.{◌≡◌, ◌∙◌, sym, ap, subst, true, length, ◌+◌}
use Rattle.dd_log.specs.History.{History, with_entry, opens_at}
use Rattle.dd_log.specs.declared.events.Entry.{Entry}
use Rattle.dd_log.specs.declared.events.Event.TheVariants as events
use Rattle.dd_dup.specs.Reply.{Memory, fresh_memory}
use Rattle.dd_dup.specs.Stands.{Stands}
use Rattle.dd_table.proofs.Openings.{opening_goes_on}
use Rattle.dd_station.proofs.Kept.{begins-with_entry, opens_there}
use Rattle.dd_station.proofs.opening.open.Goals as goal

pub start-requires-clause-going : goal.start-requires-clause-going
start-requires-clause-going c =
    opening_goes_on c.args.log.now c.args.app c.in-Ok.slot (sym c.in-Ok.ensures.value)

pub returns-clause-attempt : goal.returns-clause-attempt
returns-clause-attempt c =
    let h = c.args.log.now in
    let e : Entry =
    record { actor = c.args.actor; step = c.args.step; event = events.Opened c.in-Ok.slot c.args.app } in
    let at_is = c.len-at.ensures.len in
    let is_fresh : c.in_ok-dup.dup.memory ≡ fresh_memory h (length h.entries) = c.in_ok-dup.ensures.memory
    ∙ ap (fresh_memory h) at_is in
    let there : opens_at (with_entry h e) c.in_ok-dup.dup.memory.opened ≡ true =
    ap (λ (m : Memory). opens_at (with_entry h e) m.opened) is_fresh
    ∙ opens_there h c.args.actor c.args.step c.in-Ok.slot c.args.app in (
      sym c.in-Ok.ensures.value,
      c.in-Ok-append.ensures.ok,
      ap (λ n. n + 1) at_is,
      is_fresh,
      subst (λ (k : History). Stands c.in_ok-dup.dup k) (sym c.in-Ok-append.ensures.ok)
          (c.in_ok-dup.ensures.stands (with_entry h e) (begins-with_entry h e) there),
    )
