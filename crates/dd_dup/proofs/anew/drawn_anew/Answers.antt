use Rattle.std.proofs.Common.{◌≡◌, ◌-◌, ◌<◌, true, length, sym, ap, ◌∙◌, arith}
use Rattle.dd_log.specs.declared.events.Entry.{Entry}
use Rattle.dd_dup.specs.Seen.{event_draws_all}
use Rattle.dd_dup.proofs.Covering.{slice_anew, slice_fits}
use Rattle.dd_dup.proofs.anew.drawn_anew.Goals as goal

pub returns-then-event_draws_all-clause-drawn : goal.returns-then-event_draws_all-clause-drawn
returns-then-event_draws_all-clause-drawn c s wide high =
    let within : c.loop-k.k - 1 < length c.args.entries.now = omega (arith, c.loop-k.auto.k, c.loop-k-test.true) in
    let all : event_draws_all c.args.w c.args.h c.index-entries-k.result.event ≡ true =
    ap (λ (e : Entry). event_draws_all c.args.w c.args.h e.event) c.index-entries-k.is
    ∙ sym c.event_draws_all.ensures ∙ c.if-event_draws_all.true in
    slice_anew c.args.w c.args.h (c.loop-k.k - 1) c.args.entries.now c.index-entries-k.result s wide high within
    c.index-entries-k.is all

pub returns-then-event_draws_all-clause-fit : goal.returns-then-event_draws_all-clause-fit
returns-then-event_draws_all-clause-fit c = slice_fits c.args.w c.args.h (c.loop-k.k - 1) c.args.entries.now
