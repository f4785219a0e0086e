use Rattle.std.proofs.Common.{◌≤◌, ◌<◌, length, sym, ◌∙◌, arith}
use Rattle.dd_log.specs.declared.events.TheConstants.{MAX_CAPACITY}
use Rattle.dd_dup.proofs.Entries.{fit_item, gathered_none, gathered_more, width-gathered, height-gathered, few_frames}
use Rattle.dd_dup.proofs.news.gather.Goals as goal

pub loop-entry-init : goal.loop-entry-init
loop-entry-init c = c.in_ok-acc.ensures ∙ sym (gathered_none c.args.mode.width c.args.mode.height)

pub add_event-requires-clause-fit : goal.add_event-requires-clause-fit
add_event-requires-clause-fit c =
    let w = c.args.mode.width in
    let h = c.args.mode.height in
    rw (
      width-gathered w h _ c.loop-entry.acc c.loop-entry.invariant,
      height-gathered w h _ c.loop-entry.acc c.loop-entry.invariant,
    )
    (fit_item w h c.args.entries.now c.loop-entry.entry-index c.entry-item.result c.requires.fit c.loop-entry-test.true
    c.entry-item.is)

pub add_event-requires-clause-few : goal.add_event-requires-clause-few
add_event-requires-clause-few c =
    let inside : c.loop-entry.entry-index < length c.args.entries.now = c.loop-entry-test.true in
    let few : length c.args.entries.now ≤ MAX_CAPACITY = c.requires.few in
    few_frames c.args.mode.width c.args.mode.height c.loop-entry.entry-index MAX_CAPACITY c.args.entries.now
    c.loop-entry.acc (omega (arith, inside, few)) c.loop-entry.invariant

pub loop-entry-preserved : goal.loop-entry-preserved
loop-entry-preserved c =
    c.in_ok-acc-2.ensures
    ∙ gathered_more c.args.mode.width c.args.mode.height c.loop-entry.entry-index c.args.entries.now c.entry-item.result
    c.loop-entry.acc c.loop-entry-test.true c.entry-item.is c.loop-entry.invariant
