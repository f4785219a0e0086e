-- A fault that was found before, and a piece that is fed.
use Rattle.std.proofs.Common.{◌≡◌, ◌∙◌, false, None, Some, Option, refl, sym, subst, ◌++◌}
use Rattle.std.specs.Prelude.{is_some}
use Rattle.dd_record.specs.declared.fault.RecordFault.{RecordFault}
use Rattle.dd_prog.specs.Viewing.{Fed}
use Rattle.dd_prog.proofs.Pieces.{found_before, fed_more}
use Rattle.dd_prog.proofs.viewing.feed_next.Goals as goal

none_found : (fault : Option RecordFault) → is_some fault ≡ false → fault ≡ None
none_found None none = refl
none_found (Some fault) none = cc

pub returns-then-is_some : goal.returns-then-is_some
returns-then-is_some c = λ asked b.
    found_before c.args.fault asked b c.args.piece.now c.args.player.now (sym c.is_some.ensures ∙ c.if-is_some.true)

pub returns : goal.returns
returns c = λ asked b so.
    let none = none_found c.args.fault (sym c.is_some.ensures ∙ c.if-is_some.false) in
    let read = subst (λ fault. Fed asked b fault c.args.player.now) none so in
    subst (λ fault. Fed asked (b ++ c.args.piece.now) fault c.feed.new.self) (sym c.err.ensures.value)
    (fed_more c.feed.result asked b c.args.piece.now c.args.player.now c.feed.new.self read c.feed.ensures.fed)
