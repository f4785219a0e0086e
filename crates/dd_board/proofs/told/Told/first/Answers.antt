use Rattle.std.proofs.Common.{List, length, refl, sym, ap, subst}
use Rattle.dd_log.specs.declared.events.Entry.{Entry}
use Rattle.dd_log.specs.History.{legal}
use Rattle.dd_board.specs.Lists.{all_seated, IsListed}
use Rattle.dd_board.proofs.told.Told.first.Goals as goal

pub invariant_of-result : goal.invariant_of-result
unfolding legal all_seated
invariant_of-result g c = (
  sym (ap length c.requires.log),
  c.requires.book,
  subst (λ (l : List Entry). IsListed g.L.Named.spec g.L.Ledger.parts l) (sym c.requires.log)
      (record {
        legal = refl;
        some = c.requires.some;
        few = c.requires.few;
        most = c.requires.seats;
        seated = refl;
      }),
)
