-- A beginning of a legal list is legal.
use Rattle.std.proofs.Common.{refl, arith}
use Rattle.dd_log.specs.Log.{history}
use Rattle.dd_log.proofs.Legal.{legal_beginning}
use Rattle.dd_log.proofs.log.Log.cut.Goals as goal

pub desk_after-self-inside-requires-clause-legal : goal.desk_after-self-inside-requires-clause-legal
desk_after-self-inside-requires-clause-legal c =
    rw (c.as_slice.ensures.value, c.truncate.ensures.items)
    (legal_beginning (history c.self.inside) c.args.place c.self.invariant.legal)

pub invariant_of-self : goal.invariant_of-self
invariant_of-self c =
    record {
      legal = rw c.truncate.ensures.items
          (legal_beginning (history c.self.inside) c.args.place c.self.invariant.legal);
      desk = rw (c.desk_after-self-inside.ensures.value, c.as_slice.ensures.value) refl;
      size = c.desk_after-self-inside.ensures.size;
      some = c.self.invariant.some;
      few = c.self.invariant.few;
      room = rw c.truncate.ensures.capacity c.self.invariant.room;
      within = omega (arith, c.truncate.ensures.len, c.self.invariant.within);
    }
