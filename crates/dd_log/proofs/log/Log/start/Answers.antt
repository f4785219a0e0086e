use Rattle.std.proofs.Common.{refl, arith}
use Rattle.dd_log.specs.Desk.{desk_of}
use Rattle.dd_log.specs.History.{legal}
use Rattle.dd_log.proofs.log.Log.start.Goals as goal

pub invariant_of-result : goal.invariant_of-result
unfolding legal desk_of
invariant_of-result c =
    record {
      legal = rw c.in_ok-entries.ensures.items refl;
      desk = rw c.in_ok-entries.ensures.items c.first-desk.ensures.value;
      size = c.first-desk.ensures.size;
      some = c.requires.some;
      few = c.requires.few;
      room = omega (arith, c.in_ok-entries.ensures.exact);
      within = omega (arith, c.in_ok-entries.ensures.len);
    }
