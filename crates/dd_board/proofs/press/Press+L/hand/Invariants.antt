-- The operation changes nothing that readers find.
use Rattle.std.proofs.Common.{◌≡◌}
use Rattle.dd_board.proofs.press.Press+L.hand.Given as goal

abbrev pub invariant-loop : goal.invariant-loop
invariant-loop g l =
    (goal.iterator-loop g).can_next l.iterator' × (goal.iterator-loop g).is_finite l.iterator'
    × (l.writer.desk ≡ l.initial.writer.desk)
