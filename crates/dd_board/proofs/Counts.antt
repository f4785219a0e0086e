-- How many entries stand before the end.
use Rattle.std.proofs.Common.{◌≡◌, ℕ, ◌+◌, ◌≤◌, false, List, [], ◌∷◌, ◌++◌, length, ◌∙◌, Bool, true, if◌then◌else◌, arith}
use Rattle.std.proofs.lemmas.Bool.{cond-false}
use Rattle.std.specs.Prelude.{IsTrue}
use Rattle.dd_log.specs.declared.events.Spec.{Spec}
use Rattle.dd_log.specs.declared.events.Entry.{Entry}
use Rattle.dd_log.specs.History.{desk, legal, may_add, is_end, before_end}
use Rattle.dd_log.proofs.Legal.{before_counts, legal_added, end_last}
use Rattle.dd_board.specs.Lists.{listed}

-- an entry that isn't the end is one more
pub one_more : (spec : Spec) (es : List Entry) (e : Entry) → IsTrue (legal (listed spec es))
    → IsTrue (may_add (listed spec es) e) → is_end e.event ≡ false → before_end (es ++ e ∷ []) ≡ before_end es + 1
one_more spec es e is may going =
    before_counts (listed spec es) e (legal_added (listed spec es) e is may)
    ∙ cond-false (is_end e.event) (before_end es) (before_end es + 1) going

less : (ended : Bool) (n before : ℕ) → n ≡ (if ended then before + 1 else before) → before ≤ n
less true n before is = omega (arith, is)
less false n before is = omega (arith, is)

-- they are at most all
pub before_few : (spec : Spec) (es : List Entry) → IsTrue (legal (listed spec es)) → before_end es ≤ length es
before_few spec es is =
    less (desk (listed spec es)).ended (length es) (before_end es) ((end_last (listed spec es)).1 is)
