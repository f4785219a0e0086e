-- What a list of a board keeps where an entry is added.
use Rattle.std.proofs.Common.{◌+◌, sym, ap, ◌≡◌, ◌-◌, take, ℕ, ◌≤◌, List, [], ◌∷◌, ◌++◌, length, ◌∙◌, arith}
use Rattle.std.specs.Prelude.{IsTrue}
use Rattle.std.specs.List.{list_all}
use Rattle.std.proofs.lemmas.Bool.{and_from}
use Rattle.std.proofs.lemmas.List.Folds.{list_all-append}
use Rattle.std.proofs.Math.Bool.{and-true}
use Rattle.dd_log.specs.declared.events.TheConstants.{MAX_CAPACITY}
use Rattle.dd_log.specs.declared.events.Spec.{Spec}
use Rattle.dd_log.specs.declared.events.Entry.{Entry}
use Rattle.dd_log.specs.History.{legal, may_add}
use Rattle.dd_log.proofs.Legal.{has_room, legal_added, legal_before}
use Rattle.dd_board.specs.Lists.{listed, is_seated, all_seated, IsListed, IsLast}
use Rattle.dd_board.proofs.Prefixes.{prefix_take}
use mathlib.Core.List.{IsPrefix}

pub listed_few : (spec : Spec) (seats : ℕ) (es : List Entry) → IsListed spec seats es → length es ≤ MAX_CAPACITY
listed_few spec seats es l = let room = (has_room (listed spec es) l.legal l.some).0 in omega (arith, room, l.few)

seated_push : (seats : ℕ) (es : List Entry) (e : Entry) → IsTrue (all_seated seats es) → IsTrue (is_seated seats e)
    → IsTrue (all_seated seats (es ++ e ∷ []))
unfolding all_seated
seated_push seats es e all here =
    list_all-append (is_seated seats) es (e ∷ [])
    ∙ and_from (list_all (is_seated seats) es) _ all (and-true (is_seated seats e) ∙ here)

pub listed_adds : (spec : Spec) (seats : ℕ) (es : List Entry) (e : Entry) → IsListed spec seats es
    → IsTrue (may_add (listed spec es) e) → IsTrue (is_seated seats e) → IsListed spec seats (es ++ e ∷ [])
listed_adds spec seats es e l may seat = record {
  legal = legal_added (listed spec es) e l.legal may;
  some = l.some;
  few = l.few;
  most = l.most;
  seated = seated_push seats es e l.seated seat;
}

-- a list that goes on by one entry, which is its last
pub next_is : (before after : List Entry) (e : Entry) → IsLast e after → IsPrefix before after
    → length after ≡ length before + 1 → after ≡ before ++ e ∷ []
next_is before after e last begins long =
    let one_less : length after - 1 ≡ length before = omega (arith, long) in
    last
    ∙ ap (λ (l : List Entry). l ++ e ∷ [])
    (ap (λ (n : ℕ). take n after) one_less ∙ prefix_take before after begins)

pub may_be_next : (spec : Spec) (before after : List Entry) (e : Entry) → IsLast e after → IsPrefix before after
    → length after ≡ length before + 1 → IsTrue (legal (listed spec after)) → IsTrue (may_add (listed spec before) e)
may_be_next spec before after e last begins long is =
    (legal_before (listed spec before) e
    (ap (λ (l : List Entry). legal (listed spec l)) (sym (next_is before after e last begins long)) ∙ is)).1
