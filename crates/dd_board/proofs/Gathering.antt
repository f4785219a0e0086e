-- Seats that are given up one after another.
use Rattle.std.proofs.Common.{◌≡◌, ℕ, ◌+◌, List, [], ◌∷◌, ◌++◌, length, sym, ap, ◌∙◌, subst, arith, append_assoc}
use Rattle.std.proofs.lemmas.List.Sums.{sum_by-cons}
use mathlib.Core.List.{IsPrefix}
use Rattle.dd_log.specs.declared.events.Entry.{Entry}
use Rattle.dd_board.specs.declared.board.Seat.{Seat}
use Rattle.dd_board.specs.Listing.{actor_in, made_by, EachBegins}
use Rattle.dd_board.proofs.Prefixes.{prefix_self, prefix_trans}

-- some are left, and of the rest there are these parts, this amount, and a list that begins with each view
pub record Gathered {L : Type 0} (all left : List (Seat L)) (parts amount : ℕ) (told : List Entry) : Type 0 where
  pub rest : List (Seat L)
  pub whole : left ++ rest ≡ all
  pub parts_are : parts ≡ length rest
  pub amount_is : amount ≡ made_by rest
  pub views : EachBegins rest told

pub each_later : {L : Type 0} (ss : List (Seat L)) (es later : List Entry) → IsPrefix es later → EachBegins ss es
    → EachBegins ss later
each_later [] es later p h = tt
each_later {L = L} (s ∷ ss) es later p h =
    (prefix_trans (actor_in s).view es later h.0 p, each_later {L = L} ss es later p h.1)

pub gathered_first : {L : Type 0} (all left : List (Seat L)) (s : Seat L) (parts amount : ℕ) (told : List Entry)
    → all ≡ left ++ s ∷ [] → parts ≡ 1 → amount ≡ (actor_in s).made → told ≡ (actor_in s).view
    → Gathered all left parts amount told
gathered_first all left s parts amount told whole one made view = record {
  rest = s ∷ [];
  whole = sym whole;
  parts_are = one;
  amount_is = omega (arith, made);
  views = (subst (λ (l : List Entry). IsPrefix l told) view (prefix_self told), tt);
}

one_more : {L : Type 0} (s : Seat L) (ss : List (Seat L)) → made_by (s ∷ ss) ≡ (actor_in s).made + made_by ss
one_more {L = L} s ss = sum_by-cons (λ (x : Seat L). (actor_in x).made) s ss

pub gathered_more : {L : Type 0} (all left fewer : List (Seat L)) (s : Seat L) (parts amount one own now sum : ℕ)
    (told view longer : List Entry) → Gathered all left parts amount told → left ≡ fewer ++ s ∷ [] → one ≡ 1
    → own ≡ (actor_in s).made → view ≡ (actor_in s).view → now ≡ parts + one → sum ≡ amount + own
    → IsPrefix told longer → IsPrefix view longer → Gathered all fewer now sum longer
gathered_more {L = L} all left fewer s parts amount one own now sum told view longer g is e made seen n m p q =
    record {
      rest = s ∷ g.rest;
      whole = sym (append_assoc fewer (s ∷ []) g.rest) ∙ ap (λ (l : List (Seat L)). l ++ g.rest) (sym is) ∙ g.whole;
      parts_are = let k = g.parts_are in omega (arith, n, e, k);
      amount_is = let k = g.amount_is in omega (arith, m, made, k, one_more s g.rest);
      views = (
        subst (λ (l : List Entry). IsPrefix l longer) seen q,
        each_later g.rest told longer p g.views,
      );
    }

pub record OfAll {L : Type 0} (all : List (Seat L)) (parts amount : ℕ) (told : List Entry) : Type 0 where
  pub parts_are : parts ≡ length all
  pub amount_is : amount ≡ made_by all
  pub views : EachBegins all told

pub gathered_all : {L : Type 0} (all left : List (Seat L)) (parts amount : ℕ) (told : List Entry)
    → Gathered all left parts amount told → left ≡ [] → OfAll all parts amount told
gathered_all {L = L} all left parts amount told g none =
    let whole : g.rest ≡ all = sym (ap (λ (l : List (Seat L)). l ++ g.rest) none) ∙ g.whole in
    subst (λ (ss : List (Seat L)). OfAll ss parts amount told) whole
    (record { parts_are = g.parts_are; amount_is = g.amount_is; views = g.views })
