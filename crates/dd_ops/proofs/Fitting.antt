-- Operations that fit, and what they draw one after another.
use Rattle.std.proofs.Common.{◌≡◌, ℕ, ◌+◌, ◌<◌, true, List, fold, length, take, get_or, sym, ap, ◌∙◌}
use Rattle.std.proofs.lemmas.List.Sums.{AllPass-from_list_all, fold_more}
use Rattle.dd_ops.specs.declared.operations.Op.{Op}
use Rattle.dd_ops.specs.Operations.{fits, all_fit}

-- each operation of a list that fits does
pub fits_at :
    (w h : ℕ) (ops : List Op) (k : ℕ) (op : Op) → all_fit w h ops ≡ true → k < length ops → op ≡ get_or ops k op
    → fits w h op ≡ true
fits_at w h ops k op t k_in is = ap (λ (o : Op). fits w h o) is ∙ AllPass-from_list_all (fits w h) ops t k op k_in

-- one operation more, of pictures or of surfaces
pub fold_more_by :
    {A : Type 0} (by : A → Op → A) (p q : A) (ops : List Op) (k : ℕ) (op : Op) → k < length ops
    → op ≡ get_or ops k op → q ≡ fold by p (take k ops) → by q op ≡ fold by p (take (k + 1) ops)
fold_more_by by p q ops k op k_in is so_far =
    ap (λ (o : Op). by q o) is
    ∙ (ap (λ g. by g (get_or ops k op)) so_far ∙ sym (fold_more by p ops k op k_in))
