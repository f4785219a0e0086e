-- Beginnings of lists.
use Rattle.std.proofs.Common.{◌≡◌, ◌≤◌, List, [], ◌∷◌, ◌++◌, length, take, refl, ap, sym, ◌∙◌, arith, append_assoc, append-nil, length-append}
use mathlib.Core.List.{IsPrefix}
use Rattle.std.proofs.lemmas.List.{take-append-le, take_all}

-- each list begins with itself
pub prefix_self : {A : Type 0} (xs : List A) → IsPrefix xs xs
prefix_self xs = ([], append-nil xs)

pub prefix_of : {A : Type 0} (xs more : List A) → IsPrefix xs (xs ++ more)
prefix_of xs more = (more, refl)

pub prefix_trans : {A : Type 0} (xs ys zs : List A) → IsPrefix xs ys → IsPrefix ys zs → IsPrefix xs zs
prefix_trans {A = A} xs ys zs p q =
    (p.0 ++ q.0, sym (append_assoc xs p.0 q.0) ∙ ap (λ (l : List A). l ++ q.0) p.1 ∙ q.1)

pub prefix_length : {A : Type 0} (xs ys : List A) → IsPrefix xs ys → length xs ≤ length ys
prefix_length xs ys p = let long = ap length p.1 in omega (arith, length-append xs p.0, long)

-- it is what its length takes of the whole
pub prefix_take : {A : Type 0} (xs ys : List A) → IsPrefix xs ys → take (length xs) ys ≡ xs
prefix_take xs ys p =
    ap (take (length xs)) (sym p.1) ∙ take-append-le (length xs) xs p.0 (omega arith)
    ∙ take_all (length xs) xs (omega arith)

-- of two beginnings of one list the shorter begins the longer
pub shorter_begins : {A : Type 0} (xs ys both : List A) → IsPrefix xs both → IsPrefix ys both
    → length xs ≤ length ys → IsPrefix xs ys
shorter_begins [] ys both p q le = (ys, refl)
shorter_begins (x ∷ xs) [] both p q le = absurd (omega arith)
shorter_begins (x ∷ xs) (y ∷ ys) [] p q le = absurd (cc (p.1))
shorter_begins (x ∷ xs) (y ∷ ys) (z ∷ both) p q le =
    let rest = shorter_begins xs ys both (p.0, cc (p.1)) (q.0, cc (q.1)) (omega arith) in
    let heads : x ≡ y = cc (p.1, q.1) in
    (rest.0, cc (heads, rest.1))

-- and two of one length are the same
pub as_long_is : {A : Type 0} (xs ys : List A) → IsPrefix xs ys → length ys ≤ length xs → xs ≡ ys
as_long_is xs ys p le = sym (prefix_take xs ys p) ∙ take_all (length xs) ys le

pub same_length_is : {A : Type 0} (xs ys both : List A) → IsPrefix xs both → IsPrefix ys both
    → length xs ≡ length ys → xs ≡ ys
same_length_is xs ys both p q e =
    as_long_is xs ys (shorter_begins xs ys both p q (omega (arith, e))) (omega (arith, e))
