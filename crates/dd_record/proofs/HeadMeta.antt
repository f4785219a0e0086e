-- A frame's head says how many bytes its moves and rectangles have.
use Rattle.std.proofs.Common.{◌≡◌, ◌==◌, ◌&&◌, ℕ, zero, suc, ◌+◌, ◌*◌, ◌<◌, Bool, nat_le, List, [], ◌∷◌, take, drop, get_or, subst, arith}
use Rattle.std.specs.List.{AllByRecursion}
use Rattle.std.proofs.lemmas.Bool.{and_parts, eqb-true}
use Rattle.dd_geom.specs.declared.rect.TheConstants.{MOVE_BYTES, RECT_BYTES}
use Rattle.dd_coal.specs.declared.coalescing.TheConstants.{MAX_RECTS}
use Rattle.dd_record.specs.declared.head.Head.{Head}
use Rattle.dd_record.specs.Reading.{Reading, Good, ◌>>=◌, kept, number, fields}
use Rattle.dd_record.specs.Grammar.{move_count_of, rect_count_of, info_of, head_of}
use Rattle.dd_record.proofs.Rules.{parts, kept_is}

-- ---- bytes are small

take_small : (n : ℕ) (xs : List ℕ) → ((i : ℕ) → get_or xs i 0 < 256) → (i : ℕ) → get_or (take n xs) i 0 < 256
take_small zero xs small i = omega arith
take_small (suc n) [] small i = omega arith
take_small (suc n) (x ∷ xs) small zero = small 0
take_small (suc n) (x ∷ xs) small (suc i) = take_small n xs (λ k. small (suc k)) i

drop_small : (n : ℕ) (xs : List ℕ) → ((i : ℕ) → get_or xs i 0 < 256) → (i : ℕ) → get_or (drop n xs) i 0 < 256
drop_small zero xs small i = small i
drop_small (suc n) [] small i = omega arith
drop_small (suc n) (x ∷ xs) small i = drop_small n xs (λ k. small (suc k)) i

-- each of several fields has what one has
each_has : {A : Type 0} (f : ℕ → Reading A) (P : A → Type 0) → ((at : ℕ) (x : A) → f at ≡ Good x → P x)
    → (size at n : ℕ) (xs : List A) → fields f size at n ≡ Good xs → AllByRecursion P xs
each_has f P one size at zero [] e = tt
each_has f P one size at zero (x ∷ xs) e = cc
each_has f P one size at (suc n) xs e =
    let a = parts (f at) (λ x. fields f size (at + size) n >>= λ ys. Good (x ∷ ys)) xs e in
    let b = parts (fields f size (at + size) n) (λ ys. Good (a.0 ∷ ys)) xs a.2 in
    let is : a.0 ∷ b.0 ≡ xs = cc in
    subst (AllByRecursion P) is (one at a.0 a.1, each_has f P one size (at + size) n b.0 b.1)

-- the bytes of the moves and the rectangles are as many as the head says
pub head_meta : (bytes : List ℕ) (head : Head) → head_of bytes ≡ Good head
    → head.info.meta_size ≡ MOVE_BYTES * head.moves + RECT_BYTES * head.rects
unfolding head_of rect_count_of
head_meta bytes head e =
    let a = parts (info_of bytes) _ head e in
    let b = parts (move_count_of a.0.meta_size bytes) _ head a.2 in
    let rule : ℕ → Bool = λ n. nat_le n MAX_RECTS && MOVE_BYTES * b.0 + RECT_BYTES * n == a.0.meta_size in
    let c = parts (number 41 1 bytes >>= λ n. kept 41 (rule n) n) _ head b.2 in
    let d = parts (number 41 1 bytes) (λ n. kept 41 (rule n) n) c.0 c.1 in
    let k = kept_is 41 (rule d.0) d.0 c.0 d.2 in
    let is : record { info = a.0; moves = b.0; rects = c.0 } ≡ head = cc in
    let both = and_parts (nat_le d.0 MAX_RECTS) (MOVE_BYTES * b.0 + RECT_BYTES * d.0 == a.0.meta_size) k.0 in
    let sum = eqb-true _ _ both.1 in
    subst (λ (h : Head). h.info.meta_size ≡ MOVE_BYTES * h.moves + RECT_BYTES * h.rects) is
    (omega (arith, sum, k.1))
