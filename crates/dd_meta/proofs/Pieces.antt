-- Pieces that are written one after another to the front of a buffer.
use Rattle.std.proofs.Common.{◌≡◌, ℕ, suc, ◌+◌, ◌*◌, ◌<◌, ◌≤◌, List, [], ◌∷◌, ◌++◌, length, take, drop, get_or, ap, sym, ◌∙◌, arith, length-append}
use Rattle.std.specs.List.{flat_map}
use Rattle.std.proofs.lemmas.List.{take-append-drop, drop-drop, take_all, take_more, append-nil}
use Rattle.std.proofs.lemmas.List.Concat.{flat_map-append}
use Rattle.std.proofs.Math.Nat.{mul-suc}
use Rattle.std.proofs.lemmas.Slice.{take-put_mid, drop-put_mid}
use borrow.Rule.Slice.PartMut.{put_mid}

-- in front of a place stand the pieces of the first elements, and from there on what stood there
pub record ArePut {X : Type 0} (f : X → List ℕ) (xs : List X) (i place : ℕ) (old now : List ℕ) : Type 0 where
  pub front : take place now ≡ flat_map f (take i xs)
  pub rest : drop place now ≡ drop place old

-- one piece more
pub put_more : {X : Type 0} (f : X → List ℕ) (xs : List X) (d : X) (i place k next : ℕ) (old now piece : List ℕ)
    → i < length xs → place ≤ length now → piece ≡ f (get_or xs i d) → length piece ≡ k → next ≡ place + k
    → ArePut f xs i place old now
    → ArePut f xs (i + 1) next old (put_mid place k now piece)
put_more f xs d i place k next old now piece within inside is size far before =
    let first : take next (put_mid place k now piece) ≡ take place now ++ piece =
    take-put_mid place k now piece next (omega (arith, size)) inside in
    let behind : drop next (put_mid place k now piece) ≡ drop next now =
    drop-put_mid place k now piece next (omega arith) inside size in
    let more : flat_map f (take (i + 1) xs) ≡ flat_map f (take i xs) ++ piece =
    ap (flat_map f) (take_more xs i d within) ∙ flat_map-append f (take i xs) (get_or xs i d ∷ [])
    ∙ ap (λ (r : List ℕ). flat_map f (take i xs) ++ r) (append-nil (f (get_or xs i d)) ∙ sym is) in
    let same : drop next now ≡ drop next old =
    ap (λ (n : ℕ). drop n now) far ∙ sym (drop-drop k place now) ∙ ap (drop k) before.rest ∙ drop-drop k place old
    ∙ sym (ap (λ (n : ℕ). drop n old) far) in
    record {
      front = first ∙ ap (λ (r : List ℕ). r ++ piece) before.front ∙ sym more;
      rest = behind ∙ same;
    }

-- all of them
pub put_all : {X : Type 0} (f : X → List ℕ) (xs : List X) (i place : ℕ) (old now : List ℕ) → length xs ≤ i
    → ArePut f xs i place old now → now ≡ flat_map f xs ++ drop place old
put_all f xs i place old now done before =
    sym (take-append-drop place now)
    ∙ ap (λ (r : List ℕ). r ++ drop place now) (before.front ∙ ap (flat_map f) (take_all i xs done))
    ∙ ap (λ (r : List ℕ). flat_map f xs ++ r) before.rest

-- pieces of one size
pub length-pieces : {X : Type 0} (f : X → List ℕ) (n : ℕ) → ((x : X) → length (f x) ≡ n) → (xs : List X)
    → length (flat_map f xs) ≡ n * length xs
length-pieces f n size [] = omega arith
length-pieces f n size (x ∷ xs) =
    let rest = length-pieces f n size xs in
    let one = size x in
    let more : n * suc (length xs) ≡ n * length xs + n = mul-suc n (length xs) in
    length-append (f x) (flat_map f xs) ∙ (omega arith ∙ sym more)
