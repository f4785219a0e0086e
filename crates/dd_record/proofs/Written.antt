-- Bytes that are written after others: what the sink took of both, and a front of both.
use Rattle.std.proofs.Common.{◌≡◌, ℕ, zero, suc, ◌+◌, ◌-◌, ◌<◌, ◌≤◌, List, [], ◌∷◌, ◌++◌, length, take, drop, get_or, Option, Result, Ok, Err, refl, sym, ap, ◌∙◌, subst, arith, append_assoc, append-nil, length-append}
use Rattle.std.specs.List.{flat_map, range_with_len}
use Rattle.std.specs.Io.KnownBytes.{Appends}
use Rattle.std.proofs.KnownBytes.{Appends-nil, Appends-trans}
use Rattle.std.specs.Result.{result_unwrap_or}
use Rattle.std.proofs.Math.Seq.{take-append_seam}
use Rattle.std.proofs.lemmas.Bool.{le-leb, cond-true}
use Rattle.std.proofs.lemmas.List.{take-append-le}
use Rattle.std.proofs.lemmas.List.Concat.{flat_map-cons}
use Rattle.dd_io.specs.declared.fault.Failed.{Failed}
use Rattle.dd_io.specs.Causes.{Rose}
use Rattle.dd_io.specs.Transfer.{AppendsPrefix}
use Rattle.dd_io.proofs.Pieces.{AppendsPrefix-next}
use Rattle.dd_meta.specs.Buffer.{put}
use Rattle.dd_record.specs.Sinks.{Change, Writes, Adds}
use Rattle.dd_record.specs.Pages.{pieces}

abbrev between : Option (List ℕ) → Option (List ℕ) → ℕ → ℕ → Change
between a b m n = record { old = a; new = b; before = m; after = n }

-- a front of some bytes is a front of more
longer : (a b : Option (List ℕ)) (xs ys : List ℕ) → AppendsPrefix a b xs → AppendsPrefix a b (xs ++ ys)
longer a b xs ys p = (
  p.0,
  omega (arith, p.1, length-append xs ys),
  subst (Appends a b) (sym (take-append-le p.0 xs ys p.1)) p.2,
)

rose_earlier : {d e f : ℕ} → d ≤ e → Rose e f → Rose d f
rose_earlier le rose = omega arith

-- the sink failed in the first bytes
pub in_first : (a b : Option (List ℕ)) (m n : ℕ) (xs ys : List ℕ) (e : Failed)
    → Writes (between a b m n) xs (Err e) → Writes (between a b m n) (xs ++ ys) (Err e)
in_first a b m n xs ys e w = (longer a b xs ys w.0, w.1, w.2)

-- the first bytes were appended, and then the others
pub then_others : (r : Result (Unit {0}) Failed) (a b c : Option (List ℕ)) (m n p : ℕ) (xs ys : List ℕ)
    → Writes (between a b m n) xs (Ok tt) → Writes (between b c n p) ys r
    → Writes (between a c m p) (xs ++ ys) r
then_others (Ok x) a b c m n p xs ys first others =
    let one = first.1 in
    let two = others.1 in
    (Appends-trans a b c xs ys first.0 others.0, omega arith)
then_others (Err e) a b c m n p xs ys first others =
    let one = first.1 in
    let two = others.1 in
    (AppendsPrefix-next a b c xs ys first.0 others.0, omega arith, rose_earlier one others.2)

-- what was kept was written, and other bytes are kept
pub page_turned : (c : Change) (kept now ys : List ℕ) → Writes c kept (Ok tt) → now ≡ ys → Adds c kept now ys (Ok tt)
page_turned c kept now ys writes is = (kept, writes.0, ap (λ xs. kept ++ xs) is, writes.1)

-- bytes were added to none, and then what was kept was written
pub all_written : (r : Result (Unit {0}) Failed) (a b c : Option (List ℕ)) (m n p : ℕ) (none now bs : List ℕ)
    → none ≡ [] → Adds (between a b m n) none now bs (Ok tt) → Writes (between b c n p) now r
    → Writes (between a c m p) bs r
all_written r a b c m n p none now bs is adds writes =
    subst (λ xs. Writes (between a c m p) xs r) (adds.2 ∙ ap (λ xs. xs ++ bs) is)
    (then_others r a b c m n p adds.0 now (adds.1, adds.3) writes)

-- Of the bytes that were kept at first and all that are to come, the sink took the first, others are kept now, and the
-- rest is still to come.
pub record SoFar (c : Change) (kept now rest all : List ℕ) : Type 0 where
  pub wrote : List ℕ
  pub took : Appends c.old c.new wrote
  pub whole : wrote ++ (now ++ rest) ≡ kept ++ all
  pub later : c.before ≤ c.after

-- nothing has come yet
pub so_none : (a : Option (List ℕ)) (m : ℕ) (kept all : List ℕ) → SoFar (between a a m m) kept kept all all
so_none a m kept all = record { wrote = []; took = Appends-nil a; whole = refl; later = omega arith }

-- the next bytes came
pub so_more : (a b c : Option (List ℕ)) (m n p : ℕ) (kept now then rest left next all : List ℕ)
    → SoFar (between a b m n) kept now rest all → rest ≡ next ++ left → Adds (between b c n p) now then next (Ok tt)
    → SoFar (between a c m p) kept then left all
so_more a b c m n p kept now then rest left next all so is adds =
    let one = so.later in
    let two = adds.3 in
    record {
      wrote = so.wrote ++ adds.0;
      took = Appends-trans a b c so.wrote adds.0 so.took adds.1;
      whole =
          append_assoc so.wrote adds.0 (then ++ left)
          ∙ ap (λ xs. so.wrote ++ xs) (sym (append_assoc adds.0 then left) ∙ ap (λ xs. xs ++ left) adds.2
          ∙ append_assoc now next left ∙ ap (λ xs. now ++ xs) (sym is))
          ∙ so.whole;
      later = omega arith;
    }

-- the sink failed in the next bytes
pub so_failed : (a b c : Option (List ℕ)) (m n p : ℕ) (kept now then rest left next all : List ℕ) (e : Failed)
    → SoFar (between a b m n) kept now rest all → rest ≡ next ++ left → Adds (between b c n p) now then next (Err e)
    → Writes (between a c m p) (kept ++ all) (Err e)
so_failed a b c m n p kept now then rest left next all e so is adds =
    let one = so.later in
    let two = adds.1 in
    let is_all : (so.wrote ++ (now ++ next)) ++ left ≡ kept ++ all =
    append_assoc so.wrote (now ++ next) left
    ∙ ap (λ xs. so.wrote ++ xs) (append_assoc now next left ∙ ap (λ xs. now ++ xs) (sym is)) ∙ so.whole in (
      subst (AppendsPrefix a c) is_all (longer a c (so.wrote ++ (now ++ next)) left
          (AppendsPrefix-next a b c so.wrote (now ++ next) so.took adds.0)),
      omega arith,
      rose_earlier one adds.2,
    )

-- all bytes came
pub so_all : (a b : Option (List ℕ)) (m n : ℕ) (kept now rest all : List ℕ) → SoFar (between a b m n) kept now rest all
    → rest ≡ [] → Adds (between a b m n) kept now all (Ok tt)
so_all a b m n kept now rest all so none =
    let none_more = sym (append-nil now) ∙ ap (λ xs. now ++ xs) (sym none) in
    (so.wrote, so.took, ap (λ xs. so.wrote ++ xs) none_more ∙ so.whole, so.later)

-- the bytes of the places that are left begin with those of the first of them
pub next_place : (piece : ℕ → List ℕ) (from to : ℕ) → from < to
    → pieces piece from to ≡ piece from ++ pieces piece (from + 1) to
next_place piece from to within =
    let more : to - from ≡ suc (to - (from + 1)) = omega arith in
    ap (λ n. flat_map piece (range_with_len from n)) more
    ∙ flat_map-cons piece from (range_with_len (from + 1) (to - (from + 1)))

pub no_place : (piece : ℕ → List ℕ) (from to : ℕ) → to ≤ from → pieces piece from to ≡ []
no_place piece from to past =
    let none : to - from ≡ 0 = omega arith in
    ap (λ n. flat_map piece (range_with_len from n)) none

-- and the bytes of the elements that are left
pub next_element : {A : Type 0} (piece : A → List ℕ) (xs : List A) (i : ℕ) (d : A) → i < length xs
    → flat_map piece (drop i xs) ≡ piece (get_or xs i d) ++ flat_map piece (drop (i + 1) xs)
next_element piece [] i d within = absurd (omega arith)
next_element piece (x ∷ xs) zero d within = flat_map-cons piece x xs
next_element piece (x ∷ xs) (suc i) d within =
    let one_on : suc (i + 1) ≡ suc i + 1 = omega arith in
    next_element piece xs i d (omega arith) ∙ ap (λ n. piece (get_or xs i d) ++ flat_map piece (drop n (x ∷ xs))) one_on

-- bytes that are put at the front of a buffer that has room for them
pub put_fits : (bytes buffer now : List ℕ) (r : Result ℕ ℕ) → (r, now) ≡ put bytes buffer
    → length bytes ≤ length buffer → take (result_unwrap_or r 0) now ≡ bytes
put_fits bytes buffer now r is fits =
    ap (λ p. take (result_unwrap_or p.0 0) p.1) (is ∙ cond-true _ _ _ (le-leb _ _ fits))
    ∙ take-append_seam bytes (drop (length bytes) buffer)
