-- Parts of a word: what stands behind a front, and the number that it writes.
use Rattle.std.proofs.Common.{◌≡◌, ℕ, ◌<◌, ◌≤◌, ◌^◌, ◌≢◌, ◌==◌, Bool, true, false, List, [], ◌∷◌, length, get_or, Option, Some, None, Result, Ok, Err, refl, sym, subst, ap, arith, codes, inl, inr, ◌⊎◌}
use Rattle.std.specs.Prelude.{option_map, MatchOption, nat_le, unwrap_or, bytes_eq, ◌&&◌, if◌then◌else◌}
use Rattle.std.specs.Borrow.{Bor}
use Rattle.std.specs.Result.{result_ok}
use Rattle.std.specs.Str.{IsCharBoundary, all_ascii_digits}
use Rattle.std.specs.Str.Parse.{ParsesUnsigned, digits_value}
use Rattle.std.specs.Str.Pattern.{FindsTextPrefix, StripsPrefix}
use Rattle.std.proofs.lemmas.Bool.{and_parts, or_cases}
use Rattle.std.proofs.lemmas.Slice.Eq.{bytes_eq-Decides}
use Rattle.std.proofs.Math.Bool.{and-false}
use Rattle.std.proofs.lemmas.Str.Pattern.{starts_text}
use Rattle.std.proofs.lemmas.Str.Parse.{numerals_by_value, tells_all_ascii_digits, parse_plain}
use borrow.Author.Tests.{leb-true}
use Rattle.dd_prog.specs.Options.{behind, begins_from_1, has_no_leading_0, numeral, within}

-- what is stripped of a front stands behind it
pub stripped : (front word : List ℕ) (r : Option (Bor (List ℕ)))
    → MatchOption r (FindsTextPrefix front word None) (λ x. StripsPrefix (FindsTextPrefix front) word x.now)
    → option_map (λ rest. rest.now) r ≡ behind front word
stripped front word None lacks = rw (← starts_text false front word lacks) refl
stripped front word (Some x) strips =
    let found = strips.1 in
    let at : strips.0 ≡ length front = found.0 in
    let begins = starts_text true front word (strips.0, found, subst (IsCharBoundary word) (sym at) found.2) in
    rw (← begins, strips.2, at) refl

-- a word with no leading 0 is 0, or begins with a digit from 1 to 9
beginning : (word : List ℕ) → has_no_leading_0 word ≡ true → (word ≡ codes "0") ⊎ (begins_from_1 word ≡ true)
beginning word starts = elim (or_cases (bytes_eq word (codes "0")) (begins_from_1 word) starts) [
  | inl is ↦ inl ((bytes_eq-Decides word (codes "0")).0 is)
  | inr begins ↦ inr begins
]

-- a word with no leading 0 begins with a digit
abbrev HasFirstDigit : List ℕ → Type 0
HasFirstDigit w = (0 < length w) × (48 ≤ get_or w 0 0) × (get_or w 0 0 ≤ 57)

first_digit : (word : List ℕ) → has_no_leading_0 word ≡ true → HasFirstDigit word
first_digit word starts = elim (beginning word starts) [
  | inl is ↦ rw is (omega arith, omega arith, omega arith)
  | inr begins ↦ from word begins
] where
  from : (w : List ℕ) → begins_from_1 w ≡ true → HasFirstDigit w
  from [] begins = cc
  from (b ∷ bs) begins =
      let sides = and_parts (nat_le 49 b) (nat_le b 57) begins in
      let low : 49 ≤ b = leb-true _ _ sides.0 in
      let high : b ≤ 57 = leb-true _ _ sides.1 in
      (omega arith, omega (arith, low), high)

-- no sign stands where a digit does
no_plus : (word : List ℕ) → has_no_leading_0 word ≡ true → get_or word 0 0 ≢ 43
no_plus word starts = λ is. let digit = first_digit word starts in absurd (omega (arith, is, digit.1))

-- no hyphen stands where a digit does
pub no_hyphen : (d : ℕ) (ds : List ℕ) → has_no_leading_0 (d ∷ ds) ≡ true → (d == 45) ≡ false
no_hyphen d ds starts = let digit = first_digit (d ∷ ds) starts in grind (arith, digit.1)

-- a numeral past what fits is past the most
past : (least most : ℕ) (word : List ℕ) (digits : Bool) → all_ascii_digits word ≡ digits → has_no_leading_0 word ≡ true
    → most < 2 ^ 32 → ((digits ≡ true) × (0 < length word) × (digits_value 10 word < 2 ^ 32) → ⊥)
    → None ≡ within least most (numeral word)
past least most word true is starts small none =
    rw (starts, is) (beyond (digits_value 10 word) (λ fits. none (refl, (first_digit word starts).0, fits))) where
      beyond : (n : ℕ) → (n < 2 ^ 32 → ⊥) → None ≡ within least most (Some n)
      beyond n far = let e : nat_le n most ≡ false = grind (arith, far) in rw (e, and-false (nat_le least n)) refl
past least most word false is starts small none = rw (starts, is) refl

-- what is read of a word with no leading 0 is the number that it writes
pub parsed : {E : Type 0} (least most : ℕ) (word : List ℕ) (r : Result ℕ E) → has_no_leading_0 word ≡ true
    → most < 2 ^ 32 → ParsesUnsigned 32 10 word r → within least most (result_ok r) ≡ within least most (numeral word)
parsed {E} least most word (Ok n) starts small parses =
    let own = numerals_by_value _ tells_all_ascii_digits in
    let read = parse_plain own {E = E} 32 word (Ok n) parses (no_plus word starts) in
    rw (starts, read.0.0, read.1) refl
parsed {E} least most word (Err e) starts small parses =
    let own = numerals_by_value _ tells_all_ascii_digits in
    let none = parse_plain own {E = E} 32 word (Err e) parses (no_plus word starts) in
    past least most word (all_ascii_digits word) refl starts small none

-- what writes a number has no leading 0
pub numeral_starts : (word : List ℕ) (n : ℕ) → numeral word ≡ Some n → has_no_leading_0 word ≡ true
numeral_starts word n writes = by_sides (has_no_leading_0 word) refl where
  by_sides : (starts : Bool) → has_no_leading_0 word ≡ starts → has_no_leading_0 word ≡ true
  by_sides true e = e
  by_sides false e =
      let none : None ≡ Some n = rw e at writes in
      cc

-- a number within a range is from its least to its most
pub in_range : (least most : ℕ) (o : Option ℕ) (n : ℕ) → within least most o ≡ Some n
    → (o ≡ Some n) × (least ≤ n) × (n ≤ most)
in_range least most None n is = cc
in_range least most (Some m) n is = by_sides (nat_le least m && nat_le m most) refl is where
  by_sides : (fits : Bool) → (nat_le least m && nat_le m most) ≡ fits → (if fits then Some m else None) ≡ Some n
      → (Some m ≡ Some n) × (least ≤ n) × (n ≤ most)
  by_sides false e is = cc
  by_sides true e is =
      let sides = and_parts (nat_le least m) (nat_le m most) e in
      let same : m ≡ n = ap (λ o. unwrap_or o m) is in
      let low : least ≤ m = leb-true _ _ sides.0 in
      let high : m ≤ most = leb-true _ _ sides.1 in
      (is, subst (λ k. least ≤ k) same low, subst (λ k. k ≤ most) same high)
