-- An option of a command and its number, in the bytes of the words.
use Rattle.std.specs.Prelude.{ℕ, nat_le, Bool, false, ◌&&◌, ◌||◌, if◌then◌else◌, List, [], ◌∷◌, length, take, drop, bytes_eq, codes, Option, Some, None, option_and_then}
use Rattle.std.specs.Str.{all_ascii_digits}
use Rattle.std.specs.Str.Parse.{digits_value}

-- what stands in a word behind a front, where it begins so
abbrev pub behind : List ℕ → List ℕ → Option (List ℕ)
behind front w = if bytes_eq front (take (length front) w) then Some (drop (length front) w) else None

-- The value that the words give to an option: what stands behind its name and '=' in one word; or the word behind its
-- name.
abbrev pub value_given : List ℕ → List (List ℕ) → Option (List ℕ)
value_given name [] = None
value_given name (w ∷ []) = option_and_then (behind (codes "=")) (behind name w)
value_given name (w ∷ v ∷ []) = if bytes_eq w name then Some v else None
value_given name (w ∷ v ∷ u ∷ ws) = None

-- a digit from 1 to 9 stands first
abbrev pub begins_from_1 : List ℕ → Bool
begins_from_1 [] = false
begins_from_1 (b ∷ bs) = nat_le 49 b && nat_le b 57

-- the word is 0, or has no 0 before its other digits
abbrev pub has_no_leading_0 : List ℕ → Bool
has_no_leading_0 w = bytes_eq w (codes "0") || begins_from_1 w

-- the number that a word writes: 0, or a digit from 1 to 9 and then digits
abbrev pub numeral : List ℕ → Option ℕ
numeral w = if has_no_leading_0 w && all_ascii_digits w then Some (digits_value 10 w) else None

-- `u32::MAX`
abbrev pub u32_max : ℕ
u32_max = 4294967295

-- a number from `least` to `most`
abbrev pub within : ℕ → ℕ → Option ℕ → Option ℕ
within least most None = None
within least most (Some n) = if nat_le least n && nat_le n most then Some n else None

-- the number, from `least` to `most`, that the words give to an option
abbrev pub number_given : List ℕ → ℕ → ℕ → List (List ℕ) → Option ℕ
number_given name least most ws = within least most (option_and_then numeral (value_given name ws))
