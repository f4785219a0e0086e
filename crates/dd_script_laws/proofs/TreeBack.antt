-- A tree with whole numbers, whose objects have their keys in order, is read from its own line.
use Rattle.std.proofs.Common.{◌≡◌, ℕ, ◌^◌, ◌<◌, ◌≤◌, pos, negsuc, Bool, true, false, ◌&&◌, List, [], ◌∷◌, ◌++◌, Some, option_map, option_and_then, Ordering, Less, Equal, Greater, IsUtf8, refl, sym, ap, ◌∙◌, append-nil}
use Rattle.std.specs.Prelude.{⊤}
use Rattle.std.specs.Ordering.{nat_cmp, match_ordering}
use Rattle.std.specs.Cmp.Lexicographic.{slice_cmp}
use Rattle.std.proofs.lemmas.Bool.{and_parts, and_from, false≢true}
use Rattle.std.proofs.lemmas.Fmt.{IsAscii-decimal, IsAscii-signed}
use Rattle.std.proofs.lemmas.Str.{IsUtf8-append, IsUtf8-nil, IsUtf8-from_ascii}
use Rattle.json.specs.Lex.{tokens}
use Rattle.json.specs.Json.{value, if_last}
use Rattle.json.specs.Print.{IsNumber, quoted}
use Rattle.json.specs.Tree as tree
use Rattle.json.specs.Tree.{json_tokens, HasNumbers, ItemsHaveNumbers, MembersHaveNumbers}
use Rattle.json.proofs.Printed.Decimals.{IsNumber-decimal, IsNumber-signed_decimal}
use Rattle.json.proofs.Printed.Tokens.{tokens-print}
use Rattle.json.proofs.Printed.Trees.{value-json_tokens, ArePrintable-json_tokens}
use Rattle.json.proofs.Printed.Utf8.{are_ascii, IsUtf8-are_ascii, IsUtf8-quoted, IsUtf8-boolean}
use Rattle.serde_json.specs.Data.{Num, unsigned, negative, float, Data, null, boolean, number, string, array, object, Items, no_items, item, Members, no_members, member, put}
use Rattle.serde_json.specs.Read.{number_of, of_json, of_items, of_members, max_depth, read}
use Rattle.serde_json.specs.Written.{number_text, outline, items_outline, members_outline, comma_if, compact_text, items_text, members_text}
use Rattle.serde_json.proofs.Numbers.{number_of-decimal, number_of-negative}
use Rattle.serde_json.proofs.Texts.{print-outline}
use Rattle.dd_script_laws.proofs.LineFeed.{tokens_of_line}

-- ---- which trees

-- a whole number of 64 bits
abbrev pub IsWhole : Num → Type 0
IsWhole (unsigned n) = n < 2 ^ 64
IsWhole (negative (pos n)) = ⊥
IsWhole (negative (negsuc n)) = n < 2 ^ 63
IsWhole (float x) = ⊥

abbrev is_greater : Ordering → Bool
is_greater o = match_ordering o false false true

-- a key comes behind each of the members, and each key of members behind each of others
abbrev pub is_behind : List ℕ → Members → Bool
is_behind k no_members = true
is_behind k (member l d ms) = is_greater (slice_cmp nat_cmp k l) && is_behind k ms

abbrev pub are_behind : Members → Members → Bool
are_behind no_members before = true
are_behind (member k d ms) before = is_behind k before && are_behind ms before

-- each key is ASCII, and comes behind those before it
abbrev pub are_in_order : Members → Bool
are_in_order no_members = true
are_in_order (member k d ms) = are_ascii k && are_behind ms (member k d no_members) && are_in_order ms

abbrev mutual
  pub IsPlain : Data → Type 0
  IsPlain null = ⊤
  IsPlain (boolean b) = ⊤
  IsPlain (number n) = IsWhole n
  IsPlain (string s) = IsUtf8 s
  IsPlain (array ds) = ArePlain ds
  IsPlain (object ms) = (are_in_order ms ≡ true) × HavePlain ms

  pub ArePlain : Items → Type 0
  ArePlain no_items = ⊤
  ArePlain (item d ds) = IsPlain d × ArePlain ds

  pub HavePlain : Members → Type 0
  HavePlain no_members = ⊤
  HavePlain (member k d ms) = IsPlain d × HavePlain ms

-- ---- numbers

number_back : (n : Num) → IsWhole n → number_of (number_text n) ≡ Some n
number_back (unsigned n) h = number_of-decimal n h
number_back (negative (pos n)) h = absurd h
number_back (negative (negsuc n)) h = number_of-negative n h
number_back (float x) h = absurd h

number_is_one : (n : Num) → IsWhole n → IsNumber (number_text n)
number_is_one (unsigned n) h = IsNumber-decimal n h
number_is_one (negative (pos n)) h = absurd h
number_is_one (negative (negsuc n)) h = IsNumber-signed_decimal (negsuc n) h
number_is_one (float x) h = absurd h

number_utf8 : (n : Num) → IsWhole n → IsUtf8 (number_text n)
number_utf8 (unsigned n) h = IsUtf8-from_ascii _ (IsAscii-decimal n h)
number_utf8 (negative (pos n)) h = absurd h
number_utf8 (negative (negsuc n)) h = IsUtf8-from_ascii _ (IsAscii-signed (negsuc n) h)
number_utf8 (float x) h = absurd h

-- ---- members that are put behind others

abbrev joined : Members → Members → Members
joined no_members ms = ms
joined (member k d before) ms = member k d (joined before ms)

joined_one : (before : Members) (k : List ℕ) (d : Data) (ms : Members)
    → joined (joined before (member k d no_members)) ms ≡ joined before (member k d ms)
joined_one no_members k d ms = refl
joined_one (member l e before) k d ms = ap (member l e) (joined_one before k d ms)

joined_none : (before : Members) → joined before no_members ≡ before
joined_none no_members = refl
joined_none (member k d before) = ap (member k d) (joined_none before)

are_behind-none : (ms : Members) → are_behind ms no_members ≡ true
are_behind-none no_members = refl
are_behind-none (member k d ms) = are_behind-none ms

is_greater-true : (o : Ordering) → is_greater o ≡ true → o ≡ Greater
is_greater-true Less h = absurd (false≢true h)
is_greater-true Equal h = absurd (false≢true h)
is_greater-true Greater h = refl

put_behind : (k : List ℕ) (d : Data) (before : Members) → is_behind k before ≡ true
    → put k d before ≡ joined before (member k d no_members)
put_behind k d no_members h = refl
put_behind k d (member l e before) h =
    let both = and_parts (is_greater (slice_cmp nat_cmp k l)) (is_behind k before) h in
    rw (is_greater-true (slice_cmp nat_cmp k l) both.0) (ap (member l e) (put_behind k d before both.1))

is_behind-joined : (k : List ℕ) (before ms : Members) → is_behind k before ≡ true → is_behind k ms ≡ true
    → is_behind k (joined before ms) ≡ true
is_behind-joined k no_members ms h j = j
is_behind-joined k (member l e before) ms h j =
    let both = and_parts (is_greater (slice_cmp nat_cmp k l)) (is_behind k before) h in
    and_from _ _ both.0 (is_behind-joined k before ms both.1 j)

are_behind-joined : (ms before more : Members) → are_behind ms before ≡ true → are_behind ms more ≡ true
    → are_behind ms (joined before more) ≡ true
are_behind-joined no_members before more h j = refl
are_behind-joined (member k d ms) before more h j =
    let old = and_parts (is_behind k before) (are_behind ms before) h in
    let new = and_parts (is_behind k more) (are_behind ms more) j in
    and_from _ _ (is_behind-joined k before more old.0 new.0) (are_behind-joined ms before more old.1 new.1)

-- ---- a tree's text

mutual
  back : (d : Data) → IsPlain d → of_json (outline d) ≡ Some d
  back null h = refl
  back (boolean b) h = refl
  back (number n) h = ap (option_map number) (number_back n h)
  back (string s) h = refl
  back (array ds) h = ap (option_map array) (items_back ds h)
  back (object ms) h = ap (option_map object) (members_back ms no_members (are_behind-none ms) h.0 h.1)

  items_back : (ds : Items) → ArePlain ds → of_items (items_outline ds) ≡ Some ds
  items_back no_items h = refl
  items_back (item d ds) h = rw (back d h.0, items_back ds h.1) refl

  members_back : (ms before : Members) → are_behind ms before ≡ true → are_in_order ms ≡ true → HavePlain ms
      → of_members (members_outline ms) before ≡ Some (joined before ms)
  members_back no_members before b o h = ap Some (sym (joined_none before))
  members_back (member k d ms) before b o h =
      let behind = and_parts (is_behind k before) (are_behind ms before) b in
      let order = and_parts (are_ascii k && are_behind ms (member k d no_members)) (are_in_order ms) o in
      let later = (and_parts (are_ascii k) (are_behind ms (member k d no_members)) order.0).1 in
      let next = joined before (member k d no_members) in
      let put_last = put_behind k d before behind.0 in
      let still = are_behind-joined ms before (member k d no_members) behind.1 later in
      let rest = members_back ms next still order.1 h.1 in
      rw (back d h.0, put_last) (rest ∙ ap Some (joined_one before k d ms))

mutual
  has_numbers : (d : Data) → IsPlain d → HasNumbers (outline d)
  has_numbers null h = tt
  has_numbers (boolean b) h = tt
  has_numbers (number n) h = number_is_one n h
  has_numbers (string s) h = tt
  has_numbers (array ds) h = items_have_numbers ds h
  has_numbers (object ms) h = members_have_numbers ms h.1

  items_have_numbers : (ds : Items) → ArePlain ds → ItemsHaveNumbers (items_outline ds)
  items_have_numbers no_items h = tt
  items_have_numbers (item d ds) h = (has_numbers d h.0, items_have_numbers ds h.1)

  members_have_numbers : (ms : Members) → HavePlain ms → MembersHaveNumbers (members_outline ms)
  members_have_numbers no_members h = tt
  members_have_numbers (member k d ms) h = (has_numbers d h.0, members_have_numbers ms h.1)

comma_utf8 : (later : Bool) → IsUtf8 (comma_if later)
comma_utf8 true = IsUtf8-are_ascii _ refl
comma_utf8 false = IsUtf8-nil

-- a text behind an ASCII byte
after_byte : (x : ℕ) (xs : List ℕ) → are_ascii (x ∷ []) ≡ true → IsUtf8 xs → IsUtf8 (x ∷ xs)
after_byte x xs e u = IsUtf8-append (x ∷ []) xs (IsUtf8-are_ascii (x ∷ []) e) u

mutual
  pub is_utf8 : (d : Data) → IsPlain d → IsUtf8 (compact_text d)
  is_utf8 null h = IsUtf8-are_ascii _ refl
  is_utf8 (boolean b) h = IsUtf8-boolean b
  is_utf8 (number n) h = number_utf8 n h
  is_utf8 (string s) h = IsUtf8-quoted s h
  is_utf8 (array ds) h = after_byte 91 _ refl (items_utf8 false ds h)
  is_utf8 (object ms) h = after_byte 123 _ refl (members_utf8 false ms h.0 h.1)

  items_utf8 : (later : Bool) (ds : Items) → ArePlain ds → IsUtf8 (items_text later ds)
  items_utf8 later no_items h = IsUtf8-are_ascii _ refl
  items_utf8 later (item d ds) h =
      IsUtf8-append (comma_if later) _ (comma_utf8 later)
      (IsUtf8-append (compact_text d) _ (is_utf8 d h.0) (items_utf8 true ds h.1))

  members_utf8 : (later : Bool) (ms : Members) → are_in_order ms ≡ true → HavePlain ms → IsUtf8 (members_text later ms)
  members_utf8 later no_members o h = IsUtf8-are_ascii _ refl
  members_utf8 later (member k d ms) o h =
      let order = and_parts (are_ascii k && are_behind ms (member k d no_members)) (are_in_order ms) o in
      let ascii = (and_parts (are_ascii k) (are_behind ms (member k d no_members)) order.0).0 in
      let key = IsUtf8-quoted k (IsUtf8-are_ascii k ascii) in
      let value = IsUtf8-append (compact_text d) _ (is_utf8 d h.0) (members_utf8 true ms order.1 h.1) in
      IsUtf8-append (comma_if later) _ (comma_utf8 later) (IsUtf8-append (quoted k) _ key (after_byte 58 _ refl value))

-- ---- the line

pub line_is_utf8 : (d : Data) → IsPlain d → IsUtf8 (compact_text d ++ 10 ∷ [])
line_is_utf8 d h = IsUtf8-append (compact_text d) (10 ∷ []) (is_utf8 d h) (IsUtf8-are_ascii (10 ∷ []) refl)

tokens_alone : (d : Data) → IsPlain d → tokens (compact_text d) ≡ json_tokens (outline d)
tokens_alone d h =
    ap tokens (sym (print-outline d))
    ∙ tokens-print (json_tokens (outline d)) (ArePrintable-json_tokens (outline d) (has_numbers d h))

tokens_back : (d : Data) → IsPlain d → tokens (compact_text d ++ 10 ∷ []) ≡ json_tokens (outline d)
tokens_back d h = tokens_of_line d (has_numbers d h) ∙ tokens_alone d h

-- a text with the tokens of a tree is that tree
read_of_tokens : (bytes : List ℕ) (d : Data) → tokens bytes ≡ json_tokens (outline d) → IsPlain d
    → tree.depth (outline d) ≤ max_depth → read bytes ≡ Some d
read_of_tokens bytes d e h shallow =
    let all = e ∙ sym (append-nil (json_tokens (outline d))) in
    let whole = ap (value max_depth) all ∙ value-json_tokens (outline d) max_depth [] shallow in
    ap (λ o. option_and_then of_json (option_and_then (λ p. if_last p.0 p.1) o)) whole ∙ back d h

pub line_is_read : (d : Data) → IsPlain d → tree.depth (outline d) ≤ max_depth
    → read (compact_text d ++ 10 ∷ []) ≡ Some d
line_is_read d h shallow = read_of_tokens (compact_text d ++ 10 ∷ []) d (tokens_back d h) h shallow

-- ---- the text without a line feed

pub text_is_read : (d : Data) → IsPlain d → tree.depth (outline d) ≤ max_depth → read (compact_text d) ≡ Some d
text_is_read d h shallow = read_of_tokens (compact_text d) d (tokens_alone d h) h shallow
