-- The text of a surface: what is written for each colour and each row.
use Rattle.std.proofs.Common.{◌≡◌, ℕ, zero, suc, ◌+◌, ◌<◌, ◌≤◌, ◌/◌, ◌%◌, List, [], ◌∷◌, ◌++◌, length, map, drop, get_or, slice_index, codes, refl, sym, ap, ◌∙◌, arith, append_assoc, append-nil}
use Rattle.std.specs.Prelude.{Option}
use Rattle.std.specs.List.{flat_map}
use Rattle.std.proofs.lemmas.List.{drop_more, drop_all, get_or-map}
use Rattle.hex.specs.Hex.{lower_digits, encode_with, encode_lower, IsBytes}
use Rattle.json.specs.Print.{escape_byte, escape}
use Rattle.serde_json.specs.Written.{compact_text}
use Rattle.dd_script_write.specs.Answers.{colour_bytes, row_digits, row_tree, rows_tree, surface_tree}

-- a row's digits begin with those of its first colour
digits-cons : (c : ℕ) (cs : List ℕ) → row_digits (c ∷ cs) ≡ encode_lower (colour_bytes c) ++ row_digits cs
unfolding row_digits encode_with
digits-cons c cs = refl

digits-none : row_digits [] ≡ []
unfolding row_digits encode_with
digits-none = refl

-- one colour more
pub digits_more : (whole old now row : List ℕ) (k d : ℕ) → k < length row
    → old ++ row_digits (drop k row) ≡ whole → now ≡ old ++ encode_lower (colour_bytes (get_or row k d))
    → now ++ row_digits (drop (k + 1) row) ≡ whole
digits_more whole old now row k d k_in is more =
    ap (λ xs. xs ++ row_digits (drop (k + 1) row)) more
    ∙ append_assoc old (encode_lower (colour_bytes (get_or row k d))) (row_digits (drop (k + 1) row))
    ∙ ap (λ xs. old ++ xs)
    (sym (digits-cons (get_or row k d) (drop (k + 1) row)) ∙ ap row_digits (sym (drop_more row k d k_in)))
    ∙ is

-- all colours
pub digits_all : (whole old row : List ℕ) (k : ℕ) → length row ≤ k → old ++ row_digits (drop k row) ≡ whole
    → old ≡ whole
digits_all whole old row k past is =
    sym (append-nil old) ∙ ap (λ xs. old ++ xs) (sym digits-none ∙ ap row_digits (sym (drop_all k row past))) ∙ is

-- a digit needs no escape
plain : (d : ℕ) → d < 16 → escape_byte (slice_index lower_digits d) ≡ slice_index lower_digits d ∷ []
unfolding escape_byte
plain d small =
    let same : map escape_byte lower_digits ≡ map (λ x. x ∷ []) lower_digits = refl in
    sym (get_or-map escape_byte lower_digits d 0 [] small)
    ∙ ap (λ xs. get_or xs d []) same
    ∙ get_or-map (λ x. x ∷ []) lower_digits d 0 [] small

plain_first : (d : ℕ) (rest : List ℕ) → d < 16
    → escape (slice_index lower_digits d ∷ rest) ≡ slice_index lower_digits d ∷ escape rest
plain_first d rest small = ap (λ xs. xs ++ escape rest) (plain d small)

-- the digits of bytes need no escape
plain_bytes : (bs : List ℕ) → IsBytes bs → escape (encode_lower bs) ≡ encode_lower bs
unfolding encode_with
plain_bytes [] all = refl
plain_bytes (b ∷ bs) all =
    let byte : b < 256 = all 0 in
    plain_first (b / 16) (slice_index lower_digits (b % 16) ∷ encode_lower bs) (omega (arith, byte))
    ∙ ap (λ xs. slice_index lower_digits (b / 16) ∷ xs)
    (plain_first (b % 16) (encode_lower bs) (omega arith)
    ∙ ap (λ xs. slice_index lower_digits (b % 16) ∷ xs) (plain_bytes bs (λ i. all (suc i))))

colours_are_bytes : (row : List ℕ) → IsBytes (flat_map colour_bytes row)
colours_are_bytes [] i = omega arith
colours_are_bytes (c ∷ cs) zero = omega arith
colours_are_bytes (c ∷ cs) (suc zero) = omega arith
colours_are_bytes (c ∷ cs) (suc (suc zero)) = omega arith
colours_are_bytes (c ∷ cs) (suc (suc (suc i))) = colours_are_bytes cs i

-- the text of a row is its digits between quotes
row_text : (row : List ℕ) → compact_text (row_tree row) ≡ 34 ∷ (row_digits row ++ 34 ∷ [])
unfolding row_digits
row_text row =
    ap (λ xs. 34 ∷ (xs ++ 34 ∷ [])) (plain_bytes (flat_map colour_bytes row) (colours_are_bytes row))

-- quotes and digits written one after the other
pub row_put : (a b c d row : List ℕ) → b ≡ a ++ 34 ∷ [] → c ≡ b ++ row_digits row → d ≡ c ++ 34 ∷ []
    → d ≡ a ++ compact_text (row_tree row)
row_put a b c d row opened written closed =
    closed
    ∙ ap (λ xs. xs ++ 34 ∷ []) (written ∙ ap (λ xs. xs ++ row_digits row) opened)
    ∙ append_assoc (a ++ 34 ∷ []) (row_digits row) (34 ∷ [])
    ∙ append_assoc a (34 ∷ []) (row_digits row ++ 34 ∷ [])
    ∙ ap (λ xs. a ++ xs) (sym (row_text row))

-- the line around the rows
pub surface_put : (a b c : List ℕ) (rows : Option (List (List ℕ))) → a ≡ codes "{\"surface\":"
    → b ≡ a ++ compact_text (rows_tree rows) → c ≡ b ++ codes "}\n"
    → c ≡ compact_text (surface_tree rows) ++ 10 ∷ []
unfolding surface_tree escape_byte
surface_put a b c rows opened written closed =
    let text = compact_text (rows_tree rows) in
    closed
    ∙ ap (λ xs. xs ++ codes "}\n") (written ∙ ap (λ xs. xs ++ text) opened)
    ∙ append_assoc (codes "{\"surface\":") text (codes "}\n")
    ∙ ap (λ xs. codes "{\"surface\":" ++ xs) (sym (append_assoc text (125 ∷ []) (10 ∷ [])))
