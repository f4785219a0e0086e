-- A tree whose numbers are all in range is the data that `serde_json` reads of the same text; another is none.
use Rattle.std.proofs.Common.{◌≡◌, ℕ, List, Bool, true, false, ◌&&◌, Option, Some, None, refl, sym, ap, ◌∙◌}
use Rattle.std.specs.Prelude.{is_some, option_map, option_and_then, IsUtf8}
use Rattle.std.specs.Option.{option_map_or}
use Rattle.json.specs.Json as json
use Rattle.serde_json.specs.Data.{Num, Data, null, number, string, array, object, Items, no_items, item, Members, no_members, put}
use Rattle.serde_json.specs.Read.{number_of, of_json, of_items, of_members, read}
use Rattle.dd_script_read.specs.Reading.{IsJson}
use Rattle.dd_script_read.specs.Tree.{json_data, items_of, members_of, has_numbers, items_have_numbers, members_have_numbers, one_value}

-- what is read, where a test holds, or none
abbrev pub only_if : {A : Type 0} → Bool → A → Option A
only_if true x = Some x
only_if false x = None

number_read : (o : Option Num) → option_map number o ≡ only_if (is_some o) (option_map_or number o null)
number_read None = refl
number_read (Some n) = refl

in_array : (b : Bool) (js : Items) → option_map array (only_if b js) ≡ only_if b (array js)
in_array true js = refl
in_array false js = refl

in_object : (b : Bool) (ms : Members) → option_map object (only_if b ms) ≡ only_if b (object ms)
in_object true ms = refl
in_object false ms = refl

with_item : (a b : Bool) (d : Data) (js : Items)
    → option_and_then (λ e. option_map (item e) (only_if b js)) (only_if a d) ≡ only_if (a && b) (item d js)
with_item true true d js = refl
with_item true false d js = refl
with_item false b d js = refl

with_member : (a b : Bool) (d : Data) (more : Data → Option Members) (ms : Members) → more d ≡ only_if b ms
    → option_and_then more (only_if a d) ≡ only_if (a && b) ms
with_member true b d more ms e = e
with_member false b d more ms e = refl

mutual
  pub json_read : (j : json.Json) → of_json j ≡ only_if (has_numbers j) (json_data j)
  json_read json.null = refl
  json_read (json.boolean b) = refl
  json_read (json.number s) = number_read (number_of s)
  json_read (json.string s) = refl
  json_read (json.array js) =
      ap (option_map array) (items_read js) ∙ in_array (items_have_numbers js) (items_of js)
  json_read (json.object ms) =
      ap (option_map object) (members_read ms no_members)
      ∙ in_object (members_have_numbers ms) (members_of ms no_members)

  items_read : (js : json.Items) → of_items js ≡ only_if (items_have_numbers js) (items_of js)
  items_read json.no_items = refl
  items_read (json.item j js) =
      ap (λ o. option_and_then (λ d. option_map (item d) (of_items js)) o) (json_read j)
      ∙ ap (λ o. option_and_then (λ d. option_map (item d) o) (only_if (has_numbers j) (json_data j))) (items_read js)
      ∙ with_item (has_numbers j) (items_have_numbers js) (json_data j) (items_of js)

  members_read : (ms : json.Members) (before : Members)
      → of_members ms before ≡ only_if (members_have_numbers ms) (members_of ms before)
  members_read json.no_members before = refl
  members_read (json.member k j ms) before =
      ap (option_and_then (λ d. of_members ms (put k d before))) (json_read j)
      ∙ with_member (has_numbers j) (members_have_numbers ms) (json_data j) (λ d. of_members ms (put k d before))
      (members_of ms (put k (json_data j) before)) (members_read ms (put k (json_data j) before))

-- what a text reads as
pub text_read : (text : List ℕ) (j : json.Json) → one_value text ≡ Some j
    → read text ≡ only_if (has_numbers j) (json_data j)
text_read text j e = ap (option_and_then of_json) e ∙ json_read j

pub no_text_read : (text : List ℕ) → one_value text ≡ None → read text ≡ None
no_text_read text e = ap (option_and_then of_json) e

-- the tree of a text whose numbers are in range, and of one with a number that isn't
pub is_json : (bytes text : List ℕ) (j : json.Json) → text ≡ bytes → IsUtf8 bytes → one_value text ≡ Some j
    → true ≡ has_numbers j → IsJson bytes (json_data j)
is_json bytes text j same utf8 value fits =
    record {
      text = utf8;
      tree = ap read (sym same) ∙ text_read text j value ∙ ap (λ b. only_if b (json_data j)) (sym fits);
    }

pub no_json : (bytes text : List ℕ) (j : json.Json) (d : Data) → text ≡ bytes → one_value text ≡ Some j
    → false ≡ has_numbers j → IsJson bytes d → ⊥
no_json bytes text j d same value out is =
    let none : read bytes ≡ None =
    ap read (sym same) ∙ text_read text j value ∙ ap (λ b. only_if b (json_data j)) (sym out) in
    cc (none, is.tree)

pub no_value : (bytes text : List ℕ) (d : Data) → text ≡ bytes → one_value text ≡ None → IsJson bytes d → ⊥
no_value bytes text d same none is =
    let nothing : read bytes ≡ None = ap read (sym same) ∙ no_text_read text none in
    cc (nothing, is.tree)
