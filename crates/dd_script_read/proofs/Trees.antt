-- What the parts of a tree are as data.
use Rattle.std.proofs.Common.{◌≡◌, ℕ, zero, suc, List, [], ◌∷◌, map, refl, sym, ap, ◌∙◌, Bool, true, false, Option, Some, None, option_map, cond, bytes_eq, Vec}
use Rattle.std.specs.Option.{option_map_or}
use Rattle.std.specs.Borrow.{Bor}
use Rattle.std.specs.declared.alloc.Global.{Global}
use Rattle.std.proofs.lemmas.Slice.Eq.{bytes_eq-Decides}
use Rattle.json.specs.Json as json
use Rattle.json.specs.Find as found
use Rattle.json.specs.Value as seen
use Rattle.json.specs.Value.{value_view}
use Rattle.json.specs.declared.value.Value.{Value, Array}
use Rattle.json.proofs.Trees.{view-Array}
use Rattle.serde_json.specs.Data.{Num, Data, number, null, Items, no_items, item, Members, no_members, member, put}
use Rattle.serde_json.specs.Read.{number_of}
use Rattle.serde_json.specs.Find.{get, get_member, get_item, at, as_number, as_str, as_bool}
use Rattle.serde_json.proofs.Views.{get_member-put, get_member-put_other}
use Rattle.dd_script_read.specs.Script.{listed, list_of}
use Rattle.dd_script_read.specs.Tree.{number_data, json_data, items_of, members_of, tree_data}

-- ---- numbers

abbrev number_or_null : Option Num → Data
number_or_null o = option_map_or number o null

number_from_data : (o : Option Num) → o ≡ as_number (number_or_null o)
number_from_data None = refl
number_from_data (Some n) = refl

no_get : (k : List ℕ) (o : Option Num) → None ≡ get k (number_or_null o)
no_get k None = refl
no_get k (Some n) = refl

no_item : (n : ℕ) (o : Option Num) → None ≡ at n (number_or_null o)
no_item n None = refl
no_item n (Some x) = refl

no_text : (o : Option Num) → None ≡ as_str (number_or_null o)
no_text None = refl
no_text (Some x) = refl

no_truth : (o : Option Num) → None ≡ as_bool (number_or_null o)
no_truth None = refl
no_truth (Some x) = refl

no_list : (o : Option Num) → None ≡ list_of (number_or_null o)
no_list None = refl
no_list (Some x) = refl

-- ---- lists

listed_data : (vs : List (Value Global)) → listed (items_of (seen.items_view vs)) ≡ map tree_data vs
unfolding tree_data
listed_data [] = refl
listed_data (v ∷ vs) = ap (λ ds. tree_data v ∷ ds) (listed_data vs)

item_at : (n : ℕ) (js : json.Items) → option_map json_data (found.get_item n js) ≡ get_item n (items_of js)
item_at n json.no_items = refl
item_at zero (json.item j js) = refl
item_at (suc n) (json.item j js) = item_at n js

json_at : (n : ℕ) (j : json.Json) → option_map json_data (found.at n j) ≡ at n (json_data j)
json_at n json.null = refl
json_at n (json.boolean b) = refl
json_at n (json.number s) = no_item n (number_of s)
json_at n (json.string s) = refl
json_at n (json.array js) = item_at n js
json_at n (json.object ms) = refl

-- ---- objects

-- the member found last, or the one that was found before
abbrev latest : Option Data → Option Data → Option Data
latest None earlier = earlier
latest (Some d) earlier = Some d

later_data : (o e : Option json.Json)
    → option_map json_data (found.later_or o e) ≡ latest (option_map json_data o) (option_map json_data e)
later_data None e = refl
later_data (Some j) e = refl

-- a member that was put before others
latest_put : (b : Bool) (name k : List ℕ) (j : json.Json) (before : Members) (o : Option Data)
    → bytes_eq k name ≡ b
    → latest (latest o (option_map json_data (cond b (Some j) None))) (get_member name before)
    ≡ latest o (get_member name (put k (json_data j) before))
latest_put true name k j before None e =
    rw (← (bytes_eq-Decides k name).0 e) (sym (get_member-put k (json_data j) before))
latest_put false name k j before None e =
    sym (get_member-put_other name k (json_data j) before (λ same. cc (e, (bytes_eq-Decides k name).1 (sym same))))
latest_put true name k j before (Some d) e = refl
latest_put false name k j before (Some d) e = refl

member_found : (name : List ℕ) (ms : json.Members) (before : Members)
    → latest (option_map json_data (found.get_member name ms)) (get_member name before)
    ≡ get_member name (members_of ms before)
member_found name json.no_members before = refl
member_found name (json.member k j ms) before =
    ap (λ o. latest o (get_member name before))
    (later_data (found.get_member name ms) (cond (bytes_eq k name) (Some j) None))
    ∙ latest_put (bytes_eq k name) name k j before (option_map json_data (found.get_member name ms)) refl
    ∙ member_found name ms (put k (json_data j) before)

latest_none : (o : Option Data) → o ≡ latest o None
latest_none None = refl
latest_none (Some d) = refl

json_get : (name : List ℕ) (j : json.Json) → option_map json_data (found.get name j) ≡ get name (json_data j)
json_get name json.null = refl
json_get name (json.boolean b) = refl
json_get name (json.number s) = no_get name (number_of s)
json_get name (json.string s) = refl
json_get name (json.array js) = refl
json_get name (json.object ms) =
    latest_none (option_map json_data (found.get_member name ms)) ∙ member_found name ms no_members

-- ---- what is found of a value

as_data : (o : Option (Bor (Value Global)))
    → option_map (λ v. tree_data v.now) o ≡ option_map json_data (option_map (λ v. value_view v.now) o)
unfolding tree_data
as_data None = refl
as_data (Some v) = refl

pub tree_at : (o : Option (Bor (Value Global))) (n : ℕ) (j : json.Json)
    → option_map (λ v. value_view v.now) o ≡ found.at n j → option_map (λ v. tree_data v.now) o ≡ at n (json_data j)
tree_at o n j e = as_data o ∙ ap (option_map json_data) e ∙ json_at n j

pub tree_get : (o : Option (Bor (Value Global))) (name : List ℕ) (j : json.Json)
    → option_map (λ v. value_view v.now) o ≡ found.get name j
    → option_map (λ v. tree_data v.now) o ≡ get name (json_data j)
tree_get o name j e = as_data o ∙ ap (option_map json_data) e ∙ json_get name j

pub tree_list : (v : Vec (Value Global) Global) (w : Value Global) → w ≡ Array v
    → Some (map tree_data v.items) ≡ list_of (tree_data w)
unfolding tree_data
tree_list v w e =
    ap Some (sym (listed_data v.items)) ∙ ap (λ j. list_of (json_data j)) (sym (view-Array v))
    ∙ ap (λ x. list_of (tree_data x)) (sym e)
