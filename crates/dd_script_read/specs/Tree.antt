-- Words of private functions alone: the tree that is read of a text, as it stands there. It keeps each number as its
-- text, and each member of an object, also where a key stands twice.
use Rattle.std.specs.Prelude.{◌≡◌, ℕ, List, [], ◌∷◌, Bool, true, ◌&&◌, Option, None, Some, is_some, option_and_then, Result, Ok, Err}
use Rattle.std.specs.Borrow.{Bor}
use Rattle.std.specs.Option.{option_map_or}
use Rattle.std.specs.declared.alloc.Global.{Global}
use Rattle.json.specs.Json as json
use Rattle.json.specs.Lex.{tokens}
use Rattle.json.specs.Value.{value_view}
use Rattle.json.specs.declared.value.Value.{Value}
use Rattle.serde_json.specs.Data.{Data, null, boolean, number, string, array, object, Items, no_items, item, Members, no_members, put}
use Rattle.serde_json.specs.Read.{number_of, max_depth}
use Rattle.dd_script_read.specs.declared.fault.ScriptFault.{ScriptFault}
use Rattle.dd_script_read.specs.declared.fault.ScriptFault.TheVariants.{NotJson, NotScript, OutOfMemory}

-- the number of a text; no number where it is out of range
abbrev pub number_data : List ℕ → Data
number_data s = option_map_or number (number_of s) null

-- what the tree is as data: the last member of a key stays
abbrev mutual
  pub json_data : json.Json → Data
  json_data json.null = null
  json_data (json.boolean b) = boolean b
  json_data (json.number s) = number_data s
  json_data (json.string s) = string s
  json_data (json.array js) = array (items_of js)
  json_data (json.object ms) = object (members_of ms no_members)

  pub items_of : json.Items → Items
  items_of json.no_items = no_items
  items_of (json.item j js) = item (json_data j) (items_of js)

  pub members_of : json.Members → Members → Members
  members_of json.no_members found = found
  members_of (json.member k j ms) found = members_of ms (put k (json_data j) found)

unfoldable pub tree_data : Value Global → Data
tree_data v = json_data (value_view v)

-- each member put after those that were found before
abbrev pub gathered : Members → List (Bor (List ℕ) × Value Global) → Members
gathered found [] = found
gathered found (m ∷ ms) = gathered (put m.0.now (tree_data m.1) found) ms

-- whether each number of a tree is in range
abbrev mutual
  pub has_numbers : json.Json → Bool
  has_numbers json.null = true
  has_numbers (json.boolean b) = true
  has_numbers (json.number s) = is_some (number_of s)
  has_numbers (json.string s) = true
  has_numbers (json.array js) = items_have_numbers js
  has_numbers (json.object ms) = members_have_numbers ms

  pub items_have_numbers : json.Items → Bool
  items_have_numbers json.no_items = true
  items_have_numbers (json.item j js) = has_numbers j && items_have_numbers js

  pub members_have_numbers : json.Members → Bool
  members_have_numbers json.no_members = true
  members_have_numbers (json.member k j ms) = has_numbers j && members_have_numbers ms

-- the one value of a text
abbrev pub one_value : List ℕ → Option json.Json
one_value text = option_and_then (λ p. json.if_last p.0 p.1) (json.value max_depth (tokens text))

-- it is read, or there is none; want of memory says nothing
abbrev pub Values : Result (Value Global) ScriptFault → List ℕ → Type 0
Values (Ok v) text = one_value text ≡ Some (value_view v)
Values (Err NotJson) text = one_value text ≡ None
Values (Err NotScript) text = ⊥
Values (Err OutOfMemory) text = Unit {0}
