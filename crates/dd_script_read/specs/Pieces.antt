-- Words of private functions alone: a script whose steps are the last member of its text, read a step at a time. The
-- whole is read 127 deep, as `serde_json` does, so a member of it 126 deep and an item of its list 125 deep.
use Rattle.std.specs.Prelude.{◌≡◌, ℕ, List, [], ◌∷◌, length, true, codes, Some, None}
use Rattle.std.specs.Borrow.{Bor}
use Rattle.std.specs.declared.alloc.Global.{Global}
use Rattle.json.specs.Token.{Token}
use Rattle.json.specs.Json as json
use Rattle.json.specs.Value.{value_view}
use Rattle.json.specs.declared.value.Value.{Value}
use Rattle.dd_calls.specs.declared.steps.Step.{Step}
use Rattle.dd_calls.specs.declared.steps.Script.{Script}
use Rattle.dd_script_read.specs.Script.{listed, each, step_of, parts_of}
use Rattle.dd_script_read.specs.Tree.{json_data, items_of, has_numbers, items_have_numbers}

-- ---- steps

-- the tokens begin with the tree of a step, and its numbers are in range
pub record NextStep (old : List Token) (s : Step) (new : List Token) : Type 0 where
  pub tree : json.Json
  pub read : json.value 125 old ≡ Some (tree, new)
  pub numbers : has_numbers tree ≡ true
  pub step : step_of (json_data tree) ≡ Some s

-- n turns read the items of a list up to its end, and they are these steps
pub record HasSteps (n : ℕ) (old : List Token) (ss : List Step) (new : List Token) : Type 0 where
  pub trees : json.Items
  pub read : json.items (json.value 125) n old ≡ Some (trees, new)
  pub numbers : items_have_numbers trees ≡ true
  pub steps : each step_of (listed (items_of trees)) ≡ Some ss

-- ---- the members before the steps

abbrev pub Member : Type 0
Member = Bor (List ℕ) × Value Global

-- these members, and the steps as the last one
abbrev pub with_steps : List Member → json.Json → json.Members
with_steps [] j = json.member (codes "steps") j json.no_members
with_steps (m ∷ ms) j = json.member m.0.now (value_view m.1) (with_steps ms j)

-- where a value follows and ends the object, its members are these, and the value as the steps
abbrev pub HasHead : List Token → List Member → List Token → Type 0
HasHead old head new = (j : json.Json) (rest after : List Token) → json.value 126 new ≡ Some (j, rest)
    → json.read_key rest ≡ Some (None, after)
    → json.members (json.value 126) (length old) old ≡ Some (with_steps head j, after)

-- ---- the script

-- the object of these members and of no step
abbrev pub stepless : List Member → json.Json
stepless head = json.object (with_steps head (json.array json.no_items))

-- these are its parts, and its numbers are in range
pub record HasStepless (head : List Member) (s : Script) : Type 0 where
  pub numbers : has_numbers (stepless head) ≡ true
  pub parts : parts_of (json_data (stepless head)) ≡ Some s

-- the script with these steps in place of its own
abbrev pub in_place : List Step → Script → Script
in_place ss s = record { spec = s.spec; clients = s.clients; steps = ss }
