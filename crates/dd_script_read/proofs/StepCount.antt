-- A script has fewer steps than its text has bytes.
use Rattle.std.proofs.Common.{◌≡◌, ℕ, suc, ◌<◌, ◌≤◌, List, [], ◌∷◌, length, Option, Some, None, Ordering, Less, Equal, Greater, refl, ap, subst, arith, IfSome, codes, option_and_then}
use Rattle.std.specs.Ordering.{nat_cmp, match_ordering}
use Rattle.std.specs.Cmp.Lexicographic.{slice_cmp}
use Rattle.serde_json.specs.Data.{Data, null, boolean, number, string, array, object, Items, no_items, item, Members, no_members, member}
use Rattle.serde_json.specs.Find.{get_member, get}
use Rattle.dd_calls.specs.declared.steps.Step.{Step}
use Rattle.dd_calls.specs.declared.steps.Script.{Script}
use Rattle.dd_script_read.specs.Script.{listed, list_of, has_keys, each, step_of, steps_of, u32_of, modes_of, apps_of, parts_of, keeps_limits, script_of}
use Rattle.dd_script_read.specs.Reading.{IsJson}
use Rattle.dd_script_read.proofs.Holds.{then_holds, always_holds, tested_holds}
use Rattle.dd_script_read.proofs.TreeSize.{size, items_size, members_size, tree_of_text}

-- a tree is smaller than the object that it stands in
either_order : {A : Type 0} (P : A → Type 0) (o : Ordering) (a b c : Option A) → IfSome a P → IfSome b P → IfSome c P
    → IfSome (match_ordering o a b c) P
either_order P Less a b c p q r = p
either_order P Equal a b c p q r = q
either_order P Greater a b c p q r = r

abbrev AtMost : ℕ → Data → Type 0
AtMost n d = size d ≤ n

larger : (m n : ℕ) (o : Option Data) → m ≤ n → IfSome o (AtMost m) → IfSome o (AtMost n)
larger m n None le h = tt
larger m n (Some d) le h = omega arith

member_fits : (k : List ℕ) (ms : Members) → IfSome (get_member k ms) (AtMost (members_size ms))
member_fits k no_members = tt
member_fits k (member l e ms) =
    let n = members_size (member l e ms) in
    let later = larger (members_size ms) n (get_member k ms) (omega arith) (member_fits k ms) in
    let order = slice_cmp nat_cmp k l in
    either_order (AtMost n) order (get_member k ms) (Some e) (get_member k ms) later (omega arith) later

abbrev Smaller : Data → Data → Type 0
Smaller d e = size e < size d

within_object : (o : Option Data) (n : ℕ) → IfSome o (AtMost n) → IfSome o (λ e. size e < suc n)
within_object None n h = tt
within_object (Some e) n h = omega arith

key_is_smaller : (k : List ℕ) (d : Data) → IfSome (get k d) (Smaller d)
key_is_smaller k null = tt
key_is_smaller k (boolean b) = tt
key_is_smaller k (number n) = tt
key_is_smaller k (string s) = tt
key_is_smaller k (array ds) = tt
key_is_smaller k (object ms) = within_object (get_member k ms) (members_size ms) (member_fits k ms)

-- a list has fewer items than its size
holds_itself : (d : Data) → 1 ≤ size d
holds_itself null = omega arith
holds_itself (boolean b) = omega arith
holds_itself (number n) = omega arith
holds_itself (string s) = omega arith
holds_itself (array ds) = omega arith
holds_itself (object ms) = omega arith

few_items : (ds : Items) → length (listed ds) ≤ items_size ds
few_items no_items = omega arith
few_items (item d ds) = let one = holds_itself d in let rest = few_items ds in omega arith

abbrev Shorter : {A : Type 0} → Data → List A → Type 0
Shorter d xs = length xs < size d

list_is_short : (d : Data) → IfSome (list_of d) (Shorter d)
list_is_short null = tt
list_is_short (boolean b) = tt
list_is_short (number n) = tt
list_is_short (string s) = tt
list_is_short (array ds) = let few = few_items ds in omega arith
list_is_short (object ms) = tt

-- what is read of each item is as long
abbrev AsLong : {A : Type 0} → List Data → List A → Type 0
AsLong ds xs = length xs ≡ length ds

each_is_as_long : {A : Type 0} (f : Data → Option A) (ds : List Data) → IfSome (each f ds) (AsLong ds)
each_is_as_long f [] = refl
each_is_as_long f (d ∷ ds) =
    always_holds (AsLong (d ∷ ds)) (f d) _ (λ x.
    then_holds (AsLong ds) (AsLong (d ∷ ds)) (each f ds) _ (each_is_as_long f ds) (λ xs rest. ap suc rest))

as_short : {A : Type 0} (ds : List Data) (d : Data) (o : Option (List A)) → length ds < size d → IfSome o (AsLong ds)
    → IfSome o (Shorter d)
as_short ds d None lt h = tt
as_short ds d (Some xs) lt h = omega arith

steps_are_few : (d : Data) → IfSome (steps_of d) (Shorter d)
unfolding steps_of
steps_are_few d =
    then_holds (Shorter d) (Shorter d) (list_of d) (each step_of) (list_is_short d) (λ ds lt.
    as_short ds d (each step_of ds) lt (each_is_as_long step_of ds))

-- the steps of a script, which stand in its object
abbrev HasFewSteps : ℕ → List Step → Type 0
HasFewSteps n ss = suc (length ss) < n

steps_of_key : (d e : Data) (o : Option (List Step)) → size e < size d → IfSome o (Shorter e)
    → IfSome o (HasFewSteps (size d))
steps_of_key d e None lt h = tt
steps_of_key d e (Some ss) lt h = omega arith

abbrev ScriptIsShort : Data → Script → Type 0
ScriptIsShort d s = HasFewSteps (size d) s.steps

parts_are_few : (d : Data) → IfSome (parts_of d) (ScriptIsShort d)
unfolding parts_of
parts_are_few d =
    let P : Script → Type 0 = ScriptIsShort d in
    let keyed : Option (List Step) = option_and_then steps_of (get (codes "steps") d) in
    let few : IfSome keyed (HasFewSteps (size d)) =
    then_holds (Smaller d) (HasFewSteps (size d)) (get (codes "steps") d) steps_of (key_is_smaller (codes "steps") d)
    (λ e lt. steps_of_key d e (steps_of e) lt (steps_are_few e)) in
    tested_holds P (has_keys 5 d) _ (λ _.
    always_holds P (option_and_then modes_of (get (codes "modes") d)) _ (λ modes.
    always_holds P (option_and_then u32_of (get (codes "capacity") d)) _ (λ capacity.
    always_holds P (option_and_then apps_of (get (codes "privileged") d)) _ (λ privileged.
    always_holds P (option_and_then apps_of (get (codes "clients") d)) _ (λ clients.
    then_holds (HasFewSteps (size d)) P keyed _ few (λ steps h. h))))))

script_is_short : (d : Data) → IfSome (script_of d) (ScriptIsShort d)
unfolding script_of
script_is_short d =
    then_holds (ScriptIsShort d) (ScriptIsShort d) (parts_of d) _ (parts_are_few d) (λ s h.
    tested_holds (ScriptIsShort d) (keeps_limits s) (Some s) (λ _. h))

pub few_steps : (bytes : List ℕ) (d : Data) (s : Script) → IsJson bytes d → script_of d ≡ Some s
    → length s.steps < length bytes
few_steps bytes d s json e =
    let small = tree_of_text bytes d json.tree in
    let P : Option Script → Type 0 = λ o. IfSome o (ScriptIsShort d) in
    let short : suc (length s.steps) < size d = subst P e (script_is_short d) in
    omega arith
