-- A script that is read a step at a time is the one that its tree is.
use Rattle.std.proofs.Common.{◌≡◌, ℕ, suc, ◌-◌, ◌<◌, ◌≤◌, ◌==◌, Bool, true, false, ◌&&◌, List, [], ◌∷◌, ◌++◌, length, Option, Some, None, option_map, option_and_then, Ordering, Less, Equal, Greater, nat_cmp, codes, Vec, Bor, cond, refl, sym, ap, ◌∙◌, subst, arith, append_assoc, Result, Ok, Err, IfOk, bytes_eq}
use Rattle.std.specs.Prelude.{IsUtf8}
use Rattle.std.specs.Ordering.{match_ordering}
use Rattle.std.specs.Cmp.Lexicographic.{slice_cmp}
use Rattle.std.specs.declared.alloc.Global.{Global}
use Rattle.std.proofs.lemmas.List.{append-nil}
use Rattle.std.proofs.lemmas.Bool.{false≢true}
use Rattle.std.proofs.lemmas.Slice.Eq.{bytes_eq-Decides}
use Rattle.json.specs.Token.{Token, begin_object, end_object, begin_array}
use Rattle.json.specs.Json as json
use Rattle.json.specs.Lex.{tokens}
use Rattle.json.specs.Value as seen
use Rattle.json.specs.Value.{value_view}
use Rattle.json.specs.declared.value.Value.{Value, Array, Object}
use Rattle.json.proofs.Grammar.{left, value-begin_array, value-begin_object, items_end, items_more, members_end, members_more, read_key-shorter, skip_value-shorter}
use Rattle.json.proofs.Trees.{members_before, one_more_member, none_before, view-Array, view-Object}
use Rattle.serde_json.specs.Data.{Data, array, object, Items, no_items, Members, no_members, member, put}
use Rattle.serde_json.specs.Find.{get_member}
use Rattle.serde_json.proofs.Views.{get_member-put, get_member-put_other}
use Rattle.dd_modes.specs.declared.modes.Mode.{Mode}
use Rattle.dd_calls.specs.declared.steps.Step.{Step}
use Rattle.dd_calls.specs.declared.steps.Script.{Script}
use Rattle.dd_script_read.specs.Script.{◌>>=◌, listed, each, step_of, steps_of, u32_of, modes_of, apps_of, member_count, parts_of, keeps_limits, script_of}
use Rattle.dd_script_read.specs.Reading.{IsScript, Gives}
use Rattle.dd_script_read.specs.Tree.{json_data, items_of, members_of, has_numbers, members_have_numbers, tree_data, one_value}
use Rattle.dd_script_read.specs.declared.fault.ScriptFault.{ScriptFault}
use Rattle.dd_script_read.specs.Pieces.{NextStep, HasSteps, Member, with_steps, HasHead, stepless, HasStepless, in_place}
use Rattle.dd_script_read.proofs.Readings.{is_json}

-- ---- the list of steps

-- the step of a tree that was read
pub step_is_next : (old new : List Token) (v : Value Global) (r : Result Step ScriptFault)
    → json.value 125 old ≡ Some (value_view v, new) → true ≡ has_numbers (value_view v)
    → Gives (λ s. s) r (step_of (tree_data v)) → IfOk r (λ s. NextStep old s new)
unfolding tree_data
step_is_next old new v (Ok s) read fit gives =
    record { tree = value_view v; read = read; numbers = sym fit; step = gives }
step_is_next old new v (Err e) read fit gives = tt

-- what a turn of the list gives
one_step_more : (n : ℕ) (old mid new : List Token) (s : Step) (ss : List Step) → 0 < n → json.after_end_array old ≡ None
    → NextStep old s mid → HasSteps (n - 1) mid ss new → HasSteps n old (s ∷ ss) new
one_step_more n old mid new s ss some going one rest =
    record {
      trees = json.item one.tree rest.trees;
      read = items_more (json.value 125) n old mid one.tree some going one.read
          ∙ ap (json.parse_map (json.item one.tree)) rest.read;
      numbers = rw (one.numbers, rest.numbers) refl;
      steps = rw (one.step, rest.steps) refl;
    }

no_step_more : (n : ℕ) (old new : List Token) → length old ≤ n → json.after_end_array old ≡ Some new
    → HasSteps n old [] new
no_step_more n old new enough end =
    record {
      trees = json.no_items;
      read = items_end (json.value 125) n old new enough end;
      numbers = refl;
      steps = refl;
    }

-- what is read further of a list, of which some steps were read
pub record StepsAhead (first : List Token) (front : List Step) (now : List Token) : Type 0 where
  pub turns : ℕ
  pub enough : length now ≤ turns
  pub onward : (ss : List Step) (r : List Token) → HasSteps turns now ss r
      → HasSteps (length first) first (front ++ ss) r

pub no_step_yet : (first : List Token) (front : List Step) → front ≡ [] → StepsAhead first front first
no_step_yet first front none =
    record {
      turns = length first;
      enough = omega arith;
      onward = λ ss r h. rw none h;
    }

pub step_read : (first now next : List Token) (front more : List Step) (s : Step) → json.after_end_array now ≡ None
    → NextStep now s next → length next < length now → more ≡ front ++ s ∷ []
    → StepsAhead first front now → StepsAhead first more next
step_read first now next front more s going one shorter pushed before =
    record {
      turns = before.turns - 1;
      enough = omega (arith, before.enough);
      onward = λ ss r h.
          let whole = before.onward (s ∷ ss) r
          (one_step_more before.turns now next r s ss (omega (arith, before.enough)) going one h) in
          rw (pushed, append_assoc) whole;
    }

pub all_steps : (first now r : List Token) (front : List Step) → json.after_end_array now ≡ Some r
    → StepsAhead first front now → HasSteps (length first) first front r
all_steps first now r front end before =
    let whole = before.onward [] r (no_step_more before.turns now r before.enough end) in
    subst (λ ss. HasSteps (length first) first ss r) (append-nil front) whole

-- ---- the members before the steps

steps_last : (head : List Member) (j : json.Json)
    → members_before head (json.member (codes "steps") j json.no_members) ≡ with_steps head j
steps_last [] j = refl
steps_last (m ∷ ms) j = ap (json.member m.0.now (value_view m.1)) (steps_last ms j)

-- what is read further of an object, of which some members were read
pub record MembersAhead (first : List Token) (head : List Member) (now : List Token) : Type 0 where
  pub turns : ℕ
  pub enough : length now ≤ turns
  pub onward : json.members (json.value 126) (length first) first
      ≡ json.parse_map (members_before head) (json.members (json.value 126) turns now)

pub no_member_yet : (first : List Token) (head : List Member) → head ≡ [] → MembersAhead first head first
no_member_yet first head none =
    record {
      turns = length first;
      enough = omega arith;
      onward = rw none (none_before (json.members (json.value 126) (length first) first));
    }

pub member_read : (first now mid next : List Token) (head more : List Member) (k : Bor (List ℕ)) (v : Value Global)
    → json.read_key now ≡ Some (Some k.now, mid) → json.value 126 mid ≡ Some (value_view v, next)
    → length next < length mid → more ≡ head ++ (k, v) ∷ []
    → MembersAhead first head now → MembersAhead first more next
member_read first now mid next head more k v key read shorter pushed before =
    let p = json.value 126 in
    let n = before.turns in
    let less = read_key-shorter now (Some k.now) mid key in
    let turn = members_more p n k.now now mid next (value_view v) (omega (arith, before.enough)) key read in
    record {
      turns = n - 1;
      enough = omega (arith, before.enough, less);
      onward = before.onward ∙ ap (json.parse_map (members_before head)) turn
          ∙ one_more_member head (k, v) (json.members p (n - 1) next)
          ∙ ap (λ ms. json.parse_map (members_before ms) (json.members p (n - 1) next)) (sym pushed);
    }

pub head_read : (first now next : List Token) (head : List Member) (k : List ℕ)
    → bytes_eq k (codes "steps") ≡ true → json.read_key now ≡ Some (Some k, next) → MembersAhead first head now
    → HasHead first head next
head_read first now next head k named key before j rest after read end =
    let p = json.value 126 in
    let n = before.turns in
    let less = read_key-shorter now (Some k) next key in
    let lesser = skip_value-shorter 126 next rest (ap left read) in
    let turn = members_more p n k now next rest j (omega (arith, before.enough)) key read in
    let last = members_end p (n - 1) rest after (omega (arith, before.enough, less, lesser)) end in
    before.onward ∙ ap (json.parse_map (members_before head)) (turn ∙ ap (json.parse_map (json.member k j)) last)
    ∙ ap (λ name. Some (members_before head (json.member name j json.no_members), after))
    ((bytes_eq-Decides k (codes "steps")).0 named)
    ∙ ap (λ ms. Some (ms, after)) (steps_last head j)

-- ---- the object without steps

with_steps_pushed : (head : List Member) (k : Bor (List ℕ)) (v : Value Global)
    → k.now ≡ codes "steps" → seen.members_view (head ++ (k, v) ∷ []) ≡ with_steps head (value_view v)
with_steps_pushed [] k v named = ap (λ name. json.member name (value_view v) json.no_members) named
with_steps_pushed (m ∷ ms) k v named = ap (json.member m.0.now (value_view m.1)) (with_steps_pushed ms k v named)

-- the tree of the members behind which the list of no steps was put
stepless_tree : (head : List Member) (k : Bor (List ℕ)) (none : Vec (Value Global) Global) (all : Vec Member Global)
    → k.now ≡ codes "steps" → none.items ≡ [] → all.items ≡ head ++ (k, Array none) ∷ []
    → value_view (Object all) ≡ stepless head
stepless_tree head k none all named empty pushed =
    view-Object all ∙ ap (λ ms. json.object (seen.members_view ms)) pushed
    ∙ ap json.object (with_steps_pushed head k (Array none) named)
    ∙ ap (λ j. json.object (with_steps head j)) (view-Array none ∙ ap (λ vs. json.array (seen.items_view vs)) empty)

-- the parts of that tree
pub stepless_read : (head : List Member) (k : Bor (List ℕ)) (none : Vec (Value Global) Global) (all : Vec Member Global)
    (r : Result Script ScriptFault) → k.now ≡ codes "steps" → none.items ≡ []
    → all.items ≡ head ++ (k, Array none) ∷ [] → true ≡ has_numbers (value_view (Object all))
    → Gives (λ s. s) r (parts_of (tree_data (Object all))) → IfOk r (λ s. HasStepless head s)
unfolding tree_data
stepless_read head k none all (Ok s) named empty pushed fit gives =
    let tree = stepless_tree head k none all named empty pushed in
    record {
      numbers = ap has_numbers (sym tree) ∙ sym fit;
      parts = ap (λ j. parts_of (json_data j)) (sym tree) ∙ gives;
    }
stepless_read head k none all (Err e) named empty pushed fit gives = tt

-- ---- the script

-- the numbers of the members and those of the steps
numbers_with : (head : List Member) (j : json.Json) → has_numbers j ≡ true
    → members_have_numbers (with_steps head (json.array json.no_items)) ≡ members_have_numbers (with_steps head j)
numbers_with [] j fit = ap (λ b. b && true) (sym fit)
numbers_with (m ∷ ms) j fit = ap (λ b. has_numbers (value_view m.1) && b) (numbers_with ms j fit)

-- the steps are put after the other members
put_last : (head : List Member) (j : json.Json) (found : Members)
    → members_of (with_steps head j) found
    ≡ put (codes "steps") (json_data j) (members_of (seen.members_view head) found)
put_last [] j found = refl
put_last (m ∷ ms) j found = put_last ms j (put m.0.now (json_data (value_view m.1)) found)

-- how many keys there are doesn't depend on what is put at one
same_count_at : (o : Ordering) (k l : List ℕ) (d e f : Data) (ms : Members)
    → member_count (put k d ms) ≡ member_count (put k e ms)
    → member_count (match_ordering o (member k d (member l f ms)) (member l d ms) (member l f (put k d ms)))
    ≡ member_count (match_ordering o (member k e (member l f ms)) (member l e ms) (member l f (put k e ms)))
same_count_at Less k l d e f ms h = refl
same_count_at Equal k l d e f ms h = refl
same_count_at Greater k l d e f ms h = ap suc h

same_count : (k : List ℕ) (d e : Data) (ms : Members) → member_count (put k d ms) ≡ member_count (put k e ms)
same_count k d e no_members = refl
same_count k d e (member l f ms) = same_count_at (slice_cmp nat_cmp k l) k l d e f ms (same_count k d e ms)

-- the parts of an object of a known number of keys, where its steps are read
abbrev parts_from : Bool → Option (List Mode) → Option ℕ → Option (List ℕ) → Option (List ℕ) → Option (List Step)
    → Option Script
parts_from b m c p k ss = cond b (do
  modes ← m
  capacity ← c
  privileged ← p
  clients ← k
  steps ← ss
  Some (record {
    spec = record { modes = modes; capacity = capacity; privileged = privileged };
    clients = clients;
    steps = steps;
  })) None

from_steps : (b : Bool) (m : Option (List Mode)) (c : Option ℕ) (p k : Option (List ℕ)) (ss : List Step)
    → parts_from b m c p k (Some ss) ≡ option_map (in_place ss) (parts_from b m c p k (Some []))
from_steps false m c p k ss = refl
from_steps true None c p k ss = refl
from_steps true (Some m) None p k ss = refl
from_steps true (Some m) (Some c) None k ss = refl
from_steps true (Some m) (Some c) (Some p) None ss = refl
from_steps true (Some m) (Some c) (Some p) (Some k) ss = refl

-- texts that a test tells apart
apart : (a b : List ℕ) → bytes_eq a b ≡ false → a ≡ b → ⊥
apart a b differ same = false≢true (sym differ ∙ (bytes_eq-Decides a b).1 same)

-- the parts of an object with the steps put last
parts_with : (ms : Members) (d : Data) → parts_of (object (put (codes "steps") d ms))
    ≡ parts_from (member_count (put (codes "steps") (array no_items) ms) == 5)
    (get_member (codes "modes") ms >>= modes_of) (get_member (codes "capacity") ms >>= u32_of)
    (get_member (codes "privileged") ms >>= apps_of) (get_member (codes "clients") ms >>= apps_of) (steps_of d)
unfolding parts_of
parts_with ms d =
    let k = codes "steps" in
    rw (
      same_count k d (array no_items) ms,
      get_member-put k d ms,
      get_member-put_other (codes "modes") k d ms (apart (codes "modes") k refl),
      get_member-put_other (codes "capacity") k d ms (apart (codes "capacity") k refl),
      get_member-put_other (codes "privileged") k d ms (apart (codes "privileged") k refl),
      get_member-put_other (codes "clients") k d ms (apart (codes "clients") k refl),
    ) refl

-- other steps in the place of none
steps_placed : (ms : Members) (ds : Items) (ss : List Step) → each step_of (listed ds) ≡ Some ss
    → parts_of (object (put (codes "steps") (array ds) ms))
    ≡ option_map (in_place ss) (parts_of (object (put (codes "steps") (array no_items) ms)))
unfolding steps_of
steps_placed ms ds ss read =
    let b = member_count (put (codes "steps") (array no_items) ms) == 5 in
    let m = get_member (codes "modes") ms >>= modes_of in
    let c = get_member (codes "capacity") ms >>= u32_of in
    let p = get_member (codes "privileged") ms >>= apps_of in
    let k = get_member (codes "clients") ms >>= apps_of in
    parts_with ms (array ds) ∙ ap (parts_from b m c p k) read ∙ from_steps b m c p k ss
    ∙ ap (option_map (in_place ss)) (sym (parts_with ms (array no_items)))

-- the script of the whole object
whole_script : (head : List Member) (js : json.Items) (ss : List Step) (rest s : Script) → HasStepless head rest
    → s ≡ in_place ss rest → keeps_limits s ≡ true → each step_of (listed (items_of js)) ≡ Some ss
    → script_of (json_data (json.object (with_steps head (json.array js)))) ≡ Some s
unfolding script_of
whole_script head js ss rest s h whole limits read =
    let found = members_of (seen.members_view head) no_members in
    let without : parts_of (object (put (codes "steps") (array no_items) found)) ≡ Some rest =
    ap (λ ms. parts_of (object ms)) (sym (put_last head (json.array json.no_items) no_members)) ∙ h.parts in
    let parts : parts_of (json_data (json.object (with_steps head (json.array js)))) ≡ Some s =
    ap (λ ms. parts_of (object ms)) (put_last head (json.array js) no_members)
    ∙ steps_placed found (items_of js) ss read ∙ ap (option_map (in_place ss)) without ∙ ap Some (sym whole) in
    rw (parts, limits) refl

-- the tree of the whole text
whole_tree : (text : List ℕ) (first after_key items r : List Token) (head : List Member) (js : json.Items)
    → tokens text ≡ begin_object ∷ first → HasHead first head after_key → after_key ≡ begin_array ∷ items
    → json.items (json.value 125) (length items) items ≡ Some (js, r) → r ≡ end_object ∷ []
    → one_value text ≡ Some (json.object (with_steps head (json.array js)))
whole_tree text first after_key items r head js opened before list read end =
    let listed : json.value 126 after_key ≡ Some (json.array js, r) =
    ap (json.value 126) list ∙ value-begin_array 126 items (omega arith) ∙ ap (json.parse_map json.array) read in
    let members = before (json.array js) r [] listed (ap json.read_key end) in
    let tree : json.value 127 (tokens text) ≡ Some (json.object (with_steps head (json.array js)), []) =
    ap (json.value 127) opened ∙ value-begin_object 127 first (omega arith)
    ∙ ap (json.parse_map json.object) members in
    ap (option_and_then (λ p. json.if_last p.0 p.1)) tree

-- what the pieces of a text are, is the script of its tree
pub pieces_are_script : (text : List ℕ) (first after_key items r : List Token) (head : List Member) (ss : List Step)
    (rest : Script) (script : Result Script ScriptFault) → IsUtf8 text → tokens text ≡ begin_object ∷ first
    → HasHead first head after_key → HasStepless head rest → after_key ≡ begin_array ∷ items
    → HasSteps (length items) items ss r → r ≡ end_object ∷ [] → IfOk script (λ s. s ≡ in_place ss rest)
    → IfOk script (λ s. keeps_limits s ≡ true) → IfOk script (λ s. IsScript text s)
pieces_are_script text first after_key items r head ss rest (Ok s) utf8 opened before parts list steps end e fits =
    let js = steps.trees in
    let j : json.Json = json.object (with_steps head (json.array js)) in
    let tree = whole_tree text first after_key items r head js opened before list steps.read end in
    let numbers : has_numbers j ≡ true =
    sym (numbers_with head (json.array js) steps.numbers) ∙ parts.numbers in (
      json_data j,
      is_json text text j refl utf8 tree (sym numbers),
      whole_script head js ss rest s parts e fits steps.steps,
    )
pieces_are_script text first after_key items r head ss rest (Err f) utf8 opened before parts list steps end e fits = tt
