-- How many trees a tree holds, itself among them: one more than its text has bytes, at most.
use Rattle.std.proofs.Common.{◌≡◌, ℕ, zero, suc, ◌+◌, ◌<◌, ◌≤◌, List, [], ◌∷◌, length, Option, Some, None, option_map, option_and_then, Ordering, Less, Equal, Greater, refl, subst, arith}
use Rattle.std.specs.Prelude.{⊤}
use Rattle.std.specs.Ordering.{match_ordering}
use Rattle.json.specs.Token as token
use Rattle.json.specs.Token.{Token}
use Rattle.json.specs.Lex.{tokens}
use Rattle.json.specs.Json as json
use Rattle.json.proofs.Grammar.{after_end_array-shorter, read_key-shorter}
use Rattle.serde_json.specs.Data.{Data, null, boolean, number, string, array, object, Items, no_items, item, Members, no_members, member, put}
use Rattle.serde_json.specs.Read.{number_of, of_json, of_items, of_members, max_depth, read}
use Rattle.dd_script_read.proofs.TokenCount.{tokens_of_text}

-- ---- from tokens to a value

-- how many values a value holds, itself among them
abbrev mutual
  weight : json.Json → ℕ
  weight json.null = 1
  weight (json.boolean b) = 1
  weight (json.number s) = 1
  weight (json.string s) = 1
  weight (json.array js) = suc (items_weight js)
  weight (json.object ms) = suc (members_weight ms)

  items_weight : json.Items → ℕ
  items_weight json.no_items = 0
  items_weight (json.item j js) = weight j + items_weight js

  members_weight : json.Members → ℕ
  members_weight json.no_members = 0
  members_weight (json.member k j ms) = weight j + members_weight ms

-- what is read, and the tokens behind it, are n at most
abbrev Fits : {A : Type 0} → (A → ℕ) → ℕ → Option (A × List Token) → Type 0
Fits f n None = ⊤
Fits f n (Some p) = f p.0 + length p.1 ≤ n

abbrev Within : {A : Type 0} → (A → ℕ) → json.Parse A → Type 0
Within f p = (ts : List Token) → Fits f (length ts) (p ts)

looser : {A : Type 0} (f : A → ℕ) (m n : ℕ) (o : Option (A × List Token)) → m ≤ n → Fits f m o → Fits f n o
looser f m n None le x = tt
looser f m n (Some p) le x = omega arith

mapped : {A B : Type 0} (f : A → ℕ) (g : B → ℕ) (m n : ℕ) (h : A → B)
    → ((a : A) (k : ℕ) → f a + k ≤ m → g (h a) + k ≤ n) → (o : Option (A × List Token)) → Fits f m o
    → Fits g n (json.parse_map h o)
mapped f g m n h k None x = tt
mapped f g m n h k (Some p) x = k p.0 (length p.1) x

and_more : {B : Type 0} (g : B → ℕ) (n : ℕ) (h : json.Json → B → B)
    → ((j : json.Json) (b : B) → g (h j b) ≡ weight j + g b) → (more : json.Parse B) → Within g more
    → (o : Option (json.Json × List Token)) → Fits weight n o
    → Fits g n (option_and_then (λ q. json.parse_map (h q.0) (more q.1)) o)
and_more g n h is more within None x = tt
and_more g n h is more within (Some q) x =
    mapped g g (length q.1) n (h q.0) (λ b k y. omega (arith, is q.0 b)) (more q.1) (within q.1)

module _ (p : json.Parse json.Json) (within : Within weight p) where
  item_turn : (more : json.Parse json.Items) → Within items_weight more → (ts : List Token) (o : Option (List Token))
      → json.after_end_array ts ≡ o → Fits items_weight (length ts) (json.items_step p more ts o)
  item_turn more again ts (Some r) e = omega (arith, after_end_array-shorter ts r e)
  item_turn more again ts None e =
      and_more items_weight (length ts) json.item (λ j b. refl) more again (p ts) (within ts)

  Within-items : (n : ℕ) → Within items_weight (json.items p n)
  unfolding json.items
  Within-items zero ts = tt
  Within-items (suc n) ts = item_turn (json.items p n) (Within-items n) ts (json.after_end_array ts) refl

  member_turn : (more : json.Parse json.Members) → Within members_weight more → (ts : List Token)
      (o : Option (Option (List ℕ) × List Token)) → json.read_key ts ≡ o
      → Fits members_weight (length ts) (option_and_then (λ q. json.members_step p more q.0 q.1) o)
  member_turn more again ts None e = tt
  member_turn more again ts (Some (None, s)) e = omega (arith, read_key-shorter ts None s e)
  member_turn more again ts (Some (Some k, s)) e =
      let shorter : length s < length ts = read_key-shorter ts (Some k) s e in
      and_more members_weight (length ts) (json.member k) (λ j b. refl) more again (p s)
      (looser weight (length s) (length ts) (p s) (omega arith) (within s))

  Within-members : (n : ℕ) → Within members_weight (json.members p n)
  unfolding json.members
  Within-members zero ts = tt
  Within-members (suc n) ts = member_turn (json.members p n) (Within-members n) ts (json.read_key ts) refl

one_level : (a : json.Parse json.Items) (o : json.Parse json.Members) → Within items_weight a → Within members_weight o
    → Within weight (json.value_with a o)
one_level a o p q [] = tt
one_level a o p q (token.begin_object ∷ ts) =
    mapped members_weight weight (length ts) (suc (length ts)) json.object (λ ms k x. omega arith) (o ts) (q ts)
one_level a o p q (token.end_object ∷ ts) = tt
one_level a o p q (token.begin_array ∷ ts) =
    mapped items_weight weight (length ts) (suc (length ts)) json.array (λ js k x. omega arith) (a ts) (p ts)
one_level a o p q (token.end_array ∷ ts) = tt
one_level a o p q (token.key s ∷ ts) = tt
one_level a o p q (token.string s ∷ ts) = omega arith
one_level a o p q (token.number s ∷ ts) = omega arith
one_level a o p q (token.boolean b ∷ ts) = omega arith
one_level a o p q (token.null ∷ ts) = omega arith
one_level a o p q (token.bad ∷ ts) = tt

Within-value : (depth : ℕ) → Within weight (json.value depth)
unfolding json.value
Within-value zero = one_level (λ ts. None) (λ ts. None) (λ ts. tt) (λ ts. tt)
Within-value (suc depth) =
    one_level (λ ts. json.items (json.value depth) (length ts) ts)
    (λ ts. json.members (json.value depth) (length ts) ts)
    (λ ts. Within-items (json.value depth) (Within-value depth) (length ts) ts)
    (λ ts. Within-members (json.value depth) (Within-value depth) (length ts) ts)

-- ---- from a value to its tree

-- how many trees a tree holds, itself among them
abbrev mutual
  pub size : Data → ℕ
  size null = 1
  size (boolean b) = 1
  size (number n) = 1
  size (string s) = 1
  size (array ds) = suc (items_size ds)
  size (object ms) = suc (members_size ms)

  pub items_size : Items → ℕ
  items_size no_items = 0
  items_size (item d ds) = size d + items_size ds

  pub members_size : Members → ℕ
  members_size no_members = 0
  members_size (member k d ms) = size d + members_size ms

abbrev AtMost : {A : Type 0} → (A → ℕ) → ℕ → Option A → Type 0
AtMost f n None = ⊤
AtMost f n (Some a) = f a ≤ n

AtMost-map : {A B : Type 0} (f : A → ℕ) (g : B → ℕ) (m n : ℕ) (h : A → B) → ((a : A) → f a ≤ m → g (h a) ≤ n)
    → (o : Option A) → AtMost f m o → AtMost g n (option_map h o)
AtMost-map f g m n h k None x = tt
AtMost-map f g m n h k (Some a) x = k a x

AtMost-and_then : {A B : Type 0} (f : A → ℕ) (g : B → ℕ) (m n : ℕ) (h : A → Option B)
    → ((a : A) → f a ≤ m → AtMost g n (h a)) → (o : Option A) → AtMost f m o → AtMost g n (option_and_then h o)
AtMost-and_then f g m n h k None x = tt
AtMost-and_then f g m n h k (Some a) x = k a x

flat : {A : Type 0} (o : Option A) → AtMost (λ _. 0) 0 o
flat None = tt
flat (Some a) = omega arith

ordered : (o : Ordering) (a b c : Members) (n : ℕ) → members_size a ≤ n → members_size b ≤ n → members_size c ≤ n
    → members_size (match_ordering o a b c) ≤ n
ordered Less a b c n p q r = p
ordered Equal a b c n p q r = q
ordered Greater a b c n p q r = r

-- a key that comes twice has its last value alone
put_adds : (k : List ℕ) (d : Data) (ms : Members) → members_size (put k d ms) ≤ size d + members_size ms
put_adds k d no_members = omega arith
put_adds k d (member l e ms) =
    let n = size d + members_size (member l e ms) in
    let rest = put_adds k d ms in
    ordered _ (member k d (member l e ms)) (member l d ms) (member l e (put k d ms)) n (omega arith) (omega arith)
    (omega arith)

mutual
  size-of_json : (j : json.Json) → AtMost size (weight j) (of_json j)
  size-of_json json.null = omega arith
  size-of_json (json.boolean b) = omega arith
  size-of_json (json.number s) =
      AtMost-map (λ _. 0) size 0 1 number (λ a x. omega arith) (number_of s) (flat (number_of s))
  size-of_json (json.string s) = omega arith
  size-of_json (json.array js) =
      AtMost-map items_size size (items_weight js) (suc (items_weight js)) array (λ a x. omega arith) (of_items js)
      (size-of_items js)
  size-of_json (json.object ms) =
      AtMost-map members_size size (members_weight ms) (suc (members_weight ms)) object (λ a x. omega arith)
      (of_members ms no_members) (size-of_members ms no_members (members_weight ms) (omega arith))

  size-of_items : (js : json.Items) → AtMost items_size (items_weight js) (of_items js)
  size-of_items json.no_items = omega arith
  size-of_items (json.item j js) =
      AtMost-and_then size items_size (weight j) (weight j + items_weight js) _ (λ d x.
      AtMost-map items_size items_size (items_weight js) (weight j + items_weight js) (item d) (λ ds y. omega arith)
      (of_items js) (size-of_items js)) (of_json j) (size-of_json j)

  size-of_members : (ms : json.Members) (found : Members) (n : ℕ) → members_weight ms + members_size found ≤ n
      → AtMost members_size n (of_members ms found)
  size-of_members json.no_members found n h = omega arith
  size-of_members (json.member name j ms) found n h =
      AtMost-and_then size members_size (weight j) n _ (λ d x.
      let more = put_adds name d found in
      size-of_members ms (put name d found) n (omega arith)) (of_json j) (size-of_json j)

last_fits : (n : ℕ) (o : Option (json.Json × List Token)) → Fits weight n o
    → AtMost weight n (option_and_then (λ p. json.if_last p.0 p.1) o)
last_fits n None h = tt
last_fits n (Some (j, [])) h = omega arith
last_fits n (Some (j, t ∷ ts)) h = tt

looser_size : (m n : ℕ) (o : Option Data) → m ≤ n → AtMost size m o → AtMost size n o
looser_size m n None le h = tt
looser_size m n (Some d) le h = omega arith

-- a text of n bytes has n + 1 trees at most
pub tree_of_text : (text : List ℕ) (d : Data) → read text ≡ Some d → size d ≤ suc (length text)
tree_of_text text d e =
    let few = tokens_of_text text in
    let whole = json.value max_depth (tokens text) in
    let fits = last_fits (length (tokens text)) whole (Within-value max_depth (tokens text)) in
    subst (AtMost size (suc (length text))) e
    (AtMost-and_then weight size (length (tokens text)) (suc (length text)) of_json (λ j x.
    looser_size (weight j) (suc (length text)) (of_json j) (omega (arith, few)) (size-of_json j)) _ fits)
