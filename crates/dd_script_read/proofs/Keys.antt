-- Which keys stand among the members of a tree, and how many.
use Rattle.std.proofs.Common.{◌≡◌, ℕ, suc, ◌+◌, ◌<◌, ◌≤◌, List, [], ◌∷◌, ◌++◌, length, get_or, take, drop, Bool, true, false, ◌||◌, ◌==◌, cond, Some, None, is_some, reverse, Vec, Bor, Ordering, Less, Equal, Greater, nat_cmp, bytes_eq, refl, sym, ap, ◌∙◌, arith}
use Rattle.std.proofs.Math.Bool.{or_comm, or_assoc}
use Rattle.std.proofs.lemmas.Cmp.{nat_list_cmp_total}
use Rattle.std.proofs.lemmas.List.{reverse-append, take_all, take_more, take-append-drop}
use Rattle.std.proofs.lemmas.List.Folds.{list_any-append}
use Rattle.std.proofs.lemmas.Slice.Eq.{bytes_eq-Decides}
use Rattle.std.specs.Cmp.Lexicographic.{slice_cmp}
use Rattle.std.specs.List.{list_any}
use Rattle.std.specs.Ordering.{match_ordering, ordering_reverse}
use Rattle.std.specs.declared.alloc.Global.{Global}
use Rattle.json.specs.Value.{members_view}
use Rattle.json.specs.declared.value.Value.{Value, Object}
use Rattle.json.proofs.Trees.{view-Object}
use Rattle.serde_json.specs.Data.{Data, Members, no_members, member, put}
use Rattle.serde_json.specs.Find.{get_member}
use Rattle.serde_json.proofs.Views.{get_member-put, get_member-put_other}
use Rattle.dd_script_read.specs.Script.{has_keys, member_count}
use Rattle.dd_script_read.specs.Tree.{json_data, members_of, tree_data, gathered}

abbrev Member : Type 0
Member = Bor (List ℕ) × Value Global

-- ---- a key that stands among the members

-- the member's key is this one
abbrev pub has_name : List ℕ → Member → Bool
has_name key m = bytes_eq m.0.now key

true-or : (b : Bool) → (b || true) ≡ true
true-or true = refl
true-or false = refl

false-or : (b : Bool) → (b || false) ≡ b
false-or true = refl
false-or false = refl

-- what is put at a name is there, and the other names stand where they stood
is_some-put_at : (same : Bool) (key k : List ℕ) (d : Data) (ms : Members) → bytes_eq k key ≡ same
    → is_some (get_member key (put k d ms)) ≡ (is_some (get_member key ms) || same)
is_some-put_at true key k d ms e =
    rw (← (bytes_eq-Decides k key).0 e, get_member-put k d ms) (sym (true-or (is_some (get_member k ms))))
is_some-put_at false key k d ms e =
    rw (get_member-put_other key k d ms (λ same. cc (e, (bytes_eq-Decides k key).1 (sym same))))
    (sym (false-or (is_some (get_member key ms))))

-- a key is among all where it was found before, or a member has it
is_some-gathered : (key : List ℕ) (ms : List Member) (found : Members)
    → is_some (get_member key (gathered found ms)) ≡ (is_some (get_member key found) || list_any (has_name key) ms)
is_some-gathered key [] found = sym (false-or (is_some (get_member key found)))
is_some-gathered key (m ∷ ms) found =
    is_some-gathered key ms (put m.0.now (tree_data m.1) found)
    ∙ ap (λ b. b || list_any (has_name key) ms) (is_some-put_at _ key m.0.now (tree_data m.1) found refl)
    ∙ or_assoc (is_some (get_member key found)) (has_name key m) (list_any (has_name key) ms)

-- the order of the members doesn't matter to whether one passes a test
list_any-reverse : (p : Member → Bool) (ms : List Member) → list_any p (reverse ms) ≡ list_any p ms
list_any-reverse p [] = refl
list_any-reverse p (m ∷ ms) =
    ap (list_any p) (reverse-append (m ∷ []) ms)
    ∙ list_any-append p (reverse ms) (m ∷ [])
    ∙ ap (λ b. b || (p m || false)) (list_any-reverse p ms)
    ∙ or_comm (list_any p ms) (p m || false)
    ∙ ap (λ b. b || list_any p ms) (false-or (p m))

-- to look from the last one on answers whether the key is among all
pub named_from_last : (key : List ℕ) (ms : List Member)
    → list_any (has_name key) (reverse ms) ≡ is_some (get_member key (gathered no_members ms))
named_from_last key ms = list_any-reverse (has_name key) ms ∙ sym (is_some-gathered key ms no_members)

-- ---- the order of the keys

-- each key is above k
abbrev Above : List ℕ → Members → Type 0
Above k no_members = Unit {0}
Above k (member l d ms) = (slice_cmp nat_cmp k l ≡ Less) × Above k ms

-- each key is below those behind it
abbrev Ordered : Members → Type 0
Ordered no_members = Unit {0}
Ordered (member k d ms) = Above k ms × Ordered ms

-- keys above k are above those below k too
Above-lower : (j k : List ℕ) (ms : Members) → slice_cmp nat_cmp j k ≡ Less → Above k ms → Above j ms
Above-lower j k no_members below h = tt
Above-lower j k (member l d ms) below h = (nat_list_cmp_total.trans j k l below h.0, Above-lower j k ms below h.1)

Above-put_at : (o : Ordering) (j k l : List ℕ) (d e : Data) (ms : Members) → slice_cmp nat_cmp j k ≡ Less
    → Above j (member l e ms) → Above j (put k d ms)
    → Above j (match_ordering o (member k d (member l e ms)) (member l d ms) (member l e (put k d ms)))
Above-put_at Less j k l d e ms below h later = (below, h)
Above-put_at Equal j k l d e ms below h later = (h.0, h.1)
Above-put_at Greater j k l d e ms below h later = (h.0, later)

Above-put : (j k : List ℕ) (d : Data) (ms : Members) → slice_cmp nat_cmp j k ≡ Less → Above j ms
    → Above j (put k d ms)
Above-put j k d no_members below h = (below, tt)
Above-put j k d (member l e ms) below h =
    Above-put_at (slice_cmp nat_cmp k l) j k l d e ms below h (Above-put j k d ms below h.1)

Ordered-put_at : (o : Ordering) (k l : List ℕ) (d e : Data) (ms : Members) → slice_cmp nat_cmp k l ≡ o
    → Ordered (member l e ms) → Ordered (put k d ms)
    → Ordered (match_ordering o (member k d (member l e ms)) (member l d ms) (member l e (put k d ms)))
Ordered-put_at Less k l d e ms is h later = ((is, Above-lower k l ms is h.0), h)
Ordered-put_at Equal k l d e ms is h later = (h.0, h.1)
Ordered-put_at Greater k l d e ms is h later =
    (Above-put l k d ms (nat_list_cmp_total.antisymm l k ∙ ap ordering_reverse is) h.0, later)

Ordered-put : (k : List ℕ) (d : Data) (ms : Members) → Ordered ms → Ordered (put k d ms)
Ordered-put k d no_members h = (tt, tt)
Ordered-put k d (member l e ms) h =
    Ordered-put_at (slice_cmp nat_cmp k l) k l d e ms refl h (Ordered-put k d ms h.1)

Ordered-gathered : (ms : List Member) (found : Members) → Ordered found → Ordered (gathered found ms)
Ordered-gathered [] found h = h
Ordered-gathered (m ∷ ms) found h =
    Ordered-gathered ms (put m.0.now (tree_data m.1) found) (Ordered-put m.0.now (tree_data m.1) found h)

-- a key below all others isn't there
get_member-above : (k : List ℕ) (ms : Members) → Above k ms → get_member k ms ≡ None
get_member-above k no_members h = refl
get_member-above k (member l d ms) h = rw h.0 (get_member-above k ms h.1)

-- ---- how many keys

-- one more than n, if the key is new
abbrev pub counted : Bool → ℕ → ℕ
counted old n = cond old n (suc n)

suc-counted : (old : Bool) (n : ℕ) → suc (counted old n) ≡ counted old (suc n)
suc-counted true n = refl
suc-counted false n = refl

member_count-put_at : (o : Ordering) (k l : List ℕ) (d e : Data) (ms : Members) → slice_cmp nat_cmp k l ≡ o
    → Above l ms → member_count (put k d ms) ≡ counted (is_some (get_member k ms)) (member_count ms)
    → member_count (match_ordering o (member k d (member l e ms)) (member l d ms) (member l e (put k d ms)))
    ≡ counted (is_some (match_ordering o (get_member k ms) (Some e) (get_member k ms))) (suc (member_count ms))
member_count-put_at Less k l d e ms is h later = rw (get_member-above k ms (Above-lower k l ms is h)) refl
member_count-put_at Equal k l d e ms is h later = refl
member_count-put_at Greater k l d e ms is h later =
    ap suc later ∙ suc-counted (is_some (get_member k ms)) (member_count ms)

-- putting at a key that stands there keeps their number
member_count-put : (k : List ℕ) (d : Data) (ms : Members) → Ordered ms
    → member_count (put k d ms) ≡ counted (is_some (get_member k ms)) (member_count ms)
member_count-put k d no_members h = refl
member_count-put k d (member l e ms) h =
    member_count-put_at (slice_cmp nat_cmp k l) k l d e ms refl h.0 (member_count-put k d ms h.1)

gathered-append : (xs ys : List Member) (found : Members)
    → gathered found (xs ++ ys) ≡ gathered (gathered found xs) ys
gathered-append [] ys found = refl
gathered-append (m ∷ xs) ys found = gathered-append xs ys (put m.0.now (tree_data m.1) found)

-- the keys of the first i members
abbrev pub count_before : List Member → ℕ → ℕ
count_before ms i = member_count (gathered no_members (take i ms))

-- one member more counts, if its key is new
pub count_more : (ms : List Member) (i : ℕ) (m : Member) (old : Bool) → i < length ms
    → old ≡ is_some (get_member (get_or ms i m).0.now (gathered no_members (take i ms)))
    → count_before ms (i + 1) ≡ counted old (count_before ms i)
count_more ms i m old within is =
    let last : Member = get_or ms i m in
    ap (λ xs. member_count (gathered no_members xs)) (take_more ms i m within)
    ∙ ap member_count (gathered-append (take i ms) (last ∷ []) no_members)
    ∙ member_count-put last.0.now (tree_data last.1) (gathered no_members (take i ms))
    (Ordered-gathered (take i ms) no_members tt)
    ∙ ap (λ b. counted b (count_before ms i)) (sym is)

-- at the end all members are counted
pub count_all : (ms : List Member) (i : ℕ) → length ms ≤ i
    → count_before ms i ≡ member_count (gathered no_members ms)
count_all ms i over = ap (λ xs. member_count (gathered no_members xs)) (take_all i ms over)

member_count-grows_at : (o : Ordering) (k l : List ℕ) (d e : Data) (ms : Members)
    → member_count ms ≤ member_count (put k d ms)
    → suc (member_count ms)
    ≤ member_count (match_ordering o (member k d (member l e ms)) (member l d ms) (member l e (put k d ms)))
member_count-grows_at Less k l d e ms h = omega arith
member_count-grows_at Equal k l d e ms h = omega arith
member_count-grows_at Greater k l d e ms h = omega arith

-- no key is lost
member_count-grows : (k : List ℕ) (d : Data) (ms : Members) → member_count ms ≤ member_count (put k d ms)
member_count-grows k d no_members = omega arith
member_count-grows k d (member l e ms) =
    member_count-grows_at (slice_cmp nat_cmp k l) k l d e ms (member_count-grows k d ms)

gathered-grows : (ms : List Member) (found : Members) → member_count found ≤ member_count (gathered found ms)
gathered-grows [] found = omega arith
gathered-grows (m ∷ ms) found =
    omega (
      arith,
      member_count-grows m.0.now (tree_data m.1) found,
      gathered-grows ms (put m.0.now (tree_data m.1) found),
    )

-- all members have no fewer keys than the first ones
pub count_before-le : (ms : List Member) (i : ℕ) → count_before ms i ≤ member_count (gathered no_members ms)
count_before-le ms i =
    rw (ap (gathered no_members) (sym (take-append-drop i ms)), gathered-append (take i ms) (drop i ms) no_members)
    (gathered-grows (drop i ms) (gathered no_members (take i ms)))

-- the members that were put one by one are an object's as data
gathered_data : (ms : List Member) (found : Members) → gathered found ms ≡ members_of (members_view ms) found
unfolding tree_data
gathered_data [] found = refl
gathered_data (m ∷ ms) found = gathered_data ms (put m.0.now (tree_data m.1) found)

-- an object has the keys that its members have
pub object_keys : (n : ℕ) (ms : Vec Member Global)
    → has_keys n (tree_data (Object ms)) ≡ (member_count (gathered no_members ms.items) == n)
unfolding tree_data
object_keys n ms =
    ap (λ j. has_keys n (json_data j)) (view-Object ms)
    ∙ ap (λ ds. member_count ds == n) (sym (gathered_data ms.items no_members))
