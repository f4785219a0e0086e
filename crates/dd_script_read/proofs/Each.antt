-- Reading the items of a list one after the other, as a loop does.
use Rattle.std.proofs.Common.{◌≡◌, ℕ, ◌+◌, ◌<◌, ◌≤◌, List, [], ◌∷◌, ◌++◌, length, map, get_or, drop, Option, Some, None, option_map, refl, sym, ap, ◌∙◌, append_assoc, add-one, drop-cons}
use Rattle.std.proofs.lemmas.List.{append-nil, drop_all}
use Rattle.serde_json.specs.Data.{Data}
use Rattle.std.specs.declared.alloc.Global.{Global}
use Rattle.json.specs.declared.value.Value.{Value}
use Rattle.dd_script_read.specs.Script.{◌>>=◌, each}
use Rattle.dd_script_read.specs.Tree.{tree_data}

module _ {A : Type 0} where
  -- what was read before, and what is still read
  abbrev pub with_front : List A → Option (List A) → Option (List A)
  with_front front rest = option_map (λ xs. front ++ xs) rest

  -- what is read of the values from i on
  abbrev pub left : (Data → Option A) → List (Value Global) → ℕ → Option (List A)
  left f vs i = each f (map tree_data (drop i vs))

  one_more : (front : List A) (x : A) (rest : Option (List A))
      → with_front front (rest >>= λ xs. Some (x ∷ xs)) ≡ with_front (front ++ x ∷ []) rest
  one_more front x None = refl
  one_more front x (Some xs) = ap Some (simp append_assoc)

  module _ (f : Data → Option A) (vs : List (Value Global)) (front : List A) (i : ℕ) where
    -- one item that was read, and the rest
    abbrev then_rest : Option A → Option (List A)
    then_rest o = o >>= λ x. left f vs (i + 1) >>= λ xs. Some (x ∷ xs)

    next : (v : Value Global) → i < length vs → v ≡ get_or vs i v
        → left f vs i ≡ then_rest (f (tree_data v))
    next v lt at = rw (drop-cons vs i v, ← at, add-one)

    pub goes_on : (v : Value Global) (x : A) → i < length vs → v ≡ get_or vs i v → f (tree_data v) ≡ Some x
        → with_front front (left f vs i) ≡ each f (map tree_data vs)
        → with_front (front ++ x ∷ []) (left f vs (i + 1)) ≡ each f (map tree_data vs)
    goes_on v x lt at read so_far =
        let step : left f vs i ≡ then_rest (Some x) = next v lt at ∙ ap then_rest read in
        sym (one_more front x (left f vs (i + 1))) ∙ sym (ap (with_front front) step) ∙ so_far

    pub ends : (v : Value Global) → i < length vs → v ≡ get_or vs i v → f (tree_data v) ≡ None
        → with_front front (left f vs i) ≡ each f (map tree_data vs) → each f (map tree_data vs) ≡ None
    ends v lt at read so_far =
        let step : left f vs i ≡ None = next v lt at ∙ ap then_rest read in
        sym so_far ∙ ap (with_front front) step

    pub is_done : length vs ≤ i → with_front front (left f vs i) ≡ each f (map tree_data vs)
        → each f (map tree_data vs) ≡ Some front
    is_done le so_far =
        let nothing : drop i vs ≡ [] = drop_all i vs le in
        sym so_far ∙ ap (λ (ws : List (Value Global)). with_front front (each f (map tree_data ws))) nothing
        ∙ ap Some (append-nil front)

-- what a loop over the values needs
pub ruleset one_by_one = (goes_on, ends, is_done)
