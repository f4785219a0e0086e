-- What is found in a list, and what isn't: the tests that the causes are written with.
use Rattle.std.proofs.Common.{◌≡◌, ℕ, suc, ◌+◌, ◌<◌, ◌≤◌, Bool, true, false, ◌||◌, ◌&&◌, not, cond, nat_lt, List, [], ◌∷◌, length, Option, Some, None, refl, sym, ap, ◌∙◌, ⊎_elim, arith}
use Rattle.std.specs.Prelude.{nat_le, is_none, is_some, position}
use Rattle.std.specs.List.{list_any, list_all, position_or_len}
use Rattle.std.proofs.lemmas.Bool.{lt-ltb, le-ltb, lt-leb, le-leb, cases_lt}

-- less, or else at least
pub less-not : (a b : ℕ) → nat_lt a b ≡ not (nat_le b a)
less-not a b = ⊎_elim
    (λ (less : a < b). lt-ltb a b less ∙ sym (ap not (lt-leb b a less)))
    (λ (more : b ≤ a). le-ltb a b more ∙ sym (ap not (le-leb b a more)))
    (cases_lt a b)

one_more : (a b : ℕ) → nat_lt a b ≡ nat_lt (1 + a) (suc b)
one_more a b = ⊎_elim
    (λ (less : a < b). lt-ltb a b less ∙ sym (lt-ltb (1 + a) (suc b) (omega (arith, less))))
    (λ (more : b ≤ a). le-ltb a b more ∙ sym (le-ltb (1 + a) (suc b) (omega (arith, more))))
    (cases_lt a b)

-- a place is found exactly where an element passes
place_within : (b rest : Bool) (n l : ℕ) → rest ≡ nat_lt n l → (b || rest) ≡ nat_lt (cond (not b) (1 + n) 0) (suc l)
place_within true rest n l e = sym (lt-ltb 0 (suc l) (omega arith))
place_within false rest n l e = e ∙ one_more n l

any_within : {A : Type 0} (p : A → Bool) (xs : List A) → list_any p xs ≡ nat_lt (position_or_len p xs) (length xs)
any_within p [] = refl
any_within p (x ∷ xs) = place_within (p x) (list_any p xs) (position_or_len p xs) (length xs) (any_within p xs)

found-some : (b : Bool) (n : ℕ) → is_some (cond b (Some n) None) ≡ b
found-some true n = refl
found-some false n = refl

pub any-found : {A : Type 0} (p : A → Bool) (xs : List A) → is_some (position p xs) ≡ list_any p xs
any-found p xs =
    found-some (nat_lt (position_or_len p xs) (length xs)) (position_or_len p xs) ∙ sym (any_within p xs)

-- each is there where none is wanting
all_there : {A : Type 0} (o : Option A) (rest all : Bool) → not rest ≡ all
    → not (is_none o || rest) ≡ (is_some o && all)
all_there None rest all e = refl
all_there (Some x) rest all e = e

all-some : {A : Type 0} (xs : List (Option A)) → not (list_any is_none xs) ≡ list_all is_some xs
all-some [] = refl
all-some (x ∷ xs) = all_there x (list_any is_none xs) (list_all is_some xs) (all-some xs)

none-not : {A : Type 0} (o : Option A) → is_none o ≡ not (is_some o)
none-not None = refl
none-not (Some x) = refl

pub none-free : {A : Type 0} (xs : List (Option A)) → is_none (position is_none xs) ≡ list_all is_some xs
none-free xs = none-not (position is_none xs) ∙ ap not (any-found is_none xs) ∙ all-some xs
