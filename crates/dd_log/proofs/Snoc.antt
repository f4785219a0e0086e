-- Lists from their end: induction, and what stands from a place on where one element more is added.
use Rattle.std.proofs.Common.{◌≡◌, ℕ, ◌+◌, ◌<◌, ◌≤◌, Bool, true, false, ◌||◌, List, [], ◌∷◌, ◌++◌, length, take, drop, nat_lt, sym, ap, subst, ◌∙◌, refl, append_assoc, append-nil, arith}
use Rattle.std.specs.List.{list_any}
use Rattle.std.proofs.lemmas.Bool.{cases_lt, lt-ltb, le-ltb, or_right}
use Rattle.std.proofs.lemmas.List.{take-append-drop, drop-append-le, length_push}
use Rattle.std.proofs.lemmas.List.Folds.{list_any-append}
use Rattle.std.proofs.Math.Bool.{or-false}
use Rattle.std.proofs.Math.ListN.{drop_of_length-le}
use Rattle.std.proofs.Math.Logic.{⊎_elim}
use Rattle.dd_log.specs.Desk.{place_after}

snoc_from : {A : Type 0} (P : List A → Type 0) → ((xs : List A) (x : A) → P xs → P (xs ++ x ∷ []))
    → (before after : List A) → P before → P (before ++ after)
snoc_from P more before [] p = subst P (sym (append-nil before)) p
snoc_from P more before (x ∷ after) p =
    subst P (append_assoc before (x ∷ []) after) (snoc_from P more (before ++ x ∷ []) after (more before x p))

-- what holds of the empty list, and goes on with one element more, holds of each list
pub by_snoc : {A : Type 0} (P : List A → Type 0) → P [] → ((xs : List A) (x : A) → P xs → P (xs ++ x ∷ []))
    → (xs : List A) → P xs
by_snoc P none more xs = snoc_from P more [] xs none

-- past the end nothing stands, and all stands before
pub take-past : {A : Type 0} (n : ℕ) (xs : List A) → length xs ≤ n → take n xs ≡ xs
take-past n xs past =
    sym (append-nil (take n xs)) ∙ ap (λ ys. take n xs ++ ys) (sym (drop_of_length-le xs past))
    ∙ take-append-drop n xs

pub none_past : {A : Type 0} (p : A → Bool) (n : ℕ) (xs : List A) → length xs ≤ n → list_any p (drop n xs) ≡ false
none_past p n xs past = ap (list_any p) (drop_of_length-le xs past)

-- one element more, from a place on
pub any_push : {A : Type 0} (p : A → Bool) (xs : List A) (x : A) → list_any p (xs ++ x ∷ []) ≡ (list_any p xs || p x)
any_push p xs x = list_any-append p xs (x ∷ []) ∙ ap (λ b. list_any p xs || b) (or-false (p x))

pub any_drop_push : {A : Type 0} (p : A → Bool) (n : ℕ) (xs : List A) (x : A) → n ≤ length xs
    → list_any p (drop n (xs ++ x ∷ [])) ≡ (list_any p (drop n xs) || p x)
any_drop_push p n xs x within =
    ap (list_any p) (drop-append-le n xs (x ∷ []) within) ∙ any_push p (drop n xs) x

-- a place that follows the last element of a kind tells whether one stands from a place on
since_step : (b : Bool) (m n place : ℕ) (a more : Bool) → m ≤ n → nat_lt place m ≡ a
    → (place ≤ n → more ≡ (a || b)) → (n < place → more ≡ false) → nat_lt place (place_after b n m) ≡ more
since_step true m n place a more within is here past =
    ⊎_elim (λ (out : n < place). le-ltb place (n + 1) (omega arith) ∙ sym (past out))
    (λ (inside : place ≤ n). lt-ltb place (n + 1) (omega arith) ∙ sym (here inside ∙ or_right a true refl))
    (cases_lt n place)
since_step false m n place a more within is here past =
    ⊎_elim (λ (out : n < place). le-ltb place m (omega arith) ∙ sym (past out))
    (λ (inside : place ≤ n). is ∙ sym (here inside ∙ or-false a))
    (cases_lt n place)

within_step : (b : Bool) (m n : ℕ) → m ≤ n → place_after b n m ≤ n + 1
within_step true m n within = omega arith
within_step false m n within = omega arith

-- a function of lists that is such a place
pub record Marks {A : Type 0} (p : A → Bool) (mark : List A → ℕ) : Type 0 where
  pub none : mark [] ≡ 0
  pub more : (xs : List A) (x : A) → mark (xs ++ x ∷ []) ≡ place_after (p x) (length xs) (mark xs)

pub record Tells {A : Type 0} (p : A → Bool) (mark : List A → ℕ) (xs : List A) : Type 0 where
  pub within : mark xs ≤ length xs
  pub since : (place : ℕ) → nat_lt place (mark xs) ≡ list_any p (drop place xs)

tells_none : {A : Type 0} (p : A → Bool) (mark : List A → ℕ) → mark [] ≡ 0 → Tells p mark []
tells_none p mark none =
    record {
      within = omega (arith, none);
      since = λ place. ap (nat_lt place) none ∙ le-ltb place 0 (omega arith) ∙ sym (none_past p place [] (omega arith));
    }

tells_more : {A : Type 0} (p : A → Bool) (mark : List A → ℕ) (m : Marks p mark) (xs : List A) (x : A)
    → Tells p mark xs → Tells p mark (xs ++ x ∷ [])
tells_more p mark m xs x t =
    let more = m.more xs x in
    let long = length_push xs x in
    record {
      within = let k = within_step (p x) (mark xs) (length xs) t.within in omega (arith, more, long);
      since = λ place. ap (nat_lt place) more
          ∙ since_step (p x) (mark xs) (length xs) place (list_any p (drop place xs))
          (list_any p (drop place (xs ++ x ∷ []))) t.within (t.since place) (any_drop_push p place xs x)
          (λ (out : length xs < place). none_past p place (xs ++ x ∷ []) (omega (arith, long)));
    }

pub tells : {A : Type 0} (p : A → Bool) (mark : List A → ℕ) → Marks p mark → (xs : List A) → Tells p mark xs
tells p mark m xs = by_snoc (Tells p mark) (tells_none p mark m.none) (tells_more p mark m) xs
