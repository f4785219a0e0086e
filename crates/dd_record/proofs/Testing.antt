-- Testing fields one after another, of which the first ones were tested before.
use Rattle.std.proofs.Common.{◌≡◌, ℕ, zero, suc, ◌+◌, ◌*◌, ◌<◌, ◌≤◌, [], ◌∷◌, refl, sym, ap, subst, arith}
use Rattle.std.proofs.Math.Nat.{mul-suc}
use Rattle.dd_record.specs.declared.fault.Stop.{Stop}
use Rattle.dd_record.specs.declared.fault.Stop.TheVariants as stops
use Rattle.dd_record.specs.Reading.{Reading, Good, Bad, Short, ◌>>=◌, NothingBad, Stays, fields}
use Rattle.dd_record.specs.Answers.{Stops, IsGood}

module _ {A B : Type 0} where
  -- where nothing of the whole is bad, nothing of its first part is
  pub first_not_bad : (r : Reading A) (f : A → Reading B) → NothingBad (r >>= f) → NothingBad r
  first_not_bad (Good x) f given = tt
  first_not_bad (Bad at) f given = given
  first_not_bad Short f given = tt

  -- what stops a part stops the whole
  pub stops_all : (e : Stop) (r : Reading A) (f : A → Reading B) → Stops e r → Stops e (r >>= f)
  stops_all (stops.Bad at) r f is = ap (λ r. r >>= f) is
  stops_all stops.Short r f is = ap (λ r. r >>= f) is
  stops_all stops.OutOfMemory r f is = tt

  pub kept_good : (r : Reading A) (f : A → B) → IsGood r → IsGood (r >>= λ x. Good (f x))
  kept_good (Good x) f good = tt
  kept_good (Bad at) f good = elim good [ ]
  kept_good Short f good = elim good [ ]

  -- what was read before
  pub good_parts : (r : Reading A) (f : A → Reading B) → IsGood (r >>= f)
      → (x : A) × (r ≡ Good x) × IsGood (f x)
  good_parts (Good x) f good = (x, refl, good)
  good_parts (Bad at) f good = elim good [ ]
  good_parts Short f good = elim good [ ]

-- and so it does behind a part that was read
pub behind_good : {A B C : Type 0} (e : Stop) (r : Reading A) (s : Reading B) (f : A → B → Reading C) → IsGood r
    → Stops e s → Stops e (r >>= λ x. s >>= f x)
behind_good e (Good x) s f good is = stops_all e s (f x) is
behind_good e (Bad at) s f good is = elim good [ ]
behind_good e Short s f good is = elim good [ ]

module _ {A : Type 0} (f : ℕ → Reading A) (size : ℕ) where
  with_first : (at n : ℕ) (x : A) → f at ≡ Good x → IsGood (fields f size (at + size) n)
      → IsGood (fields f size at (suc n))
  with_first at n x is rest =
      subst (λ (r : Reading A). IsGood (r >>= λ x. fields f size (at + size) n >>= λ xs. Good (x ∷ xs))) (sym is)
      (kept_good (fields f size (at + size) n) (λ xs. x ∷ xs) rest)

  -- one more field
  pub one_more : (at i : ℕ) (x : A) → IsGood (fields f size at i) → f (at + size * i) ≡ Good x
      → IsGood (fields f size at (i + 1))
  one_more at zero x so_far is =
      let here : f at ≡ Good x = subst (λ (a : ℕ). f a ≡ Good x) (omega arith) is in
      subst (λ (r : Reading A). IsGood (r >>= λ x. Good (x ∷ []))) (sym here) tt
  one_more at (suc i) x so_far is =
      let a = good_parts (f at) (λ x. fields f size (at + size) i >>= λ xs. Good (x ∷ xs)) so_far in
      let b = good_parts (fields f size (at + size) i) (λ xs. Good (a.0 ∷ xs)) a.2 in
      let there : f (at + size + size * i) ≡ Good x =
      subst (λ (k : ℕ). f k ≡ Good x) (omega (arith, mul-suc size i)) is in
      let rest = one_more (at + size) i x (subst IsGood (sym b.1) tt) there in
      let more : suc (i + 1) ≡ suc i + 1 = omega arith in
      subst (λ (k : ℕ). IsGood (fields f size at k)) more (with_first at (i + 1) a.0 a.1 rest)

  -- a field that stops behind those so far stops all
  pub stops_there : (e : Stop) (at n i : ℕ) → i < n → IsGood (fields f size at i) → Stops e (f (at + size * i))
      → Stops e (fields f size at n)
  stops_there e at zero i lt so_far is = elim (absurd lt) [ ] where
    absurd : i < 0 → ⊥
    absurd lt = omega (arith, lt)
  stops_there e at (suc n) zero lt so_far is =
      let here : Stops e (f at) = subst (λ (a : ℕ). Stops e (f a)) (omega arith) is in
      stops_all e (f at) _ here
  stops_there e at (suc n) (suc i) lt so_far is =
      let a = good_parts (f at) (λ x. fields f size (at + size) i >>= λ xs. Good (x ∷ xs)) so_far in
      let b = good_parts (fields f size (at + size) i) (λ xs. Good (a.0 ∷ xs)) a.2 in
      let there : Stops e (f (at + size + size * i)) =
      subst (λ (k : ℕ). Stops e (f k)) (omega (arith, mul-suc size i)) is in
      let rest = stops_there e (at + size) n i (omega (arith, lt)) (subst IsGood (sym b.1) tt) there in
      subst (λ (r : Reading A). Stops e (r >>= λ x. fields f size (at + size) n >>= λ xs. Good (x ∷ xs))) (sym a.1)
      (stops_all e (fields f size (at + size) n) (λ xs. Good (a.0 ∷ xs)) rest)

  -- all fields are those so far
  pub all_good : (at n i : ℕ) → i ≤ n → n ≤ i → IsGood (fields f size at i) → IsGood (fields f size at n)
  all_good at n i below above so_far =
      let same : i ≡ n = omega (arith, below, above) in
      subst (λ (k : ℕ). IsGood (fields f size at k)) same so_far

-- the first bytes are read by f, and all of them by g
module _ {A : Type 0} (f g : ℕ → Reading A) (size come : ℕ) (stays : (at : ℕ) → Stays (f at) (g at))
    (whole : (at : ℕ) → at + size ≤ come → f at ≡ Short → ⊥) where
  -- where none of the fields is bad, those that have come are good
  pub tested_before : (at n i : ℕ) → i ≤ n → at + size * i ≤ come → NothingBad (fields f size at n)
      → IsGood (fields g size at i)
  tested_before at n zero le within given = tt
  tested_before at zero (suc i) le within given = elim (none le) [ ] where
    none : suc i ≤ 0 → ⊥
    none le = omega (arith, le)
  tested_before at (suc n) (suc i) le within given =
      by_first (f at) refl given (tested_before (at + size) n i (omega (arith, le)) others) where
        first : at + size ≤ come
        first = omega (arith, within, mul-suc size i)

        others : at + size + size * i ≤ come
        others = omega (arith, within, mul-suc size i)

        by_first : (r : Reading A) → f at ≡ r
            → NothingBad (r >>= λ x. fields f size (at + size) n >>= λ xs. Good (x ∷ xs))
            → (NothingBad (fields f size (at + size) n) → IsGood (fields g size (at + size) i))
            → IsGood (fields g size at (suc i))
        by_first (Good x) is given rest =
            with_first g size at i x (subst (λ r. Stays r (g at)) is (stays at))
            (rest (first_not_bad (fields f size (at + size) n) (λ xs. Good (x ∷ xs)) given))
        by_first (Bad place) is given rest = elim given [ ]
        by_first Short is given rest = elim (whole at first is) [ ]
