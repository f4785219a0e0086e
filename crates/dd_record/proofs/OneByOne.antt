-- Reading fields one after another, as a loop does.
use Rattle.std.proofs.Common.{◌≡◌, ℕ, suc, ◌+◌, ◌-◌, ◌*◌, ◌<◌, ◌≤◌, List, [], ◌∷◌, ◌++◌, refl, sym, ap, ◌∙◌, append_assoc, arith}
use Rattle.std.proofs.lemmas.List.{append-nil}
use Rattle.dd_record.specs.declared.fault.Stop.{Stop}
use Rattle.dd_record.specs.declared.fault.Stop.TheVariants as stops
use Rattle.dd_record.specs.Reading.{Reading, Good, Bad, Short, ◌>>=◌, fields}
use Rattle.dd_record.specs.Answers.{Stops}

module _ {A : Type 0} where
  -- what was read before, and what is still read
  abbrev pub with_front : List A → Reading (List A) → Reading (List A)
  with_front front rest = rest >>= λ xs. Good (front ++ xs)

  one_more : (front : List A) (x : A) (rest : Reading (List A))
      → with_front front (rest >>= λ xs. Good (x ∷ xs)) ≡ with_front (front ++ x ∷ []) rest
  one_more front x (Good xs) = ap Good (simp append_assoc)
  one_more front x (Bad at) = refl
  one_more front x Short = refl

  module _ (f : ℕ → Reading A) (size at n : ℕ) (front : List A) (i : ℕ) where
    -- what is read of the fields from number i on
    abbrev pub left : ℕ → Reading (List A)
    left k = fields f size (at + size * k) (n - k)

    abbrev then_rest : Reading A → Reading (List A)
    then_rest o = o >>= λ x. left (i + 1) >>= λ xs. Good (x ∷ xs)

    next : i < n → left i ≡ then_rest (f (at + size * i))
    next lt =
        let count : n - i ≡ suc (n - (i + 1)) = omega arith in
        let place : at + size * i + size ≡ at + size * (i + 1) = omega arith in
        ap (fields f size (at + size * i)) count
        ∙ ap (λ (a : ℕ). f (at + size * i) >>= λ x. fields f size a (n - (i + 1)) >>= λ xs. Good (x ∷ xs)) place

    pub goes_on : (x : A) → i < n → f (at + size * i) ≡ Good x
        → with_front front (left i) ≡ fields f size at n
        → with_front (front ++ x ∷ []) (left (i + 1)) ≡ fields f size at n
    goes_on x lt read so_far =
        let step : left i ≡ then_rest (Good x) = next lt ∙ ap then_rest read in
        sym (one_more front x (left (i + 1))) ∙ sym (ap (with_front front) step) ∙ so_far

    pub ends : (e : Stop) → i < n → Stops e (f (at + size * i))
        → with_front front (left i) ≡ fields f size at n → Stops e (fields f size at n)
    ends (stops.Bad place) lt read so_far =
        sym so_far ∙ ap (with_front front) (next lt ∙ ap then_rest read)
    ends stops.Short lt read so_far =
        sym so_far ∙ ap (with_front front) (next lt ∙ ap then_rest read)
    ends stops.OutOfMemory lt read so_far = tt

    pub is_done : n ≤ i → with_front front (left i) ≡ fields f size at n
        → fields f size at n ≡ Good front
    is_done le so_far =
        let nothing : n - i ≡ 0 = omega arith in
        sym so_far
        ∙ ap (λ (k : ℕ). with_front front (fields f size (at + size * i) k)) nothing
        ∙ ap Good (append-nil front)

-- what a loop over the fields needs
pub ruleset one_by_one = (goes_on, ends, is_done)
