-- What the place after the last entry of a kind tells: that entry's number, and the last shape.
use Rattle.std.proofs.Common.{◌≡◌, ℕ, zero, suc, ◌+◌, ◌-◌, ◌<◌, ◌≤◌, Bool, true, false, List, [], ◌∷◌, ◌++◌, length, drop, nat_lt, Option, Some, None, fold, sym, ap, ◌∙◌, refl, arith, if◌then◌else◌}
use Rattle.std.specs.Prelude.{slice_get, is_some}
use Rattle.std.specs.List.{list_any}
use Rattle.std.specs.Option.{option_or}
use Rattle.std.proofs.lemmas.Bool.{cases_lt, lt-ltb, le-ltb, ltb-true, or_parts}
use Rattle.std.proofs.lemmas.List.{drop_all, drop-append-le, length_push, length-drop}
use Rattle.std.proofs.lemmas.List.Sums.{fold_push}
use Rattle.std.proofs.Math.Logic.{⊎_elim}
use Rattle.dd_pointer.specs.Shape.{PointerShape}
use Rattle.dd_log.specs.Desk.{place_after}
use Rattle.dd_log.specs.declared.events.Entry.{Entry}
use Rattle.dd_log.specs.declared.events.Event.{Event}
use Rattle.dd_log.specs.Events.{number_from, shape_in, shape_at, has_shape, last_shape}
use Rattle.dd_log.proofs.Snoc.{by_snoc, Marks, tells}

abbrev nothing : (A : Type 0) → List A
nothing A = []

-- the number of one entry more
number-push : (is : Event → Bool) (xs : List Entry) (e : Entry) (last place n : ℕ) → n ≡ place + length xs
    → number_from is last place (xs ++ e ∷ []) ≡ (if is e.event then n + 1 else number_from is last place xs)
number-push is [] e last place n here =
    ap (λ k. if is e.event then k + 1 else last) (let k : place ≡ n = omega (arith, here) in k)
number-push is (x ∷ xs) e last place n here =
    number-push is xs e (if is x.event then place + 1 else last) (place + 1) n (omega (arith, here))

if_lt : (place m : ℕ) → m ≤ place → (if nat_lt place m then m else 0) ≡ 0
if_lt place m past = ap (λ (b : Bool). if b then m else 0) (le-ltb place m past)

number_step : (b : Bool) (m n place old : ℕ) → place ≤ n → (if nat_lt place m then m else 0) ≡ old
    → (if nat_lt place (place_after b n m) then place_after b n m else 0) ≡ (if b then n + 1 else old)
number_step true m n place old within so_far =
    ap (λ (b : Bool). if b then n + 1 else 0) (lt-ltb place (n + 1) (omega arith))
number_step false m n place old within so_far = so_far

pub number_tells : (is : Event → Bool) (mark : List Entry → ℕ) → Marks (λ (e : Entry). is e.event) mark
    → (es : List Entry) (place : ℕ)
    → (if nat_lt place (mark es) then mark es else 0) ≡ number_from is 0 place (drop place es)
number_tells is mark marks es place = by_snoc Told first more es where
  Told : List Entry → Type 0
  Told xs = (if nat_lt place (mark xs) then mark xs else 0) ≡ number_from is 0 place (drop place xs)

  first : Told []
  first =
      if_lt place (mark []) (omega (arith, marks.none))
      ∙ ap (number_from is 0 place) (sym (drop_all place (nothing Entry) (omega arith)))

  more : (xs : List Entry) (x : Entry) → Told xs → Told (xs ++ x ∷ [])
  more xs x so_far =
      ⊎_elim
      (λ (out : length xs < place).
      if_lt place (mark (xs ++ x ∷ []))
      (omega (arith, (tells _ mark marks (xs ++ x ∷ [])).within, length_push xs x))
      ∙ ap (number_from is 0 place) (sym (drop_all place (xs ++ x ∷ []) (omega (arith, length_push xs x)))))
      (λ (inside : place ≤ length xs).
      ap (λ m. if nat_lt place m then m else 0) (marks.more xs x)
      ∙ number_step (is x.event) (mark xs) (length xs) place (number_from is 0 place (drop place xs)) inside so_far
      ∙ sym (ap (number_from is 0 place) (drop-append-le place xs (x ∷ []) inside)
      ∙ number-push is (drop place xs) x 0 place (length xs) (omega (arith, length-drop place xs, inside))))
      (cases_lt (length xs) place)

shape-push : (xs : List Entry) (e : Entry)
    → last_shape (xs ++ e ∷ []) ≡ option_or (shape_in e.event) (last_shape xs)
shape-push xs e = fold_push (λ (shape : Option PointerShape) x. option_or (shape_in x.event) shape) None xs e

or_given : (given old : Option PointerShape) → is_some given ≡ true → option_or given old ≡ given
or_given None old t = cc
or_given (Some s) old t = refl

or_old : (given old : Option PointerShape) → is_some given ≡ false → option_or given old ≡ old
or_old None old t = refl
or_old (Some s) old t = cc

-- no entry gives one
pub no_shape : (es : List Entry) → list_any (λ (e : Entry). has_shape e.event) es ≡ false → last_shape es ≡ None
no_shape es none = from None es refl none where
  from : (old : Option PointerShape) (es : List Entry) → old ≡ None
      → list_any (λ (e : Entry). has_shape e.event) es ≡ false
      → fold (λ (shape : Option PointerShape) (x : Entry). option_or (shape_in x.event) shape) old es ≡ None
  from old [] is none = is
  from old (e ∷ es) is none =
      let both = or_parts (has_shape e.event) (list_any (λ (x : Entry). has_shape x.event) es) none in
      from (option_or (shape_in e.event) old) es (or_old (shape_in e.event) old both.0 ∙ is) both.1

get_last : (es : List Entry) (e : Entry) → slice_get (es ++ e ∷ []) (length es) ≡ Some e
get_last [] e = refl
get_last (x ∷ xs) e = get_last xs e

get_before : (es : List Entry) (e : Entry) (k : ℕ) → k < length es → slice_get (es ++ e ∷ []) k ≡ slice_get es k
get_before [] e k within = absurd (omega (arith, within))
get_before (x ∷ xs) e zero within = refl
get_before (x ∷ xs) e (suc k) within = get_before xs e k (omega (arith, within))

-- the place after the last entry that gives a shape leads to it
pub shape_tells : (mark : List Entry → ℕ) → Marks (λ (e : Entry). has_shape e.event) mark
    → (es : List Entry) (place : ℕ) → nat_lt place (mark es) ≡ true
    → last_shape (drop place es) ≡ shape_at (slice_get es (mark es - 1))
shape_tells mark marks es place = by_snoc Told first more es where
  Told : List Entry → Type 0
  Told xs = nat_lt place (mark xs) ≡ true → last_shape (drop place xs) ≡ shape_at (slice_get xs (mark xs - 1))

  first : Told []
  first t = let below = ltb-true place (mark []) t in absurd (omega (arith, below, marks.none))

  by_kind : (xs : List Entry) (x : Entry) (b : Bool) → has_shape x.event ≡ b → Told xs → Told (xs ++ x ∷ [])
  by_kind xs x true kind so_far t =
      let here : mark (xs ++ x ∷ []) ≡ length xs + 1 =
      marks.more xs x ∙ ap (λ b. place_after b (length xs) (mark xs)) kind in
      let below = ltb-true place (mark (xs ++ x ∷ [])) t in
      let last : mark (xs ++ x ∷ []) - 1 ≡ length xs = omega (arith, here) in
      ap last_shape (drop-append-le place xs (x ∷ []) (omega (arith, here, below)))
      ∙ (shape-push (drop place xs) x ∙ or_given (shape_in x.event) (last_shape (drop place xs)) kind)
      ∙ sym (ap (λ k. shape_at (slice_get (xs ++ x ∷ []) k)) last ∙ ap shape_at (get_last xs x))
  by_kind xs x false kind so_far t =
      let here : mark (xs ++ x ∷ []) ≡ mark xs =
      marks.more xs x ∙ ap (λ b. place_after b (length xs) (mark xs)) kind in
      let below = ltb-true place (mark (xs ++ x ∷ [])) t in
      let within = (tells _ mark marks xs).within in
      ap last_shape (drop-append-le place xs (x ∷ []) (omega (arith, here, below, within)))
      ∙ (shape-push (drop place xs) x ∙ or_old (shape_in x.event) (last_shape (drop place xs)) kind)
      ∙ so_far (ap (nat_lt place) (sym here) ∙ t)
      ∙ sym (ap (λ k. shape_at (slice_get (xs ++ x ∷ []) (k - 1))) here
      ∙ ap shape_at (get_before xs x (mark xs - 1) (omega (arith, here, below, within))))

  more : (xs : List Entry) (x : Entry) → Told xs → Told (xs ++ x ∷ [])
  more xs x so_far = by_kind xs x (has_shape x.event) refl so_far
