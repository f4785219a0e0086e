-- What a value leaves that is painted between four sides, row by row.
use Rattle.std.proofs.Common.{refl, ◌≡◌, ℕ, ◌+◌, ◌-◌, ◌*◌, ◌/◌, ◌%◌, ◌<◌, ◌≤◌, Bool, true, false, ◌&&◌, cond, leb, ltb, eqb, List, ◌++◌, length, get_or, take, drop, replicate, sym, ap, ◌∙◌, inl, inr, arith}
use Rattle.std.proofs.lemmas.Bool.{lt-ltb, le-ltb, le-leb, lt-leb, eq-eqb, ne_eqb, eqb-true, leb-true, ltb-true, and_from, and_left, and_right, and_parts, cond-true, cond-false, cases_lt, cases_order}
use Rattle.std.proofs.lemmas.Bool.Decides.{nat_tests}
use Rattle.std.proofs.lemmas.List.{length-take-le, length-append, length-replicate, length-drop, get_or-take, get_or-drop, get_or_append_left, get_or-append_right, get_or-replicate}
use Rattle.std.proofs.lemmas.Nat.{div-add-mod', row_fits_turned, mul-le}
use borrow.Rule.Slice.PartMut.{put_mid}
use Rattle.dd_geom.specs.Rect.{between}
use Rattle.dd_geom.specs.declared.rect.Sides.{Sides}
use Rattle.dd_geom.specs.Grid.{grid, value_at}
use Rattle.dd_geom.proofs.GridLemmas.{column_inside, value_at-cell, grid_from_places}

-- a row ends before a later one begins
pub row_gap : (q y w : ℕ) → q < y → q * w + w ≤ y * w
row_gap q y w e = omega (arith, mul-le (q + 1) w y w (omega arith) (omega arith))

-- the places of a run are those of its row between its sides
pub run_places :
    (w q r y l e n : ℕ) → r < w → e ≤ w → n + l ≡ e
    → (leb (y * w + l) (q * w + r) && ltb (q * w + r) (y * w + l + n)) ≡ (eqb q y && (leb l r && ltb r e))
run_places w q r y l e n across fits order =
    elim (cases_order q y) [
      | inl same ↦
          let place : q * w + r ≡ y * w + r = ap (λ n. n * w + r) same in
          rw (eq-eqb q y same) (grind (arith, nat_tests))
      | inr other ↦ elim other [
        | inl above ↦
            let gap : q * w + w ≤ y * w = row_gap q y w above in
            let apart : q ≡ y → ⊥ = λ h. omega arith in
            rw (ne_eqb q y apart) (and_left _ _ (lt-leb (y * w + l) (q * w + r) (omega arith)))
        | inr below ↦
            let gap : y * w + w ≤ q * w = row_gap y q w below in
            let apart : q ≡ y → ⊥ = λ h. omega arith in
            rw (ne_eqb q y apart) (and_right _ _ (le-ltb (q * w + r) (y * w + l + n) (omega arith)))
      ]
    ]

-- between the sides in the row that is painted now or in one before it
pub one_row_more :
    {A : Type 0} (p : Bool) (t q y : ℕ) (v o : A) → t ≤ y
    → cond (eqb q y && p) v (cond (p && leb t q && ltb q y) v o) ≡ cond (p && leb t q && ltb q (y + 1)) v o
one_row_more true t q y v o e = grind (arith, nat_tests)
one_row_more false t q y v o e = grind (arith, nat_tests)

-- a choice whose first value is used only where the test holds
pub cond_same : {A : Type 0} (b : Bool) (u v o : A) → (b ≡ true → u ≡ v) → cond b u o ≡ cond b v o
cond_same true u v o e = e refl
cond_same false u v o e = refl

module _ {A : Type 0} where
  -- the function's values stand between the sides, and all else is as it was
  abbrev pub IsDrawn : ℕ → Sides → (ℕ → ℕ → A) → List A → List A → Type 0
  IsDrawn w s f old new =
      (k : ℕ) (d : A) → k < length old
      → get_or new k d ≡ (cond (between s (k % w) (k / w)) (f (k % w) (k / w)) (get_or old k d))

  -- one value stands between the sides, and all else is as it was
  abbrev pub IsPainted : ℕ → Sides → A → List A → List A → Type 0
  IsPainted w s v = IsDrawn w s (λ _ _. v)

  -- a run that is written over some places of a list
  pub get_or-run :
      (a n : ℕ) (xs ys : List A) (d : A) (i : ℕ) → a + n ≤ length xs → length ys ≡ n
      → get_or (put_mid a n xs ys) i d ≡ cond (leb a i && ltb i (a + n)) (get_or ys (i - a) d) (get_or xs i d)
  get_or-run a n xs ys d i fits mid =
      let front : length (take a xs) ≡ a = length-take-le a xs (omega arith) in
      elim (cases_lt i a) [
        | inl below ↦
            get_or_append_left (take a xs) _ d i (omega arith)
            ∙ (get_or-take a xs i d below
            ∙ sym (cond-false _ (get_or ys (i - a) d) (get_or xs i d) (and_left _ _ (lt-leb a i below))))
        | inr above ↦
            get_or-append_right (take a xs) _ a i d front above
            ∙ elim (cases_lt i (a + n)) [
              | inl inside ↦
                  get_or_append_left ys _ d (i - a) (omega arith)
                  ∙ sym (cond-true _ (get_or ys (i - a) d) (get_or xs i d)
                  (and_from _ _ (le-leb a i above) (lt-ltb i (a + n) inside)))
              | inr past ↦
                  get_or-append_right ys _ n (i - a) d mid (omega arith)
                  ∙ (get_or-drop n (drop a xs) (i - a - n) d
                  ∙ (get_or-drop a xs (n + (i - a - n)) d
                  ∙ (ap (λ m. get_or xs m d) (omega arith)
                  ∙ sym (cond-false _ (get_or ys (i - a) d) (get_or xs i d) (and_right _ _ (le-ltb i (a + n) past))))))
            ]
      ]

  pub length-run :
      (a n : ℕ) (xs ys : List A) → a + n ≤ length xs → length ys ≡ n → length (put_mid a n xs ys) ≡ length xs
  length-run a n xs ys fits long =
      let front : length (take a xs) ≡ a = length-take-le a xs (omega arith) in
      omega (
        arith,
        length-append (take a xs) (ys ++ drop n (drop a xs)),
        length-append ys (drop n (drop a xs)),
        length-drop n (drop a xs),
        length-drop a xs,
      )

  -- one row more
  pub drawn_more :
      (w h : ℕ) (s : Sides) (y n : ℕ) (f : ℕ → ℕ → A) (first old run : List A)
      → n + s.left ≡ s.right → s.right ≤ w → s.top ≤ y → y < h → length old ≡ w * h → length first ≡ w * h
      → length run ≡ n → ((i : ℕ) (d : A) → i < n → get_or run i d ≡ f (s.left + i) y)
      → IsDrawn w (record s { bottom = y }) f first old
      → IsDrawn w (record s { bottom = y + 1 }) f first (put_mid (y * w + s.left) n old run)
  drawn_more w h s y n f first old run across fits down inside long_old long long_run each so_far k d e =
      let a : ℕ = y * w + s.left in
      let q : ℕ = k / w in
      let r : ℕ = k % w in
      let test : ℕ → Bool = λ i. leb a i && ltb i (a + n) in
      let p : Bool = leb s.left r && ltb r s.right in
      let row : y * w + w ≤ w * h = row_fits_turned y w w h inside (omega arith) in
      let within : k < w * h = omega arith in
      let place : q * w + r ≡ k = div-add-mod' k w in
      let drawn : (eqb q y && p) ≡ true → get_or run (k - a) d ≡ f r q =
      λ (t : (eqb q y && p) ≡ true).
      let both = and_parts (eqb q y) p t in
      let sides = and_parts (leb s.left r) (ltb r s.right) both.1 in
      let here : q ≡ y = eqb-true q y both.0 in
      let from : s.left ≤ r = leb-true s.left r sides.0 in
      let to : r < s.right = ltb-true r s.right sides.1 in
      let rows : q * w ≡ y * w = ap (λ m. m * w) here in
      each (k - a) d (omega arith) ∙ (ap (λ m. f m y) (omega arith) ∙ ap (f r) (sym here)) in
      get_or-run a n old run d k (omega arith) long_run
      ∙ (ap (λ b. cond b (get_or run (k - a) d) (get_or old k d))
      (ap test (sym place) ∙ run_places w q r y s.left s.right n (column_inside w h k within) fits across)
      ∙ (cond_same (eqb q y && p) (get_or run (k - a) d) (f r q) (get_or old k d) drawn
      ∙ (ap (λ o. cond (eqb q y && p) (f r q) o) (so_far k d e)
      ∙ one_row_more p s.top q y (f r q) (get_or first k d) down)))

  -- one row more of one value
  pub painted_more :
      (w h : ℕ) (s : Sides) (y n : ℕ) (v : A) (first old run : List A)
      → n + s.left ≡ s.right → s.right ≤ w → s.top ≤ y → y < h → length old ≡ w * h → length first ≡ w * h
      → run ≡ replicate n v → IsPainted w (record s { bottom = y }) v first old
      → IsPainted w (record s { bottom = y + 1 }) v first (put_mid (y * w + s.left) n old run)
  painted_more w h s y n v first old run across fits down inside long_old long all so_far =
      drawn_more w h s y n (λ _ _. v) first old run across fits down inside long_old long
      (ap length all ∙ length-replicate n v)
      (λ i d e. ap (λ xs. get_or xs i d) all ∙ get_or-replicate n i v d e) so_far

  -- cells that are drawn are the grid of the function between the sides, and of the old values elsewhere
  pub grid_from_drawn :
      (d : A) (w h : ℕ) (s : Sides) (f : ℕ → ℕ → A) (old new : List A) → length old ≡ w * h → length new ≡ w * h
      → IsDrawn w s f old new
      → record { width = w; height = h; cells = new }
      ≡ grid w h (λ x y. cond (between s x y) (f x y) (value_at d (record { width = w; height = h; cells = old }) x y))
  grid_from_drawn d w h s f old new long_old long_new drawn =
      let g =
      λ (x y : ℕ). cond (between s x y) (f x y) (value_at d (record { width = w; height = h; cells = old }) x y) in
      grid_from_places d w h g new long_new (λ k e.
      drawn k d (omega arith)
      ∙ ap (cond (between s (k % w) (k / w)) (f (k % w) (k / w))) (sym (value_at-cell d w h old k e)))

  pub grid_from_painted :
      (d : A) (w h : ℕ) (s : Sides) (v : A) (old new : List A) → length old ≡ w * h → length new ≡ w * h
      → IsPainted w s v old new
      → record { width = w; height = h; cells = new }
      ≡ grid w h (λ x y. cond (between s x y) v (value_at d (record { width = w; height = h; cells = old }) x y))
  grid_from_painted d w h s v = grid_from_drawn d w h s (λ _ _. v)
