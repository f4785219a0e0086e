-- What a copy of rows from one place of a grid to another leaves, row by row.
use Rattle.std.proofs.Common.{◌≡◌, ℕ, ◌+◌, ◌-◌, ◌*◌, ◌/◌, ◌%◌, ◌<◌, ◌≤◌, Bool, true, false, ◌&&◌, cond, leb, ltb, eqb, List, length, get_or, refl, sym, ap, ◌∙◌, inl, inr, arith}
use Rattle.std.proofs.lemmas.Bool.{lt-ltb, le-ltb, le-leb, lt-leb, eqb-true, leb-true, ltb-true, and_from, and_left, and_right, and_parts, cond-true, cond-false, cases_lt}
use Rattle.std.proofs.lemmas.Bool.Decides.{nat_tests}
use Rattle.std.proofs.lemmas.Nat.{div-add-mod', mul-add-lt, div-mul-add, row_fits_turned, mul-le}
use Rattle.std.specs.List.{CopiedTo, SameBelow, SameFrom}
use Rattle.dd_geom.specs.Rect.{between, place, sides, source_x, source_y}
use Rattle.dd_geom.specs.Grid.{scrolled, value_at}
use Rattle.dd_geom.specs.declared.rect.Move.{Move}
use Rattle.dd_geom.specs.declared.rect.Sides.{Sides}
use Rattle.dd_geom.proofs.GridLemmas.{column_inside, value_at-place, value_at-cell, grid_from_places}
use Rattle.dd_geom.proofs.RectLemmas.{and_assoc, IsMoveInside}
use Rattle.dd_geom.proofs.PaintLemmas.{row_gap, run_places, one_row_more, cond_same}

-- the same for the rows from the last on
one_row_before :
    {A : Type 0} (p : Bool) (q y b : ℕ) (v o : A) → y < b
    → cond (eqb q y && p) v (cond (p && leb (y + 1) q && ltb q b) v o) ≡ cond (p && leb y q && ltb q b) v o
one_row_before true q y b v o e = grind (arith, nat_tests)
one_row_before false q y b v o e = grind (arith, nat_tests)

-- the place of the source of a point between the sides
abbrev pub copied_at : ℕ → Sides → ℕ → ℕ → ℕ → ℕ → ℕ
copied_at w s column row x y = (y - s.top + row) * w + (x - s.left + column)

-- the source of a row's places is a run
named :
    (w : ℕ) (s : Sides) (column row y z i : ℕ) → z ≡ y - s.top + row
    → z * w + column + i ≡ copied_at w s column row (s.left + i) y
named w s column row y z i is =
    let places : z * w + column + i ≡ z * w + ((s.left + i) - s.left + column) = omega arith in
    places ∙ ap (λ m. m * w + ((s.left + i) - s.left + column)) is

-- the source of a row that is copied lies within the cells
pub source_fits :
    (w h z column size n : ℕ) → z < h → column + size ≤ w → n ≡ w * h → z * w + column + size ≤ n
source_fits w h z column size n down across long =
    let row : z * w + w ≤ w * h = row_fits_turned z w w h down (omega arith) in
    omega arith

module _ {A : Type 0} where
  -- between the sides stand the cells of the places that a function names, and all else is as it was
  abbrev pub IsTaken : ℕ → Sides → (ℕ → ℕ → ℕ) → List A → List A → Type 0
  IsTaken w s at old new =
      (k : ℕ) (d : A) → k < length old
      → get_or new k d ≡ (cond (between s (k % w) (k / w)) (get_or old (at (k % w) (k / w)) d) (get_or old k d))

  -- one run copied, place by place
  abbrev pub IsRunCopied : ℕ → ℕ → ℕ → List A → List A → Type 0
  IsRunCopied src dest n old new = CopiedTo old new src dest n × SameBelow old new dest × SameFrom old new (dest + n)

  get_or-run_copied :
      (src dest n : ℕ) (old new : List A) (k : ℕ) (d : A) → IsRunCopied src dest n old new
      → get_or new k d ≡ cond (leb dest k && ltb k (dest + n)) (get_or old (src + (k - dest)) d) (get_or old k d)
  get_or-run_copied src dest n old new k d copied =
      let there = get_or old (src + (k - dest)) d in
      let here = get_or old k d in
      elim (cases_lt k dest) [
        | inl below ↦
            copied.1 k d below ∙ sym (cond-false _ there here (and_left _ _ (lt-leb dest k below)))
        | inr above ↦ elim (cases_lt k (dest + n)) [
          | inl inside ↦
              copied.0 k d above inside
              ∙ sym (cond-true _ there here (and_from _ _ (le-leb dest k above) (lt-ltb k (dest + n) inside)))
          | inr past ↦
              copied.2 k d past
              ∙ sym (cond-false _ there here (and_right _ _ (le-ltb k (dest + n) past)))
        ]
      ]

  -- no cell is copied yet
  pub run_none : (src dest n : ℕ) (old : List A) → n ≡ 0 → IsRunCopied src dest n old old
  run_none src dest n old none = ((λ k d from to. absurd (omega arith)), (λ k d e. refl), (λ k d e. refl))

  -- a run copied further, to a place before it
  pub run_after :
      (src dest n m : ℕ) (old now new : List A) → dest ≤ src → IsRunCopied src dest n old now
      → IsRunCopied (src + n) (dest + n) m now new → IsRunCopied src dest (n + m) old new
  run_after src dest n m old now new order first next = (
    (λ k d from to. elim (cases_lt k (dest + n)) [
      | inl early ↦ next.1 k d early ∙ first.0 k d from early
      | inr late ↦
          let i : ℕ = src + n + (k - (dest + n)) in
          let source : i ≡ src + (k - dest) = omega arith in
          next.0 k d late (omega arith) ∙ (first.2 i d (omega arith) ∙ ap (λ i. get_or old i d) source)
    ]),
    (λ k d below. next.1 k d (omega arith) ∙ first.1 k d below),
    (λ k d above. next.2 k d (omega arith) ∙ first.2 k d (omega arith)),
  )

  -- a run copied from its end on, to a place after it
  pub run_before :
      (src dest n m from to size : ℕ) (old now new : List A)
      → src ≤ dest → from ≡ src + m → to ≡ dest + m → size ≡ m + n → IsRunCopied from to n old now
      → IsRunCopied src dest m now new → IsRunCopied src dest size old new
  run_before src dest n m from to size old now new order source place long last next = (
    (λ k d above below. elim (cases_lt k to) [
      | inl early ↦ next.0 k d above (omega arith) ∙ last.1 (src + (k - dest)) d (omega arith)
      | inr late ↦
          let same : from + (k - to) ≡ src + (k - dest) = omega arith in
          next.2 k d (omega arith) ∙ (last.0 k d late (omega arith) ∙ ap (λ i. get_or old i d) same)
    ]),
    (λ k d below. next.1 k d below ∙ last.1 k d (omega arith)),
    (λ k d above. next.2 k d (omega arith) ∙ last.2 k d (omega arith)),
  )

  -- a run copied to a row, whose source still reads as it was at first
  run_taken :
      (w h l e y n src : ℕ) (at : ℕ → ℕ → ℕ) (first old new : List A) (k : ℕ) (d : A)
      → n + l ≡ e → e ≤ w → k < w * h → IsRunCopied src (y * w + l) n old new
      → ((i : ℕ) → i < n → get_or old (src + i) d ≡ get_or first (src + i) d)
      → ((i : ℕ) → i < n → src + i ≡ at (l + i) y)
      → get_or new k d
      ≡ cond (eqb (k / w) y && (leb l (k % w) && ltb (k % w) e)) (get_or first (at (k % w) (k / w)) d) (get_or old k d)
  run_taken w h l e y n src at first old new k d across fits within copied kept named =
      let q = k / w in
      let r = k % w in
      let a = y * w + l in
      let p : Bool = leb l r && ltb r e in
      let place : q * w + r ≡ k = div-add-mod' k w in
      let test : ℕ → Bool = λ i. leb a i && ltb i (a + n) in
      let here : (eqb q y && p) ≡ true → get_or old (src + (k - a)) d ≡ get_or first (at r q) d =
      λ (t : (eqb q y && p) ≡ true).
      let both = and_parts (eqb q y) p t in
      let sides = and_parts (leb l r) (ltb r e) both.1 in
      let same : q ≡ y = eqb-true q y both.0 in
      let from : l ≤ r = leb-true l r sides.0 in
      let to : r < e = ltb-true r e sides.1 in
      let rows : q * w ≡ y * w = ap (λ m. m * w) same in
      let i : ℕ = k - a in
      let column : l + i ≡ r = omega arith in
      kept i (omega arith)
      ∙ ap (λ m. get_or first m d) (named i (omega arith) ∙ (ap (λ m. at m y) column ∙ ap (at r) (sym same))) in
      get_or-run_copied src a n old new k d copied
      ∙ (ap (λ b. cond b (get_or old (src + (k - a)) d) (get_or old k d))
      (ap test (sym place) ∙ run_places w q r y l e n (column_inside w h k within) fits across)
      ∙ cond_same (eqb q y && p) (get_or old (src + (k - a)) d) (get_or first (at r q) d) (get_or old k d) here)

  -- a source that no row reached yet reads as it was
  source_kept :
      (w h : ℕ) (s : Sides) (at : ℕ → ℕ → ℕ) (first old : List A) (z c i : ℕ) (d : A)
      → c + i < w → z < h → length first ≡ w * h → (leb s.top z && ltb z s.bottom) ≡ false
      → IsTaken w s at first old → get_or old (z * w + c + i) d ≡ get_or first (z * w + c + i) d
  source_kept w h s at first old z c i d across down long apart so_far =
      let j = z * w + c + i in
      let place : z * w + (c + i) ≡ j = omega arith in
      let row : j / w ≡ z = ap (λ m. m / w) (sym place) ∙ div-mul-add z w (c + i) across in
      let within : z * w + (c + i) < w * h = mul-add-lt z w (c + i) h down across in
      let out : between s (j % w) (j / w) ≡ false =
      and_assoc (leb s.left (j % w) && ltb (j % w) s.right) (leb s.top (j / w)) (ltb (j / w) s.bottom)
      ∙ and_right _ _ (ap (λ m. leb s.top m && ltb m s.bottom) row ∙ apart) in
      so_far j d (omega arith) ∙ cond-false _ (get_or first (at (j % w) (j / w)) d) (get_or first j d) out

  -- one row more, from the first on: its source stands no higher than itself
  pub copied_more :
      (w h : ℕ) (s : Sides) (y z n column row : ℕ) (first old new : List A)
      → n + s.left ≡ s.right → s.right ≤ w → s.top ≤ y → column + n ≤ w → y ≤ z → z < h → z ≡ y - s.top + row
      → length old ≡ w * h → length first ≡ w * h
      → IsRunCopied (z * w + column) (y * w + s.left) n old new
      → IsTaken w (record s { bottom = y }) (copied_at w s column row) first old
      → IsTaken w (record s { bottom = y + 1 }) (copied_at w s column row) first new
  copied_more w h s y z n column row first old new across fits down room below inside is whole long run so_far k d e =
      let at = copied_at w s column row in
      let q = k / w in
      let r = k % w in
      run_taken w h s.left s.right y n (z * w + column) at first old new k d across fits (omega arith) run
      (λ i t. source_kept w h (record s { bottom = y }) at first old z column i d (omega arith) inside long
      (and_right _ _ (le-ltb z y below)) so_far)
      (λ i t. named w s column row y z i is)
      ∙ (ap (cond (eqb q y && (leb s.left r && ltb r s.right)) (get_or first (at r q) d)) (so_far k d e)
      ∙ one_row_more (leb s.left r && ltb r s.right) s.top q y (get_or first (at r q) d) (get_or first k d) down)

  -- one row more, from the last on: its source stands no lower than itself
  pub copied_before :
      (w h : ℕ) (s : Sides) (y z n column row : ℕ) (first old new : List A)
      → n + s.left ≡ s.right → s.right ≤ w → y < s.bottom → column + n ≤ w → z ≤ y → z < h → z ≡ y - s.top + row
      → length old ≡ w * h → length first ≡ w * h
      → IsRunCopied (z * w + column) (y * w + s.left) n old new
      → IsTaken w (record s { top = y + 1 }) (copied_at w s column row) first old
      → IsTaken w (record s { top = y }) (copied_at w s column row) first new
  copied_before w h s y z n column row first old new across fits up room above inside is whole long run so_far k d e =
      let at = copied_at w s column row in
      let q = k / w in
      let r = k % w in
      run_taken w h s.left s.right y n (z * w + column) at first old new k d across fits (omega arith) run
      (λ i t. source_kept w h (record s { top = y + 1 }) at first old z column i d (omega arith) inside long
      (and_left _ _ (lt-leb (y + 1) z (omega arith))) so_far)
      (λ i t. named w s column row y z i is)
      ∙ (ap (cond (eqb q y && (leb s.left r && ltb r s.right)) (get_or first (at r q) d)) (so_far k d e)
      ∙ one_row_before (leb s.left r && ltb r s.right) q y s.bottom (get_or first (at r q) d) (get_or first k d) up)

  -- whole rows, as one run
  pub copied_rows :
      (w h : ℕ) (s : Sides) (row m : ℕ) (old new : List A)
      → s.left ≡ 0 → s.right ≡ w → s.top ≤ s.bottom → length old ≡ w * h → m ≡ (s.bottom - s.top) * w
      → IsRunCopied (row * w) (s.top * w) m old new → IsTaken w s (copied_at w s 0 row) old new
  copied_rows w h s row m old new left right ordered long size copied k d e =
      let q = k / w in
      let r = k % w in
      let place : q * w + r ≡ k = div-add-mod' k w in
      let across : r < w = column_inside w h k (omega arith) in
      let from = get_or old (copied_at w s 0 row r q) d in
      let n : ℕ = s.bottom - s.top in
      let end : s.bottom ≡ s.top + n = omega arith in
      let last : s.bottom * w ≡ s.top * w + m = ap (λ b. b * w) end ∙ omega arith in
      elim (cases_lt q s.top) [
        | inl above ↦
            let gap : q * w + w ≤ s.top * w = row_gap q s.top w above in
            copied.1 k d (omega arith)
            ∙ sym (cond-false (between s r q) from (get_or old k d)
            (and_left _ _ (and_right _ _ (lt-leb s.top q above))))
        | inr below ↦ elim (cases_lt q s.bottom) [
          | inl inside ↦
              let gap : q * w + w ≤ s.bottom * w = row_gap q s.bottom w inside in
              let columns = and_from _ _ (le-leb s.left r (omega arith)) (lt-ltb r s.right (omega arith)) in
              let t : ℕ = q - s.top in
              let later : q ≡ s.top + t = omega arith in
              let rows : q * w ≡ s.top * w + t * w = ap (λ b. b * w) later ∙ omega arith in
              let source : row * w + (k - s.top * w) ≡ (t + row) * w + (r - s.left + 0) = omega arith in
              copied.0 k d (omega arith) (omega arith)
              ∙ (ap (λ i. get_or old i d) source
              ∙ sym (cond-true (between s r q) from (get_or old k d)
              (and_from _ _ (and_from _ _ columns (le-leb s.top q below)) (lt-ltb q s.bottom inside))))
          | inr past ↦
              let gap : s.bottom * w ≤ q * w = mul-le s.bottom w q w past (omega arith) in
              copied.2 k d (omega arith)
              ∙ sym (cond-false (between s r q) from (get_or old k d) (and_right _ _ (le-ltb q s.bottom past)))
        ]
      ]

  -- the cell that is copied to a point of the destination is the value at its source point
  source_cell :
      (d : A) (w h : ℕ) (m : Move) (old : List A) → IsMoveInside m w h → (x y : ℕ) → between (sides m.dest) x y ≡ true
      → get_or old (copied_at w (sides m.dest) (place m.source.x) (place m.source.y) x y) d
      ≡ value_at d (record { width = w; height = h; cells = old }) (source_x m x) (source_y m y)
  source_cell d w h m old inside x y t =
      let to = sides m.dest in
      let down = and_parts (leb to.left x && ltb x to.right && leb to.top y) (ltb y to.bottom) t in
      let top = and_parts (leb to.left x && ltb x to.right) (leb to.top y) down.0 in
      let across = and_parts (leb to.left x) (ltb x to.right) top.0 in
      let l : to.left ≤ x = leb-true to.left x across.0 in
      let r : x < to.right = ltb-true x to.right across.1 in
      let u : to.top ≤ y = leb-true to.top y top.1 in
      let b : y < to.bottom = ltb-true y to.bottom down.1 in
      let column : x - to.left + place m.source.x ≡ source_x m x = omega arith in
      let row : y - to.top + place m.source.y ≡ source_y m y = omega arith in
      ap (λ n. get_or old (n * w + (x - to.left + place m.source.x)) d) row
      ∙ (ap (λ n. get_or old (source_y m y * w + n) d) column
      ∙ sym (value_at-place d w h old (source_x m x) (source_y m y)
      (omega (arith, inside.across)) (omega (arith, inside.down))))

  -- cells that a move copied are the grid after it
  pub scrolled_from_copied :
      (d : A) (w h : ℕ) (m : Move) (old new : List A) → IsMoveInside m w h → length old ≡ w * h → length new ≡ w * h
      → IsTaken w (sides m.dest) (copied_at w (sides m.dest) (place m.source.x) (place m.source.y)) old new
      → record { width = w; height = h; cells = new } ≡ scrolled d (record { width = w; height = h; cells = old }) m
  scrolled_from_copied d w h m old new inside long_old long_new copied =
      let to = sides m.dest in
      let at = copied_at w to (place m.source.x) (place m.source.y) in
      let now : ℕ → ℕ → A = λ x y. value_at d (record { width = w; height = h; cells = old }) x y in
      let from : ℕ → ℕ → A = λ x y. now (source_x m x) (source_y m y) in
      grid_from_places d w h (λ x y. cond (between to x y) (from x y) (now x y)) new long_new (λ k e.
      let r = k % w in
      let q = k / w in
      let source : between to r q ≡ true → get_or old (at r q) d ≡ from r q =
      λ (t : between to r q ≡ true). source_cell d w h m old inside r q t in
      copied k d (omega arith)
      ∙ (cond_same (between to r q) (get_or old (at r q) d) (from r q) (get_or old k d) source
      ∙ ap (cond (between to r q) (from r q)) (sym (value_at-cell d w h old k e))))
