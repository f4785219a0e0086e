-- What one tile after another leaves that is rounded in place.
use Rattle.std.proofs.Common.{◌≡◌, ℕ, suc, ◌+◌, ◌-◌, ◌*◌, ◌/◌, ◌%◌, ◌<◌, ◌≤◌, min, Bool, true, false, ◌&&◌, ◌||◌, cond, eqb, ltb, leb, List, [], ◌∷◌, length, get_or, take, drop, refl, sym, ap, subst, ◌∙◌, arith, inl, inr, add-zero}
use Rattle.std.specs.List.{range_with_len, list_any}
use Rattle.std.proofs.Math.Nat.{lt-div-mul-add, div-mul-le_self, div-eq_of_lt-le}
use Rattle.std.proofs.lemmas.Bool.{cases_lt, cases_Bool, both_ways, and_from, and_right, and_parts, cond-true, cond-false, lt-ltb, le-ltb, le-leb, leb-true, ltb-true, eqb-true, eq-eqb}
use Rattle.std.proofs.lemmas.Bool.Decides.{nat_tests}
use Rattle.std.proofs.lemmas.Nat.{mul-le, row_fits_turned}
use Rattle.std.proofs.lemmas.Grind.{div_ceil_times}
use Rattle.std.proofs.lemmas.List.{length-take, length-drop, get_or-take, get_or-drop}
use Rattle.dd_geom.specs.declared.rect.Sides.{Sides}
use Rattle.dd_geom.specs.Rect.{between, AreInside}
use Rattle.dd_geom.specs.Grid.{Grid}
use Rattle.dd_geom.proofs.GridLemmas.{value_at-cell, value_at-place, value_at-grid, column_inside, row_inside, grid_from_places}
use Rattle.dd_geom.proofs.RectLemmas.{and_assoc}
use Rattle.dd_geom.proofs.PaintLemmas.{IsPainted, grid_from_painted, cond_same}
use Rattle.dd_bits.specs.Area.{is_in}
use Rattle.dd_bits.specs.Tiles.{tile_has, tiles}
use Rattle.dd_bits.specs.Rounding.{tile_sides, some_between, IsRounded, this_tile, this_row}
use Rattle.dd_bits.proofs.TileLemmas.{HoldsAt-range, list_any-range, same_bool, tile_has-from, tile_has-to, IsOn-from}

abbrev plane : ℕ → ℕ → List Bool → Grid Bool
plane w h cells = record { width = w; height = h; cells = cells }

-- the first tiles of a row of tiles, and the first rows of tiles
abbrev pub row_before : ℕ → ℕ → ℕ → ℕ → Bool
row_before down across i j = eqb j down && ltb i across

abbrev pub rows_before : ℕ → ℕ → ℕ → Bool
rows_before down i j = ltb j down

-- a run of cells that a function gives has a marked one where the function holds
list_any-run :
    (f : ℕ → Bool) (xs : List Bool) (a : ℕ) → ((k : ℕ) → k < length xs → get_or xs k false ≡ f (a + k))
    → list_any (λ b. b) xs ≡ list_any f (range_with_len a (length xs))
list_any-run f [] a same = refl
list_any-run f (x ∷ xs) a same =
    let rest = list_any-run f xs (a + 1) (λ k l. same (suc k) (omega arith) ∙ ap f (omega arith)) in
    ap (λ b. b || list_any (λ b. b) xs) (same 0 (omega arith) ∙ ap f (add-zero a)) ∙ ap (λ b. f a || b) rest

-- no row between two has a place where the test holds
pub list_any-none :
    (f : ℕ → Bool) (n a : ℕ) → ((k : ℕ) → a ≤ k → k < a + n → f k ≡ false) → list_any f (range_with_len a n) ≡ false
list_any-none f n a none =
    elim (cases_Bool (list_any f (range_with_len a n))) [
      | inl t ↦
          let h = HoldsAt-range f n a t in
          absurd (both_ways (f h.place) (none h.place h.from h.to) h.holds)
      | inr e ↦ e
    ]

-- a row's cells between two sides
abbrev run_of : ℕ → ℕ → Sides → List Bool → List Bool
run_of w y s cells = take (y * w + s.right - (y * w + s.left)) (drop (y * w + s.left) cells)

-- some point of a row between two sides is marked
abbrev row_has : ℕ → ℕ → Sides → List Bool → ℕ → Bool
row_has w h s cells y = list_any (λ x. is_in (plane w h cells) x y) (range_with_len s.left (s.right - s.left))

row_marked :
    (w h y : ℕ) (s : Sides) (cells : List Bool) → AreInside s w h → y < s.bottom → length cells ≡ w * h
    → list_any (λ b. b) (run_of w y s cells) ≡ row_has w h s cells y
row_marked w h y s cells inside up long =
    let a : ℕ = y * w + s.left in
    let n : ℕ = y * w + s.right - a in
    let row : y * w + w ≤ w * h = row_fits_turned y w w h (omega (arith, inside.bottom)) (omega arith) in
    let size : length (take n (drop a cells)) ≡ s.right - s.left =
    omega (arith, length-take n (drop a cells), length-drop a cells, inside.right, inside.across) in
    list_any-run (λ x. is_in (plane w h cells) x y) (take n (drop a cells)) s.left (λ k l.
    let across : s.left + k < w = omega (arith, inside.right) in
    let place : a + k ≡ y * w + (s.left + k) = omega arith in
    get_or-take n (drop a cells) k false (omega arith)
    ∙ get_or-drop a cells k false
    ∙ ap (λ m. get_or cells m false) place
    ∙ sym (value_at-place false w h cells (s.left + k) y across (omega (arith, inside.bottom))))
    ∙ ap (λ m. list_any (λ x. is_in (plane w h cells) x y) (range_with_len s.left m)) size

-- a row with a marked cell settles it
pub some_between-found :
    (w h y : ℕ) (s : Sides) (cells : List Bool) (b : Bool) → AreInside s w h → s.top ≤ y → y < s.bottom
    → length cells ≡ w * h
    → b ≡ list_any (λ b. b) (take (y * w + s.right - (y * w + s.left)) (drop (y * w + s.left) cells)) → b ≡ true
    → true ≡ some_between (plane w h cells) s
some_between-found w h y s cells b inside from up long is found =
    sym (list_any-range (row_has w h s cells) (s.bottom - s.top) s.top y from (omega (arith, inside.down))
    (sym (row_marked w h y s cells inside up long) ∙ sym is ∙ found))

-- one more row with none
pub rows_blank-more :
    (w h y : ℕ) (s : Sides) (cells : List Bool) (b : Bool) → AreInside s w h → y < s.bottom → length cells ≡ w * h
    → b ≡ list_any (λ b. b) (take (y * w + s.right - (y * w + s.left)) (drop (y * w + s.left) cells)) → b ≡ false
    → ((r : ℕ) → s.top ≤ r → r < y
    → list_any (λ x. is_in (plane w h cells) x r) (range_with_len s.left (s.right - s.left)) ≡ false)
    → (r : ℕ) → s.top ≤ r → r < y + 1
    → list_any (λ x. is_in (plane w h cells) x r) (range_with_len s.left (s.right - s.left)) ≡ false
rows_blank-more w h y s cells b inside up long is blank above r l u =
    elim (cases_lt r y) [
      | inl a ↦ above r l a
      | inr a ↦
          let same : r ≡ y = omega arith in
          ap (row_has w h s cells) same ∙ sym (row_marked w h y s cells inside up long) ∙ sym is ∙ blank
    ]

pub some_between-none :
    (w h : ℕ) (s : Sides) (cells : List Bool) → AreInside s w h
    → ((r : ℕ) → s.top ≤ r → r < s.bottom
    → list_any (λ x. is_in (plane w h cells) x r) (range_with_len s.left (s.right - s.left)) ≡ false)
    → false ≡ some_between (plane w h cells) s
some_between-none w h s cells inside none =
    sym (list_any-none (row_has w h s cells) (s.bottom - s.top) s.top (λ r l u. none r l (omega (arith, inside.down))))

-- a column between the sides of a tile is in it, and one in it is between its sides
in_tile : (w t i x : ℕ) → i * t ≤ x → x < min (i * t + t) w → x / t ≡ i
in_tile w t i x from to = div-eq_of_lt-le t from (omega arith)

tile_from : (t i x : ℕ) → x / t ≡ i → i * t ≤ x
tile_from t i x e = omega (arith, ap (λ n. n * t) e, div-mul-le_self x t)

tile_to : (w t i x : ℕ) → 1 ≤ t → x / t ≡ i → x < w → x < min (i * t + t) w
tile_to w t i x some e inside =
    let to : x < x / t * t + t = lt-div-mul-add {a = x} {b = t} (omega arith) in
    omega (arith, ap (λ n. n * t) e)

tile_columns : (w t i x : ℕ) → 1 ≤ t → x < w → (leb (i * t) x && ltb x (min (i * t + t) w)) ≡ eqb (x / t) i
tile_columns w t i x some inside =
    same_bool (leb (i * t) x && ltb x (min (i * t + t) w)) (eqb (x / t) i)
    (λ e.
    let both = and_parts (leb (i * t) x) (ltb x (min (i * t + t) w)) e in
    eq-eqb (x / t) i
    (in_tile w t i x (leb-true (i * t) x both.0) (ltb-true x (min (i * t + t) w) both.1)))
    (λ e.
    let same : x / t ≡ i = eqb-true (x / t) i e in
    and_from _ _ (le-leb (i * t) x (tile_from t i x same))
    (lt-ltb x (min (i * t + t) w) (tile_to w t i x some same inside)))

-- a point is in a tile where it stands between the tile's sides
between-tile :
    (w h t i j x y : ℕ) → 1 ≤ t → x < w → y < h
    → between (tile_sides w h t i j) x y ≡ this_tile i j (x / t) (y / t)
between-tile w h t i j x y some across down =
    let s = tile_sides w h t i j in
    and_assoc (leb s.left x && ltb x s.right) (leb s.top y) (ltb y s.bottom)
    ∙ ap (λ b. b && (leb s.top y && ltb y s.bottom)) (tile_columns w t i x some across)
    ∙ ap (λ b. eqb (x / t) i && b) (tile_columns h t j y some down)

-- some point between the sides of a tile is marked where the tile has a point
pub some_between-tile :
    (g : Grid Bool) (t i j : ℕ) → 1 ≤ t → i * t < g.width → j * t < g.height
    → some_between g (tile_sides g.width g.height t i j) ≡ tile_has g t i j
some_between-tile g t i j some across down =
    let s = tile_sides g.width g.height t i j in
    let row : ℕ → Bool = λ y. list_any (λ x. is_in g x y) (range_with_len s.left (s.right - s.left)) in
    same_bool (some_between g s) (tile_has g t i j)
    (λ e.
    let p = HoldsAt-range row (s.bottom - s.top) s.top e in
    let q = HoldsAt-range (λ x. is_in g x p.place) (s.right - s.left) s.left p.holds in
    tile_has-to g t i j q.place p.place some
    (in_tile g.width t i q.place q.from (omega (arith, q.to)))
    (in_tile g.height t j p.place p.from (omega (arith, p.to)))
    q.holds)
    (λ e.
    let p = tile_has-from g t i j some e in
    let on = IsOn-from g p.x p.y p.is in
    let right : p.x < s.right = tile_to g.width t i p.x some p.column on.across in
    let bottom : p.y < s.bottom = tile_to g.height t j p.y some p.row on.down in
    list_any-range row (s.bottom - s.top) s.top p.y (tile_from t j p.y p.row) (omega arith)
    (list_any-range (λ x. is_in g x p.y) (s.right - s.left) s.left p.x (tile_from t i p.x p.column) (omega arith)
    p.is))

-- in this tile
tile_is : (g : Grid Bool) (t i j a b : ℕ) → this_tile i j a b ≡ true → tile_has g t a b ≡ tile_has g t i j
tile_is g t i j a b e =
    let both = and_parts (eqb a i) (eqb b j) e in
    ap (λ n. tile_has g t n b) (eqb-true a i both.0) ∙ ap (tile_has g t i) (eqb-true b j both.1)

-- a tile with a point that is painted is rounded
pub rounded-painted :
    (w h t i j : ℕ) (s : Sides) (old new : List Bool) → 1 ≤ t → s ≡ tile_sides w h t i j → length old ≡ w * h
    → length new ≡ w * h → tile_has (plane w h old) t i j ≡ true → IsPainted w s true old new
    → IsRounded w h t (this_tile i j) old new
rounded-painted w h t i j s old new some sides long_old long_new has painted x y across down =
    let was : Bool = is_in (plane w h old) x y in
    ap (λ g. is_in g x y) (grid_from_painted false w h s true old new long_old long_new painted)
    ∙ value_at-grid false w h (λ x y. cond (between s x y) true (is_in (plane w h old) x y)) x y across down
    ∙ ap (λ s. cond (between s x y) true was) sides
    ∙ ap (λ b. cond b true was) (between-tile w h t i j x y some across down)
    ∙ cond_same (this_tile i j (x / t) (y / t)) true (tile_has (plane w h old) t (x / t) (y / t)) was
    (λ e. sym (tile_is (plane w h old) t i j (x / t) (y / t) e ∙ has))

either : {A : Type 0} (b : Bool) (u o : A) → (b ≡ true → o ≡ u) → o ≡ cond b u o
either true u o e = e refl
either false u o e = refl

-- a tile with no point is left
pub rounded-left :
    (w h t i j : ℕ) (old : List Bool) → 1 ≤ t → tile_has (plane w h old) t i j ≡ false
    → IsRounded w h t (this_tile i j) old old
rounded-left w h t i j old some none x y across down =
    let g = plane w h old in
    either (this_tile i j (x / t) (y / t)) (tile_has g t (x / t) (y / t)) (is_in g x y) (λ e.
    let blank : tile_has g t (x / t) (y / t) ≡ false = tile_is g t i j (x / t) (y / t) e ∙ none in
    elim (cases_Bool (is_in g x y)) [
      | inl is ↦ absurd (both_ways _ blank (tile_has-to g t (x / t) (y / t) x y some refl refl is))
      | inr is ↦ is ∙ sym blank
    ])

-- the points of a tile that was not picked stand
point_kept :
    (w h t i j x y : ℕ) (picks : ℕ → ℕ → Bool) (old new : List Bool) → IsRounded w h t picks old new
    → picks i j ≡ false → x / t ≡ i → y / t ≡ j → x < w → y < h
    → is_in (plane w h new) x y ≡ is_in (plane w h old) x y
point_kept w h t i j x y picks old new rounded not column row across down =
    let no : picks (x / t) (y / t) ≡ false = ap (λ n. picks n (y / t)) column ∙ ap (picks i) row ∙ not in
    rounded x y across down ∙ cond-false _ _ _ no

tile_kept :
    (w h t i j : ℕ) (picks : ℕ → ℕ → Bool) (old new : List Bool) → 1 ≤ t → IsRounded w h t picks old new
    → picks i j ≡ false → tile_has (plane w h new) t i j ≡ tile_has (plane w h old) t i j
tile_kept w h t i j picks old new some rounded not =
    same_bool (tile_has (plane w h new) t i j) (tile_has (plane w h old) t i j)
    (λ e.
    let p = tile_has-from (plane w h new) t i j some e in
    let on = IsOn-from (plane w h new) p.x p.y p.is in
    tile_has-to (plane w h old) t i j p.x p.y some p.column p.row
    (sym (point_kept w h t i j p.x p.y picks old new rounded not p.column p.row on.across on.down) ∙ p.is))
    (λ e.
    let p = tile_has-from (plane w h old) t i j some e in
    let on = IsOn-from (plane w h old) p.x p.y p.is in
    tile_has-to (plane w h new) t i j p.x p.y some p.column p.row
    (point_kept w h t i j p.x p.y picks old new rounded not p.column p.row on.across on.down ∙ p.is))

cond_or : {A : Type 0} (a b : Bool) (u o : A) → cond a u (cond b u o) ≡ cond (a || b) u o
cond_or true b u o = refl
cond_or false b u o = refl

-- some tiles more
rounded_more :
    (w h t : ℕ) (done now next : ℕ → ℕ → Bool) (first old new : List Bool) → 1 ≤ t
    → ((i j : ℕ) → now i j ≡ true → done i j ≡ false) → ((i j : ℕ) → (now i j || done i j) ≡ next i j)
    → IsRounded w h t done first old → IsRounded w h t now old new → IsRounded w h t next first new
rounded_more w h t done now next first old new some apart both so_far rounded x y across down =
    let i = x / t in
    let j = y / t in
    let has : Bool = tile_has (plane w h first) t i j in
    let was : Bool = is_in (plane w h first) x y in
    rounded x y across down
    ∙ cond_same (now i j) (tile_has (plane w h old) t i j) has (is_in (plane w h old) x y)
    (λ e. tile_kept w h t i j done first old some so_far (apart i j e))
    ∙ ap (cond (now i j) has) (so_far x y across down)
    ∙ cond_or (now i j) (done i j) has was
    ∙ ap (λ b. cond b has was) (both i j)

and_true : (a b : Bool) → b ≡ true → (a && b) ≡ a
and_true true b e = e
and_true false b e = refl

-- one tile more of a row of tiles
tile_more : (p : Bool) (i a : ℕ) → (eqb i a && p || p && ltb i a) ≡ (p && ltb i (a + 1))
tile_more true i a = grind (arith, nat_tests)
tile_more false i a = grind (arith, nat_tests)

row_more : (j d : ℕ) → (eqb j d || ltb j d) ≡ ltb j (d + 1)
row_more j d = grind (arith, nat_tests)

pub row_before-more :
    (w h t down a : ℕ) (first old new : List Bool) → 1 ≤ t → IsRounded w h t (row_before down a) first old
    → IsRounded w h t (this_tile a down) old new → IsRounded w h t (row_before down (a + 1)) first new
row_before-more w h t down a first old new some =
    rounded_more w h t (row_before down a) (this_tile a down) (row_before down (a + 1)) first old new some
    (λ i j e.
    let same : i ≡ a = eqb-true i a (and_parts (eqb i a) (eqb j down) e).0 in
    and_right _ _ (le-ltb i a (omega arith)))
    (λ i j. tile_more (eqb j down) i a)

pub rows_before-more :
    (w h t down : ℕ) (first old new : List Bool) → 1 ≤ t → IsRounded w h t (rows_before down) first old
    → IsRounded w h t (this_row down) old new → IsRounded w h t (rows_before (down + 1)) first new
rows_before-more w h t down first old new some =
    rounded_more w h t (rows_before down) (this_row down) (rows_before (down + 1)) first old new some
    (λ i j e. let same : j ≡ down = eqb-true j down e in le-ltb j down (omega arith))
    (λ i j. row_more j down)

-- of as many tiles as cover w places each begins before their end, and each place is in one
pub tile_begins : (w t n a : ℕ) → 1 ≤ t → n ≡ w / t + min 1 (w % t) → a < n → a * t < w
tile_begins w t n a some count before =
    let all : n * t < w + t = subst (λ (m : ℕ). m * t < w + t) (sym count) (div_ceil_times w t some).1 in
    let up : (a + 1) * t ≤ n * t = mul-le (a + 1) t n t (omega arith) (omega arith) in
    omega arith

tile_before : (w t n x : ℕ) → 1 ≤ t → n ≡ w / t + min 1 (w % t) → x < w → x / t < n
tile_before w t n x some count inside =
    let all : w ≤ n * t = subst (λ (m : ℕ). w ≤ m * t) (sym count) (div_ceil_times w t some).0 in
    elim (cases_lt (x / t) n) [
      | inl a ↦ a
      | inr a ↦
          let up : n * t ≤ x / t * t = mul-le n t (x / t) t a (omega arith) in
          let down : x / t * t ≤ x = div-mul-le_self x t in
          absurd (omega arith)
    ]

-- all tiles of a row of tiles
pub row_before-all :
    (w h t down n : ℕ) (first old : List Bool) → 1 ≤ t → n ≡ w / t + min 1 (w % t)
    → IsRounded w h t (row_before down n) first old → IsRounded w h t (this_row down) first old
row_before-all w h t down n first old some count so_far x y across below =
    let has : Bool = tile_has (plane w h first) t (x / t) (y / t) in
    let all : ltb (x / t) n ≡ true = lt-ltb (x / t) n (tile_before w t n x some count across) in
    so_far x y across below
    ∙ ap (λ b. cond b has (is_in (plane w h first) x y)) (and_true (eqb (y / t) down) (ltb (x / t) n) all)

-- all rows of tiles
pub rows_before-all :
    (w h t n : ℕ) (first old : List Bool) → 1 ≤ t → n ≡ h / t + min 1 (h % t) → length old ≡ w * h
    → IsRounded w h t (rows_before n) first old
    → record { width = w; height = h; cells = old } ≡ tiles t (record { width = w; height = h; cells = first })
unfolding tiles
rows_before-all w h t n first old some count long so_far =
    grid_from_places false w h (λ x y. tile_has (plane w h first) t (x / t) (y / t)) old long (λ k e.
    let r = k % w in
    let q = k / w in
    let down : q < h = row_inside w h k e in
    let all : ltb (q / t) n ≡ true = lt-ltb (q / t) n (tile_before h t n q some count down) in
    sym (value_at-cell false w h old k e)
    ∙ so_far r q (column_inside w h k e) down
    ∙ cond-true _ _ _ all)
