-- A surface that is drawn on part of its points: none, one more, one row more, and all.
use Rattle.std.proofs.Common.{◌≡◌, ℕ, ◌+◌, ◌*◌, ◌<◌, ◌≤◌, ◌==◌, Bool, true, false, ◌&&◌, ◌||◌, cond, nat_le, nat_lt, inl, inr, length, refl, sym, ap, ◌∙◌, arith}
use Rattle.std.proofs.lemmas.Bool.{cond-false, and_parts, eqb-true, cases_order}
use Rattle.std.proofs.lemmas.Bool.Decides.{nat_tests}
use Rattle.dd_geom.specs.Grid.{Grid, grid}
use Rattle.dd_geom.proofs.GridLemmas.{grid_from_agree, grid-value_at, value_at-grid}
use Rattle.dd_geom.proofs.PaintLemmas.{cond_same}
use Rattle.dd_grid.specs.Drawing.{colour_at, with_colour}

-- the function's colours at the points that pass, and the surface's own at the others
abbrev pub part : Grid ℕ → (ℕ → ℕ → Bool) → (ℕ → ℕ → ℕ) → Grid ℕ
part g b f = grid g.width g.height (λ x y. cond (b x y) (f x y) (colour_at g x y))

or_else : (t b : Bool) (v o : ℕ) → cond t v (cond b v o) ≡ cond (t || b) v o
or_else true b v o = refl
or_else false b v o = refl

-- drawn at no point
pub part_none :
    (g : Grid ℕ) (b : ℕ → ℕ → Bool) (f : ℕ → ℕ → ℕ) → length g.cells ≡ g.width * g.height
    → ((x y : ℕ) → x < g.width → y < g.height → b x y ≡ false) → g ≡ part g b f
part_none g b f whole none =
    grid-value_at 0 g whole
    ∙ grid_from_agree g.width g.height (colour_at g) (λ x y. cond (b x y) (f x y) (colour_at g x y))
    (λ x y across down. sym (cond-false (b x y) (f x y) (colour_at g x y) (none x y across down)))

-- two tests that agree inside
pub part_same :
    (g : Grid ℕ) (b c : ℕ → ℕ → Bool) (f : ℕ → ℕ → ℕ)
    → ((x y : ℕ) → x < g.width → y < g.height → b x y ≡ c x y) → part g b f ≡ part g c f
part_same g b c f same =
    grid_from_agree g.width g.height (λ x y. cond (b x y) (f x y) (colour_at g x y))
    (λ x y. cond (c x y) (f x y) (colour_at g x y))
    (λ x y across down. ap (λ t. cond t (f x y) (colour_at g x y)) (same x y across down))

-- the colour at a point that isn't drawn yet
pub part_at :
    (g : Grid ℕ) (b : ℕ → ℕ → Bool) (f : ℕ → ℕ → ℕ) (x y : ℕ) → x < g.width → y < g.height → b x y ≡ false
    → colour_at (part g b f) x y ≡ colour_at g x y
part_at g b f x y across down out =
    value_at-grid 0 g.width g.height (λ x y. cond (b x y) (f x y) (colour_at g x y)) x y across down
    ∙ cond-false (b x y) (f x y) (colour_at g x y) out

-- drawn at the points of a second test too, with colours made of what stands there
pub part_more :
    (g : Grid ℕ) (b t c : ℕ → ℕ → Bool) (f : ℕ → ℕ → ℕ → ℕ)
    → ((x y : ℕ) → x < g.width → y < g.height → t x y ≡ true → b x y ≡ false)
    → ((x y : ℕ) → x < g.width → y < g.height → (t x y || b x y) ≡ c x y)
    → part (part g b (λ x y. f x y (colour_at g x y))) t
    (λ x y. f x y (colour_at (part g b (λ x y. f x y (colour_at g x y))) x y))
    ≡ part g c (λ x y. f x y (colour_at g x y))
part_more g b t c f fresh both =
    let h : ℕ → ℕ → ℕ = λ x y. f x y (colour_at g x y) in
    let p : Grid ℕ = part g b h in
    grid_from_agree g.width g.height (λ x y. cond (t x y) (f x y (colour_at p x y)) (colour_at p x y))
    (λ x y. cond (c x y) (h x y) (colour_at g x y))
    (λ x y across down.
    cond_same (t x y) (f x y (colour_at p x y)) (h x y) (colour_at p x y)
    (λ e. ap (f x y) (part_at g b h x y across down (fresh x y across down e)))
    ∙ (ap (cond (t x y) (h x y))
    (value_at-grid 0 g.width g.height (λ x y. cond (b x y) (h x y) (colour_at g x y)) x y across down)
    ∙ (or_else (t x y) (b x y) (h x y) (colour_at g x y)
    ∙ ap (λ t. cond t (h x y) (colour_at g x y)) (both x y across down))))

-- one point set
part_point :
    (g : Grid ℕ) (f : ℕ → ℕ → ℕ → ℕ) (x y c : ℕ) → c ≡ f x y (colour_at g x y)
    → with_colour g x y c ≡ part g (λ u v. u == x && v == y) (λ u v. f u v (colour_at g u v))
part_point g f x y c e =
    grid_from_agree g.width g.height (λ u v. cond (u == x && v == y) c (colour_at g u v))
    (λ u v. cond (u == x && v == y) (f u v (colour_at g u v)) (colour_at g u v))
    (λ u v across down.
    cond_same (u == x && v == y) c (f u v (colour_at g u v)) (colour_at g u v) (λ t.
    let both = and_parts (u == x) (v == y) t in
    let column : x ≡ u = sym (eqb-true u x both.0) in
    let line : y ≡ v = sym (eqb-true v y both.1) in
    e ∙ (ap (λ n. f n y (colour_at g n y)) column ∙ ap (λ n. f u n (colour_at g u n)) line)))

-- one point more
pub part_point_more :
    (g s : Grid ℕ) (b c : ℕ → ℕ → Bool) (f : ℕ → ℕ → ℕ → ℕ) (x y colour : ℕ)
    → s ≡ part g b (λ x y. f x y (colour_at g x y)) → colour ≡ f x y (colour_at s x y) → b x y ≡ false
    → ((u v : ℕ) → u < g.width → v < g.height → ((u == x && v == y) || b u v) ≡ c u v)
    → with_colour s x y colour ≡ part g c (λ x y. f x y (colour_at g x y))
part_point_more g s b c f x y colour so_far e fresh both =
    let t : ℕ → ℕ → Bool = λ u v. u == x && v == y in
    part_point s f x y colour e
    ∙ (ap (λ n. part n t (λ u v. f u v (colour_at n u v))) so_far
    ∙ part_more g b t c f
    (λ u v across down h.
    let same = and_parts (u == x) (v == y) h in
    ap (λ n. b n v) (eqb-true u x same.0) ∙ (ap (b x) (eqb-true v y same.1) ∙ fresh)) both)

-- the points of a row that a loop over its columns has passed
abbrev pub passed_columns : (ℕ → Bool) → ℕ → ℕ → ℕ → ℕ → Bool
passed_columns spanned row x u v = v == row && (nat_lt u x && spanned u)

-- the points that a loop over the rows has passed
abbrev pub passed_rows : (ℕ → Bool) → (ℕ → Bool) → ℕ → ℕ → ℕ → Bool
passed_rows columns rows y u v = (nat_lt v y && rows v) && columns u

-- a place more
place_more :
    (p : ℕ → Bool) (k n : ℕ) → p k ≡ true → (n == k || (nat_lt n k && p n)) ≡ (nat_lt n (k + 1) && p n)
place_more p k n e =
    elim (cases_order n k) [
      | inl same ↦
          let here : p n ≡ true = ap p same ∙ e in
          grind (arith, nat_tests)
      | inr other ↦ elim other [
        | inl below ↦ grind (arith, nat_tests)
        | inr above ↦ grind (arith, nat_tests)
      ]
    ]

-- before the first place that passes none has passed
pub none_before :
    (p : ℕ → Bool) (from to length k : ℕ)
    → ((n : ℕ) → n < length → (nat_le from n && nat_lt n to) ≡ p n) → k < length
    → (nat_lt k from && p k) ≡ false
none_before p from to length k same e =
    let here = same k e in
    grind (arith, nat_tests)

-- past the last place that passes all have passed
pub all_after :
    (p : ℕ → Bool) (from to length k n : ℕ)
    → ((n : ℕ) → n < length → (nat_le from n && nat_lt n to) ≡ p n) → to ≤ k → n < length
    → (nat_lt n k && p n) ≡ p n
all_after p from to length k n same past e =
    let here = same n e in
    grind (arith, nat_tests)

-- a place from the first to the last passes
pub place_passes :
    (p : ℕ → Bool) (from to length k : ℕ)
    → ((n : ℕ) → n < length → (nat_le from n && nat_lt n to) ≡ p n) → k < length → from ≤ k → k < to → p k ≡ true
place_passes p from to length k same e first last =
    let here = same k e in
    grind (arith, nat_tests)

in_a_row : (a d p : Bool) → ((a && d) || (d && p)) ≡ (d && (a || p))
in_a_row true true p = refl
in_a_row true false p = refl
in_a_row false d p = refl

pub column_more :
    (p : ℕ → Bool) (row x u v : ℕ) → p x ≡ true
    → ((u == x && v == row) || passed_columns p row x u v) ≡ passed_columns p row (x + 1) u v
column_more p row x u v e =
    in_a_row (u == x) (v == row) (nat_lt u x && p u) ∙ ap (λ b. v == row && b) (place_more p x u e)

of_columns : (d p s : Bool) → ((d && s) || (p && s)) ≡ ((d || p) && s)
of_columns true p true = refl
of_columns true p false = grind (arith, nat_tests)
of_columns false p s = refl

pub row_more :
    (columns rows : ℕ → Bool) (y u v : ℕ) → rows y ≡ true
    → ((v == y && columns u) || passed_rows columns rows y u v) ≡ passed_rows columns rows (y + 1) u v
row_more columns rows y u v e =
    of_columns (v == y) (nat_lt v y && rows v) (columns u)
    ∙ ap (λ b. b && columns u) (place_more rows y v e)

-- columns and rows as a rectangle's sides
pub as_sides : (p c d : Bool) → ((c && d) && p) ≡ ((p && c) && d)
as_sides true true d = grind (arith, nat_tests)
as_sides true false d = refl
as_sides false true true = refl
as_sides false true false = refl
as_sides false false d = refl
