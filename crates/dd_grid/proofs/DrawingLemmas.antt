-- What is drawn on the cells of a picture or a surface is the grid that its definition names.
use Rattle.std.proofs.Common.{◌≡◌, ℕ, ◌+◌, ◌-◌, ◌*◌, ◌/◌, ◌%◌, ◌<◌, ◌≤◌, ◌&&◌, Bool, true, false, cond, eqb, leb, ltb, List, map, length, get_or, set, replicate, slice_range, sym, ap, ◌∙◌, subst, inl, inr, arith}
use Rattle.std.proofs.lemmas.Bool.{eq-eqb, eqb-true, leb-true, ltb-true, and_from, and_parts, cond-true, cond-false, cases_eq, false_from_ne_true}
use Rattle.std.proofs.lemmas.List.{get_or-map, get_or-replicate, get_or-set_same, get_or-set_other, length-set, length-replicate}
use Rattle.std.proofs.lemmas.List.Elements.{All-from_get_or}
use Rattle.std.proofs.lemmas.List.Folds.{list_any_none}
use Rattle.std.proofs.lemmas.List.Edits.{get_or-between, length-between}
use Rattle.std.proofs.lemmas.Nat.{div-add-mod', div-mul-add, mod-mul-add, mul-add-lt}
use Rattle.dd_geom.specs.declared.rect.Rect.{Rect}
use Rattle.dd_geom.specs.declared.rect.Sides.{Sides}
use Rattle.dd_geom.specs.Rect.{between, has, sides}
use Rattle.dd_geom.specs.Grid.{Grid, grid, value_at}
use Rattle.dd_geom.proofs.GridLemmas.{grid_from_places, grid_from_agree, value_at-cell, value_at-place}
use Rattle.dd_geom.proofs.PaintLemmas.{IsDrawn, IsPainted, cond_same, grid_from_drawn, grid_from_painted}
use Rattle.dd_grid.specs.Cell.{Cell, cell_of, plain, seen_cell}
use Rattle.dd_grid.specs.Drawing.{ShowsAll, any_hidden, cell_at, colour_at, filled, image_at, place_in, with_colour, taken}

-- cells of one value are the grid of that value
pub grid_from_replicate :
    {A : Type 0} (w h : ℕ) (v : A) (cells : List A) → cells ≡ replicate (w * h) v
    → record { width = w; height = h; cells = cells } ≡ grid w h (λ _ _. v)
grid_from_replicate {A} w h v cells e =
    grid_from_places v w h (λ _ _. v) cells (ap length e ∙ length-replicate (w * h) v) (λ k within.
    ap (λ (xs : List A). get_or xs k v) e ∙ get_or-replicate (w * h) k v v within)

-- painted cells are the grid with a rectangle of one value
pub rect_from_painted :
    {A : Type 0} (d : A) (g : Grid A) (r : Rect) (s : Sides) (v : A) (old new : List A)
    → s ≡ sides r → old ≡ g.cells
    → length g.cells ≡ g.width * g.height → length new ≡ g.width * g.height → IsPainted g.width s v old new
    → record { width = g.width; height = g.height; cells = new }
    ≡ grid g.width g.height (λ x y. cond (has r x y) v (value_at d g x y))
rect_from_painted {A} d g r s v old new at_sides from long_old long_new painted =
    let P : List A → Type 0 = λ cs. IsPainted g.width s v cs new in
    grid_from_painted d g.width g.height s v g.cells new long_old long_new (subst P from painted)
    ∙ ap (λ n. grid g.width g.height (λ x y. cond (between n x y) v (value_at d g x y))) at_sides

-- and the filled picture, where the value is a plain cell
pub filled_from_painted :
    (p : Grid Cell) (r : Rect) (c : ℕ) (s : Sides) (v : Cell) (old new : List Cell)
    → s ≡ sides r → v ≡ plain c → old ≡ p.cells
    → length p.cells ≡ p.width * p.height → length new ≡ p.width * p.height → IsPainted p.width s v old new
    → record { width = p.width; height = p.height; cells = new } ≡ filled p r c
filled_from_painted p r c s v old new at_sides at_colour from long_old long_new drawn =
    rect_from_painted (plain 0) p r s v old new at_sides from long_old long_new drawn
    ∙ ap (λ n. grid p.width p.height (λ x y. cond (has r x y) n (cell_at p x y))) at_colour

-- one cell set is the surface with that colour
pub with_colour_from_set :
    (s : Grid ℕ) (x y c : ℕ) → x < s.width → y < s.height → length s.cells ≡ s.width * s.height
    → record { width = s.width; height = s.height; cells = set s.cells (y * s.width + x) c } ≡ with_colour s x y c
with_colour_from_set s x y c across down long =
    let w : ℕ = s.width in
    let i : ℕ = y * w + x in
    let f = λ (at_x at_y : ℕ). cond (eqb at_x x && eqb at_y y) c (colour_at s at_x at_y) in
    let room : i < w * s.height = mul-add-lt y w x s.height down across in
    grid_from_places 0 w s.height f (set s.cells i c) (length-set s.cells i c ∙ long) (λ k within.
    elim (cases_eq k i) [
      | inl here ↦
          let column : k % w ≡ x = ap (λ n. n % w) here ∙ mod-mul-add y w x across in
          let line : k / w ≡ y = ap (λ n. n / w) here ∙ div-mul-add y w x across in
          ap (λ n. get_or (set s.cells i c) n 0) here
          ∙ (get_or-set_same s.cells i c 0 (omega arith)
          ∙ sym (cond-true _ c (colour_at s (k % w) (k / w))
          (and_from _ _ (eq-eqb (k % w) x column) (eq-eqb (k / w) y line))))
      | inr elsewhere ↦
          let apart : (eqb (k % w) x && eqb (k / w) y) ≡ false =
          false_from_ne_true _ (λ t.
          let both = and_parts (eqb (k % w) x) (eqb (k / w) y) t in
          elsewhere (sym (div-add-mod' k w)
          ∙ (ap (λ n. k / w * w + n) (eqb-true (k % w) x both.0)
          ∙ ap (λ n. n * w + x) (eqb-true (k / w) y both.1)))) in
          get_or-set_other s.cells i k c 0 elsewhere
          ∙ (sym (value_at-cell 0 w s.height s.cells k within)
          ∙ sym (cond-false _ c (colour_at s (k % w) (k / w)) apart))
    ])

-- what is seen of a run of a picture's row
pub get_or-seen_run :
    (p : Grid Cell) (y from to : ℕ) (cells : List Cell) (i d : ℕ)
    → cells ≡ slice_range p.cells (y * p.width + from) (y * p.width + to) → i < length cells
    → from + i < to → to ≤ p.width → y < p.height
    → get_or (map seen_cell cells) i d ≡ seen_cell (cell_at p (from + i) y)
get_or-seen_run p y from to cells i d e within inside across down =
    get_or-map seen_cell cells i (plain 0) d within
    ∙ ap seen_cell
    (ap (λ (cs : List Cell). get_or cs i (plain 0)) e
    ∙ (get_or-between p.cells (y * p.width + from) (y * p.width + to) i (plain 0) (omega arith)
    ∙ (ap (λ n. get_or p.cells n (plain 0)) (omega arith)
    ∙ sym (value_at-place (plain 0) p.width p.height p.cells (from + i) y (omega arith) down))))

-- cells that are drawn with what is seen are the taken surface
pub taken_from_drawn :
    (t : Grid ℕ) (r : Rect) (p : Grid Cell) (s : Sides) (old new : List ℕ)
    → s ≡ sides r → old ≡ t.cells → length t.cells ≡ t.width * t.height → length new ≡ t.width * t.height
    → IsDrawn t.width s (λ x y. seen_cell (cell_at p x y)) old new
    → record { width = t.width; height = t.height; cells = new } ≡ taken t r p
taken_from_drawn t r p s old new at_sides from long_old long_new drawn =
    let f = λ (x y : ℕ). seen_cell (cell_at p x y) in
    let P : List ℕ → Type 0 = λ cs. IsDrawn t.width s f cs new in
    grid_from_drawn 0 t.width t.height s f t.cells new long_old long_new (subst P from drawn)
    ∙ ap (λ n. grid t.width t.height (λ x y. cond (between n x y) (f x y) (colour_at t x y))) at_sides

-- the cells of a run of colours
pub get_or-colour_run :
    (colours : List ℕ) (from to place i : ℕ) (hidden : Bool) (d : Cell) → to ≤ length colours → from + i < to
    → from + i ≡ place
    → get_or (map (cell_of hidden) (slice_range colours from to)) i d ≡ cell_of hidden (get_or colours place 0)
get_or-colour_run colours from to place i hidden d fits across e =
    let long = length-between colours from to fits in
    get_or-map (cell_of hidden) (slice_range colours from to) i 0 d (omega arith)
    ∙ ap (cell_of hidden)
    (get_or-between colours from to i 0 (omega arith) ∙ ap (λ n. get_or colours n 0) e)

-- at a point of the rectangle, the colour of an image is the one at the point's place
pub image_at-place :
    (r : Rect) (colours : List ℕ) (x y : ℕ) → has r x y ≡ true
    → image_at r colours x y ≡ get_or colours (place_in (sides r) x y) 0
image_at-place r colours x y t =
    let s : Sides = sides r in
    let upper = and_parts (leb s.left x && ltb x s.right && leb s.top y) (ltb y s.bottom) t in
    let lower = and_parts (leb s.left x && ltb x s.right) (leb s.top y) upper.0 in
    let sideways = and_parts (leb s.left x) (ltb x s.right) lower.0 in
    let left : s.left ≤ x = leb-true s.left x sideways.0 in
    let right : x < s.right = ltb-true x s.right sideways.1 in
    let top : s.top ≤ y = leb-true s.top y lower.1 in
    let bottom : y < s.bottom = ltb-true y s.bottom upper.1 in
    value_at-place 0 (s.right - s.left) (s.bottom - s.top) colours (x - s.left) (y - s.top) (omega arith) (omega arith)

-- cells that are drawn with the colours of an image are the grid with that image
pub image_from_drawn :
    {A : Type 0} (d : A) (of : ℕ → A) (g : Grid A) (r : Rect) (colours : List ℕ) (s : Sides) (old new : List A)
    → s ≡ sides r → old ≡ g.cells → length g.cells ≡ g.width * g.height → length new ≡ g.width * g.height
    → IsDrawn g.width s (λ x y. of (get_or colours (place_in s x y) 0)) old new
    → record { width = g.width; height = g.height; cells = new }
    ≡ grid g.width g.height (λ x y. cond (has r x y) (of (image_at r colours x y)) (value_at d g x y))
image_from_drawn {A} d of g r colours s old new at_sides from long_old long_new drawn =
    let f : Sides → ℕ → ℕ → A = λ n x y. of (get_or colours (place_in n x y) 0) in
    let h : Sides → ℕ → ℕ → A = λ n x y. cond (between n x y) (f n x y) (value_at d g x y) in
    let P : List A → Type 0 = λ cs. IsDrawn g.width s (f s) cs new in
    grid_from_drawn d g.width g.height s (f s) g.cells new long_old long_new (subst P from drawn)
    ∙ (ap (λ n. grid g.width g.height (h n)) at_sides
    ∙ grid_from_agree g.width g.height (h (sides r))
    (λ x y. cond (has r x y) (of (image_at r colours x y)) (value_at d g x y))
    (λ x y across down.
    cond_same (has r x y) (f (sides r) x y) (of (image_at r colours x y)) (value_at d g x y)
    (λ t. ap of (sym (image_at-place r colours x y t)))))

-- a picture that shows all has no hidden cell
pub any_hidden-shows_all :
    (p : Grid Cell) → length p.cells ≡ p.width * p.height → ShowsAll p → any_hidden p ≡ false
any_hidden-shows_all p long shows =
    list_any_none (λ (c : Cell). c.hidden) p.cells
    (All-from_get_or (λ (c : Cell). c.hidden ≡ false) p.cells (plain 0) (λ k e.
    ap (λ (c : Cell). c.hidden) (sym (value_at-cell (plain 0) p.width p.height p.cells k (omega arith)))
    ∙ shows (k % p.width) (k / p.width)))
