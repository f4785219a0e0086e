-- The hidden points of a picture: those of the picture before, brought forward, and none where no cell is hidden.
use Rattle.std.proofs.Common.{◌≡◌, ℕ, ◌+◌, ◌*◌, ◌<◌, ◌↔◌, Bool, true, false, not, ◌&&◌, ◌||◌, cond, [], ◌∷◌, length, get_or, IsTrue, refl, sym, ap, ◌∙◌, arith, inl, inr}
use Rattle.std.proofs.lemmas.Bool.{cases_lt, cases_Bool, both_ways, false≢true}
use Rattle.std.proofs.lemmas.Nat.{mul-add-lt}
use Rattle.std.proofs.lemmas.List.Folds.{list_any_at}
use Rattle.dd_geom.specs.declared.rect.Rect.{Rect}
use Rattle.dd_geom.specs.declared.rect.Move.{Move}
use Rattle.dd_geom.specs.Rect.{has, source_x, source_y}
use Rattle.dd_geom.specs.Grid.{Grid, grid}
use Rattle.dd_geom.proofs.GridLemmas.{grid_from_agree, value_at-grid, value_at-right, value_at-below, value_at-place}
use Rattle.dd_grid.specs.Cell.{Cell, plain, covered_cell}
use Rattle.dd_grid.specs.Drawing.{cell_at, image_at, moved_cells, any_hidden, hidden_points}
use Rattle.dd_grid.proofs.DrawingLemmas.{any_hidden-shows_all}
use Rattle.dd_bits.specs.Area.{IsNowhere, is_in, nowhere, with_rect, without_rect, moved_over}
use Rattle.dd_ops.specs.declared.operations.Op.{Op}
use Rattle.dd_ops.specs.declared.operations.Op.TheVariants.{Fill, Blit, Cover, Scroll}
use Rattle.dd_ops.specs.Operations.{drawn_by}
use Rattle.dd_acc.specs.Hidden.{hidden_by, hidden_after, HiddenFollows, NoneHidden}
use Rattle.dd_acc.proofs.Nowhere.{is_in-nowhere}

-- the empty set has no point to take out, and none to carry
without_none : (b : Bool) → (not b && false) ≡ false
without_none true = refl
without_none false = refl

both_none : (b a c : Bool) → a ≡ false → c ≡ false → cond b a c ≡ false
both_none true a c e f = e
both_none false a c e f = f

shown_nowhere : (w h : ℕ) (r : Rect) → without_rect (nowhere w h) r ≡ nowhere w h
shown_nowhere w h r =
    grid_from_agree w h (λ x y. not (has r x y) && is_in (nowhere w h) x y) (λ x y. false) (λ x y a b.
    ap (λ v. not (has r x y) && v) (is_in-nowhere w h x y) ∙ without_none (has r x y))

carried_nowhere : (w h : ℕ) (m : Move) → moved_over (nowhere w h) m ≡ nowhere w h
carried_nowhere w h m =
    grid_from_agree w h
    (λ x y. cond (has m.dest x y) (is_in (nowhere w h) (source_x m x) (source_y m y)) (is_in (nowhere w h) x y))
    (λ x y. false) (λ x y a b.
    both_none (has m.dest x y) _ _ (is_in-nowhere w h (source_x m x) (source_y m y)) (is_in-nowhere w h x y))

pub show_none : (g : Grid Bool) (r : Rect) → IsNowhere g → g ≡ without_rect g r
show_none g r e = e ∙ sym (shown_nowhere g.width g.height r) ∙ ap (λ v. without_rect v r) (sym e)

pub carry_none : (g : Grid Bool) (m : Move) → IsNowhere g → g ≡ moved_over g m
carry_none g m e = e ∙ sym (carried_nowhere g.width g.height m) ∙ ap (λ v. moved_over v m) (sym e)

-- a point is hidden where its cell is; none outside the picture is
pub hidden_at : (p : Grid Cell) (x y : ℕ) → is_in (hidden_points p) x y ≡ (cell_at p x y).hidden
hidden_at p x y =
    elim (cases_lt x p.width) [
      | inl a ↦ elim (cases_lt y p.height) [
        | inl b ↦ value_at-grid false p.width p.height (λ u v. (cell_at p u v).hidden) x y a b
        | inr b ↦ value_at-below false (hidden_points p) x y b
            ∙ ap (λ (c : Cell). c.hidden) (sym (value_at-below (plain 0) p x y b))
      ]
      | inr a ↦ value_at-right false (hidden_points p) x y a
          ∙ ap (λ (c : Cell). c.hidden) (sym (value_at-right (plain 0) p x y a))
    ]

-- the hidden points of a picture are those of its cells, point by point
points_of : (w h : ℕ) (f : ℕ → ℕ → Cell) (g : ℕ → ℕ → Bool) → ((x y : ℕ) → (f x y).hidden ≡ g x y)
    → hidden_points (grid w h f) ≡ grid w h g
points_of w h f g same =
    grid_from_agree w h (λ x y. (cell_at (grid w h f) x y).hidden) g (λ x y a b.
    ap (λ (c : Cell). c.hidden) (value_at-grid (plain 0) w h f x y a b) ∙ same x y)

shown_if : (b old : Bool) (c cell : Cell) → c.hidden ≡ false → cell.hidden ≡ old
    → (cond b c cell).hidden ≡ (not b && old)
shown_if true old c cell e f = e
shown_if false old c cell e f = f

hidden_if : (b old : Bool) (c cell : Cell) → c.hidden ≡ true → cell.hidden ≡ old
    → (cond b c cell).hidden ≡ (b || old)
hidden_if true old c cell e f = e
hidden_if false old c cell e f = f

either_if : (b one other : Bool) (c cell : Cell) → c.hidden ≡ one → cell.hidden ≡ other
    → (cond b c cell).hidden ≡ cond b one other
either_if true one other c cell e f = e
either_if false one other c cell e f = f

shown_points :
    (p : Grid Cell) (r : Rect) (c : ℕ → ℕ → Cell) → ((x y : ℕ) → (c x y).hidden ≡ false)
    → hidden_points (grid p.width p.height (λ x y. cond (has r x y) (c x y) (cell_at p x y)))
    ≡ without_rect (hidden_points p) r
shown_points p r c shows =
    points_of p.width p.height (λ x y. cond (has r x y) (c x y) (cell_at p x y))
    (λ x y. not (has r x y) && is_in (hidden_points p) x y) (λ x y.
    shown_if (has r x y) (is_in (hidden_points p) x y) (c x y) (cell_at p x y) (shows x y) (sym (hidden_at p x y)))

covered_points :
    (p : Grid Cell) (r : Rect) (c : ℕ → ℕ → Cell) → ((x y : ℕ) → (c x y).hidden ≡ true)
    → hidden_points (grid p.width p.height (λ x y. cond (has r x y) (c x y) (cell_at p x y)))
    ≡ with_rect (hidden_points p) r
covered_points p r c hides =
    points_of p.width p.height (λ x y. cond (has r x y) (c x y) (cell_at p x y))
    (λ x y. has r x y || is_in (hidden_points p) x y) (λ x y.
    hidden_if (has r x y) (is_in (hidden_points p) x y) (c x y) (cell_at p x y) (hides x y) (sym (hidden_at p x y)))

moved_points : (p : Grid Cell) (m : Move) → hidden_points (moved_cells p m) ≡ moved_over (hidden_points p) m
moved_points p m =
    let g : Grid Bool = hidden_points p in
    points_of p.width p.height
    (λ x y. cond (has m.dest x y) (cell_at p (source_x m x) (source_y m y)) (cell_at p x y))
    (λ x y. cond (has m.dest x y) (is_in g (source_x m x) (source_y m y)) (is_in g x y)) (λ x y.
    either_if (has m.dest x y) (is_in g (source_x m x) (source_y m y)) (is_in g x y)
    (cell_at p (source_x m x) (source_y m y)) (cell_at p x y)
    (sym (hidden_at p (source_x m x) (source_y m y))) (sym (hidden_at p x y)))

-- the hidden points after one operation, and after a list of them
follows_one : (p : Grid Cell) (op : Op) → hidden_points (drawn_by p op) ≡ hidden_by (hidden_points p) op
follows_one p (Fill r c) = shown_points p r (λ x y. plain c) (λ x y. refl)
follows_one p (Blit r cs) = shown_points p r (λ x y. plain (image_at r cs x y)) (λ x y. refl)
follows_one p (Cover r cs) = covered_points p r (λ x y. covered_cell (image_at r cs x y)) (λ x y. refl)
follows_one p (Scroll m) = moved_points p m

pub follows : HiddenFollows
follows p [] = refl
follows p (op ∷ ops) = follows (drawn_by p op) ops ∙ ap (λ g. hidden_after g ops) (follows_one p op)

-- with no hidden cell there is no hidden point, and the other way round
cell_shown : (p : Grid Cell) (k : ℕ) → any_hidden p ≡ false → k < length p.cells
    → (get_or p.cells k (plain 0)).hidden ≡ false
cell_shown p k none l =
    elim (cases_Bool (get_or p.cells k (plain 0)).hidden) [
      | inl t ↦ absurd (both_ways (any_hidden p) none (list_any_at (λ (c : Cell). c.hidden) p.cells k (plain 0) l t))
      | inr e ↦ e
    ]

none_to :
    (p : Grid Cell) → length p.cells ≡ p.width * p.height → any_hidden p ≡ false → IsNowhere (hidden_points p)
none_to p long none =
    grid_from_agree p.width p.height (λ x y. (cell_at p x y).hidden) (λ x y. false) (λ x y a b.
    ap (λ (c : Cell). c.hidden) (value_at-place (plain 0) p.width p.height p.cells x y a b)
    ∙ cell_shown p (y * p.width + x) none (omega (arith, mul-add-lt y p.width x p.height b a)))

none_from :
    (p : Grid Cell) → length p.cells ≡ p.width * p.height → IsNowhere (hidden_points p) → any_hidden p ≡ false
none_from p long none =
    any_hidden-shows_all p long (λ x y.
    sym (hidden_at p x y) ∙ ap (λ g. is_in g x y) none ∙ is_in-nowhere p.width p.height x y)

pub none_hidden : NoneHidden
none_hidden p long = (none_to p long, none_from p long)

-- what tells that the hidden points are the empty set tells whether a cell is hidden
pub hides_unless :
    (p : Grid Cell) (b : Bool) → length p.cells ≡ p.width * p.height → IsTrue b ↔ IsNowhere (hidden_points p)
    → any_hidden p ≡ not b
hides_unless p true long test = none_from p long (test.0 refl)
hides_unless p false long test =
    elim (cases_Bool (any_hidden p)) [
      | inl t ↦ t
      | inr e ↦ absurd (false≢true (test.1 (none_to p long e)))
    ]
