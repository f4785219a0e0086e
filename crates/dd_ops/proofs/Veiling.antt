-- The veil of operations draws what is seen and hides what is hidden, and fits where they do.
use Rattle.std.proofs.Common.{◌≡◌, ℕ, ◌+◌, Bool, true, false, ◌&&◌, cond, not, nat_lt, eqb, List, [], ◌∷◌, map, length, Option, Some, None, refl, sym, ap, ◌∙◌, arith}
use Rattle.std.specs.List.{position_or_len}
use Rattle.std.proofs.lemmas.Bool.{and_from, and_parts}
use Rattle.std.proofs.lemmas.List.{length-map}
use Rattle.dd_geom.specs.declared.rect.Rect.{Rect}
use Rattle.dd_geom.specs.Rect.{has, is_inside, points, source_x, source_y}
use Rattle.dd_geom.specs.Grid.{Grid, grid, value_at}
use Rattle.dd_grid.specs.Cell.{Cell, plain, covered_cell}
use Rattle.dd_grid.specs.Drawing.{seen, hidden_points, cell_at, image_at}
use Rattle.dd_grid.proofs.SeenLemmas.{value_at-mapped, mapped-drawn}
use Rattle.dd_ops.specs.declared.operations.Op.{Op}
use Rattle.dd_ops.specs.declared.operations.Op.TheVariants.{Fill, Blit, Cover, Scroll}
use Rattle.dd_ops.specs.Operations.{are_colours, fits, all_fit, drawn_by, seen_drawn_by, seen_drawn}
use Rattle.dd_ops.specs.Veil.{veiled_by, veiled, covers_are_colours, covers_coloured, VeilHides, VeilIsSeen, VeilIsHidden, FitsVeiled, VeilUnfit}
use Rattle.dd_ops.proofs.Seen.{seen-drawn}

-- as many black colours
abbrev blacked : List ℕ → List ℕ
blacked colours = map (λ c. 0) colours

black_alike : (some other : List ℕ) → length some ≡ length other → blacked some ≡ blacked other
black_alike [] [] e = refl
black_alike [] (y ∷ ys) e = absurd (omega (arith, e))
black_alike (x ∷ xs) [] e = absurd (omega (arith, e))
black_alike (x ∷ xs) (y ∷ ys) e = ap (λ (cs : List ℕ). 0 ∷ cs) (black_alike xs ys (omega (arith, e)))

pub cover-veiled : VeilHides
cover-veiled rect some other e = ap (λ (cs : List ℕ). Cover rect cs) (black_alike some other e)

-- what is drawn on a surface doesn't look at what a cover hides
seen_same : (s : Grid ℕ) (op : Op) → seen_drawn_by s (veiled_by op) ≡ seen_drawn_by s op
seen_same s (Fill rect colour) = refl
seen_same s (Blit rect colours) = refl
seen_same s (Cover rect colours) = refl
seen_same s (Scroll mv) = refl

seen_all : (s : Grid ℕ) (ops : List Op) → seen_drawn s (veiled ops) ≡ seen_drawn s ops
seen_all s [] = refl
seen_all s (op ∷ ops) =
    ap (λ t. seen_drawn t (veiled ops)) (seen_same s op) ∙ seen_all (seen_drawn_by s op) ops

pub seen-veiled : VeilIsSeen
seen-veiled p q ops same =
    seen-drawn q (veiled ops) ∙ ap (λ s. seen_drawn s (veiled ops)) same ∙ seen_all (seen p) ops
    ∙ sym (seen-drawn p ops)

-- what one operation makes of hidden points
abbrev hides : Cell → Bool
hides c = c.hidden

abbrev is_hidden : Grid Bool → ℕ → ℕ → Bool
is_hidden = value_at false

abbrev drawn_over : Grid Bool → Rect → Bool → Grid Bool
drawn_over g r b = grid g.width g.height (λ x y. cond (has r x y) b (is_hidden g x y))

abbrev hidden_drawn_by : Grid Bool → Op → Grid Bool
hidden_drawn_by g (Fill rect colour) = drawn_over g rect false
hidden_drawn_by g (Blit rect colours) = drawn_over g rect false
hidden_drawn_by g (Cover rect colours) = drawn_over g rect true
hidden_drawn_by g (Scroll mv) =
    grid g.width g.height
    (λ x y. cond (has mv.dest x y) (is_hidden g (source_x mv x) (source_y mv y)) (is_hidden g x y))

hidden_at : (p : Grid Cell) (x y : ℕ) → hides (cell_at p x y) ≡ is_hidden (hidden_points p) x y
hidden_at p x y = sym (value_at-mapped hides (plain 0) p x y)

hidden-drawn_by : (p : Grid Cell) (op : Op) → hidden_points (drawn_by p op) ≡ hidden_drawn_by (hidden_points p) op
hidden-drawn_by p (Fill r c) =
    mapped-drawn hides (plain 0) p r (λ _ _. plain c) (cell_at p) (λ _ _. false) (is_hidden (hidden_points p))
    (λ _ _. refl) (hidden_at p)
hidden-drawn_by p (Blit r cs) =
    mapped-drawn hides (plain 0) p r (λ x y. plain (image_at r cs x y)) (cell_at p) (λ _ _. false)
    (is_hidden (hidden_points p)) (λ _ _. refl) (hidden_at p)
hidden-drawn_by p (Cover r cs) =
    mapped-drawn hides (plain 0) p r (λ x y. covered_cell (image_at r cs x y)) (cell_at p) (λ _ _. true)
    (is_hidden (hidden_points p)) (λ _ _. refl) (hidden_at p)
hidden-drawn_by p (Scroll m) =
    mapped-drawn hides (plain 0) p m.dest (λ x y. cell_at p (source_x m x) (source_y m y)) (cell_at p)
    (λ x y. is_hidden (hidden_points p) (source_x m x) (source_y m y)) (is_hidden (hidden_points p))
    (λ x y. hidden_at p (source_x m x) (source_y m y)) (hidden_at p)

-- it doesn't look at what a cover hides either
hidden_same : (g : Grid Bool) (op : Op) → hidden_drawn_by g (veiled_by op) ≡ hidden_drawn_by g op
hidden_same g (Fill rect colour) = refl
hidden_same g (Blit rect colours) = refl
hidden_same g (Cover rect colours) = refl
hidden_same g (Scroll mv) = refl

hidden_one : (p q : Grid Cell) (op : Op) → hidden_points q ≡ hidden_points p
    → hidden_points (drawn_by q (veiled_by op)) ≡ hidden_points (drawn_by p op)
hidden_one p q op same =
    hidden-drawn_by q (veiled_by op) ∙ ap (λ g. hidden_drawn_by g (veiled_by op)) same
    ∙ hidden_same (hidden_points p) op ∙ sym (hidden-drawn_by p op)

pub hidden-veiled : VeilIsHidden
hidden-veiled p q [] same = same
hidden-veiled p q (op ∷ ops) same =
    hidden-veiled (drawn_by p op) (drawn_by q (veiled_by op)) ops (hidden_one p q op same)

-- black is a colour
black_colours : (cs : List ℕ) → are_colours (blacked cs) ≡ true
black_colours [] = refl
black_colours (c ∷ cs) = black_colours cs

-- an image of as many colours fits where this one does
image_same : (w h : ℕ) (rect : Rect) (cs : List ℕ) → are_colours cs ≡ true
    → fits w h (Cover rect (blacked cs)) ≡ fits w h (Cover rect cs)
image_same w h rect cs t =
    ap (λ n. (is_inside rect w h && eqb n (points rect)) && are_colours (blacked cs))
    (length-map {B = ℕ} cs (λ c. 0))
    ∙ ap (λ b. (is_inside rect w h && eqb (length cs) (points rect)) && b) (black_colours cs ∙ sym t)

-- what fits hides colours
pub fit_coloured : (w h : ℕ) (op : Op) → fits w h op ≡ true → covers_are_colours op ≡ true
fit_coloured w h (Fill rect colour) t = refl
fit_coloured w h (Blit rect colours) t = refl
fit_coloured w h (Cover rect colours) t = (and_parts _ (are_colours colours) t).1
fit_coloured w h (Scroll mv) t = refl

pub all_fit_coloured : (w h : ℕ) (ops : List Op) → all_fit w h ops ≡ true → covers_coloured ops ≡ true
all_fit_coloured w h [] t = refl
all_fit_coloured w h (op ∷ ops) t =
    let both = and_parts (fits w h op) (all_fit w h ops) t in
    and_from _ _ (fit_coloured w h op both.0) (all_fit_coloured w h ops both.1)

fits_same : (w h : ℕ) (op : Op) → covers_are_colours op ≡ true → fits w h (veiled_by op) ≡ fits w h op
fits_same w h (Fill rect colour) t = refl
fits_same w h (Blit rect colours) t = refl
fits_same w h (Cover rect colours) t = image_same w h rect colours t
fits_same w h (Scroll mv) t = refl

pub fits-veiled : (w h : ℕ) (op : Op) → FitsVeiled w h op
fits-veiled w h op =
    record { still = λ t. fits_same w h op (fit_coloured w h op t) ∙ t; same = fits_same w h op }

-- the first that doesn't fit
abbrev misfits : ℕ → ℕ → Op → Bool
misfits w h op = not (fits w h op)

first_same : (w h : ℕ) (ops : List Op) → covers_coloured ops ≡ true
    → position_or_len (misfits w h) (veiled ops) ≡ position_or_len (misfits w h) ops
first_same w h [] t = refl
first_same w h (op ∷ ops) t =
    let both = and_parts (covers_are_colours op) (covers_coloured ops) t in
    ap (λ b. cond (not (not b)) (1 + position_or_len (misfits w h) (veiled ops)) 0) (fits_same w h op both.0)
    ∙ ap (λ n. cond (not (misfits w h op)) (1 + n) 0) (first_same w h ops both.1)

abbrev place_within : ℕ → ℕ → Option ℕ
place_within place long = cond (nat_lt place long) (Some place) None

pub unfit-veiled : VeilUnfit
unfit-veiled w h ops t =
    ap (λ n. place_within n (length (veiled ops))) (first_same w h ops t)
    ∙ ap (place_within (position_or_len (misfits w h) ops)) (length-map ops veiled_by)
