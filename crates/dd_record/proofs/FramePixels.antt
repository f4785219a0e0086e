-- The pixels of a frame: one colour for each point of its rectangles.
use Rattle.std.proofs.Common.{◌≡◌, ℕ, zero, suc, ◌+◌, ◌<◌, ◌&&◌, nat_lt, List, [], ◌∷◌, ◌++◌, length, map, get_or, refl, sym, ap, ◌∙◌, arith, length-append}
use Rattle.std.specs.List.{AllByRecursion, range_with_len}
use Rattle.std.proofs.lemmas.Bool.{cond_both}
use Rattle.std.proofs.lemmas.List.Elements.{recursion_from_All}
use Rattle.std.proofs.lemmas.List.Sums.{sum-map, sum_by-cons}
use Rattle.dd_geom.specs.declared.rect.Rect.{Rect}
use Rattle.dd_geom.specs.Rect.{place, points}
use Rattle.dd_geom.specs.Grid.{Grid}
use Rattle.dd_geom.proofs.GridLemmas.{length-cells}
use Rattle.dd_grid.specs.declared.cell.TheConstants.{COLOURS}
use Rattle.dd_grid.specs.Drawing.{IsSurface, colour_at}
use Rattle.dd_record.specs.Dirt.{pixel_count}
use Rattle.dd_record.specs.Frames.{part, pixels_in}

-- ---- as many as points

pixel_count-cons : (r : Rect) (rs : List Rect) → pixel_count (r ∷ rs) ≡ points r + pixel_count rs
pixel_count-cons r rs =
    sum-map points (r ∷ rs) ∙ sum_by-cons points r rs ∙ ap (λ n. points r + n) (sym (sum-map points rs))

pub pixels_counted : (s : Grid ℕ) (rs : List Rect) → length (pixels_in s rs) ≡ pixel_count rs
unfolding pixels_in
pixels_counted s [] = refl
pixels_counted s (r ∷ rs) =
    length-append (part s r).cells (pixels_in s rs)
    ∙ ap (λ n. n + length (pixels_in s rs)) (length-cells _ _ (λ x y. colour_at s (place r.left + x) (place r.top + y)))
    ∙ ap (λ n. points r + n) (pixels_counted s rs)
    ∙ sym (pixel_count-cons r rs)

-- ---- each a colour

abbrev AreColours : List ℕ → Type 0
AreColours cs = AllByRecursion (λ c. c < COLOURS) cs

colour_got : (cs : List ℕ) (k : ℕ) → AreColours cs → get_or cs k 0 < COLOURS
colour_got [] k colours = omega arith
colour_got (c ∷ cs) zero colours = colours.0
colour_got (c ∷ cs) (suc k) colours = colour_got cs k colours.1

-- black outside a surface is one too
colour_below : (s : Grid ℕ) → AreColours s.cells → (x y : ℕ) → colour_at s x y < COLOURS
colour_below s colours x y =
    cond_both (nat_lt x s.width && nat_lt y s.height) _ 0 (λ c. c < COLOURS)
    (λ _. colour_got s.cells _ colours) (λ _. omega arith)

map_colours : (f : ℕ → ℕ) → ((k : ℕ) → f k < COLOURS) → (ks : List ℕ) → AreColours (map f ks)
map_colours f below [] = tt
map_colours f below (k ∷ ks) = (below k, map_colours f below ks)

append_colours : (cs ds : List ℕ) → AreColours cs → AreColours ds → AreColours (cs ++ ds)
append_colours [] ds first rest = rest
append_colours (c ∷ cs) ds first rest = (first.0, append_colours cs ds first.1 rest)

pixels_below : (s : Grid ℕ) (rs : List Rect) → AreColours s.cells → AreColours (pixels_in s rs)
unfolding pixels_in
pixels_below s [] colours = tt
pixels_below s (r ∷ rs) colours =
    append_colours (part s r).cells (pixels_in s rs)
    (map_colours _ (λ k. colour_below s colours _ _) (range_with_len 0 _))
    (pixels_below s rs colours)

pub pixels_are_colours : (s : Grid ℕ) (rs : List Rect) → IsSurface s → AreColours (pixels_in s rs)
pixels_are_colours s rs is = pixels_below s rs (recursion_from_All (λ c. c < COLOURS) s.cells is.colours)
