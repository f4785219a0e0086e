-- Moves and pasted rectangles, one after another, as a loop does them; and a surface copied row by row.
use Rattle.std.proofs.Common.{◌≡◌, ℕ, ◌+◌, ◌<◌, suc, List, [], ◌∷◌, length, take, drop, get_or, sym, ap, ◌∙◌, arith}
use Rattle.std.proofs.Math.Seq.{drop-cons}
use Rattle.std.proofs.lemmas.List.{take_more}
use Rattle.std.proofs.lemmas.List.Sums.{fold-append, sum-map, sum_by-cons}
use Rattle.dd_geom.specs.declared.rect.Move.{Move}
use Rattle.dd_geom.specs.declared.rect.Rect.{Rect}
use Rattle.dd_geom.specs.Rect.{points}
use Rattle.dd_geom.specs.Grid.{Grid}
use Rattle.dd_grid.specs.Drawing.{moved, imaged}
use Rattle.dd_acc.specs.Rebuild.{all_moved}
use Rattle.dd_record.specs.Dirt.{pixel_count}
use Rattle.dd_view.specs.Playing.{pasted}

pub moved_more : (s : Grid ℕ) (moves : List Move) (i : ℕ) (d : Move) → i < length moves
    → moved (all_moved s (take i moves)) (get_or moves i d) ≡ all_moved s (take (i + 1) moves)
moved_more s moves i d within =
    sym (fold-append moved s (take i moves) (get_or moves i d ∷ []))
    ∙ ap (all_moved s) (sym (take_more moves i d within))

-- the rectangles from a place on are the one there and those behind it
pub rects_from : (rects : List Rect) (i : ℕ) (d : Rect) → i < length rects
    → drop i rects ≡ get_or rects i d ∷ drop (i + 1) rects
rects_from rects i d within =
    let place : suc i ≡ i + 1 = omega arith in
    drop-cons rects i d within ∙ ap (λ (k : ℕ). get_or rects i d ∷ drop k rects) place

pub count_from : (rects : List Rect) (i : ℕ) (d : Rect) → i < length rects
    → pixel_count (drop i rects) ≡ points (get_or rects i d) + pixel_count (drop (i + 1) rects)
count_from rects i d within =
    ap pixel_count (rects_from rects i d within)
    ∙ sum-map points (get_or rects i d ∷ drop (i + 1) rects)
    ∙ sum_by-cons points (get_or rects i d) (drop (i + 1) rects)
    ∙ ap (λ (n : ℕ). points (get_or rects i d) + n) (sym (sum-map points (drop (i + 1) rects)))

pub pasted_from : (s : Grid ℕ) (rects : List Rect) (pixels : List ℕ) (i : ℕ) (d : Rect) → i < length rects
    → pasted s (drop i rects) pixels
    ≡ pasted (imaged s (get_or rects i d) (take (points (get_or rects i d)) pixels)) (drop (i + 1) rects)
    (drop (points (get_or rects i d)) pixels)
pasted_from s rects pixels i d within = ap (λ (rs : List Rect). pasted s rs pixels) (rects_from rects i d within)
