-- A row's run of colours is one row more.
use Rattle.std.proofs.Common.{◌≡◌, ℕ, ◌+◌, ◌-◌, ◌*◌, ◌<◌, ◌≤◌, List, length, get_or, slice_range, ap, ◌∙◌, arith}
use Rattle.std.proofs.lemmas.List.{get_or_default}
use Rattle.std.proofs.lemmas.List.Edits.{length-between, get_or-between}
use Rattle.std.proofs.lemmas.Nat.{row_fits_turned}
use Rattle.dd_geom.proofs.PaintLemmas.{drawn_more, length-run}
use Rattle.dd_grid.specs.Drawing.{place_in}
use Rattle.dd_grid.proofs.drawing.copy_image.Goals as goal

pub loop-y-preserved : goal.loop-y-preserved
loop-y-preserved c =
    let w = c.args.width in
    let h = c.args.height in
    let s = c.args.sides in
    let y = c.loop-y.y in
    let old = c.loop-y.cells in
    let run = c.copy_from_slice.new.self in
    let colours = c.args.colours.now in
    let size : ℕ = s.right - s.left in
    let high : ℕ = s.bottom - s.top in
    let from : ℕ = (y - s.top) * size in
    let part : List ℕ = slice_range colours from (from + size) in
    let n : ℕ = (y * w + s.right) - (y * w + s.left) in
    let row : y * w + w ≤ w * h = row_fits_turned y w w h (omega arith) (omega arith) in
    let colour_row : from + size ≤ size * high =
    row_fits_turned (y - s.top) size size high (omega arith) (omega arith) in
    let fits : from + size ≤ length colours = omega (arith, c.requires.count) in
    let as_part : run ≡ part = c.copy_from_slice.ensures.after in
    let long : length run ≡ n = ap length as_part ∙ (length-between colours from (from + size) fits ∙ omega arith) in
    let each : (i : ℕ) (d : ℕ) → i < n → get_or run i d ≡ get_or colours (place_in s (s.left + i) y) 0 =
    λ (i : ℕ) (d : ℕ) (e : i < n).
    ap (λ (cs : List ℕ). get_or cs i d) as_part
    ∙ (get_or-between colours from (from + size) i d (omega arith)
    ∙ (get_or_default colours (from + i) d 0 (omega arith)
    ∙ ap (λ m. get_or colours m 0) (ap (λ m. from + m) (omega arith)))) in
    record {
      whole = length-run (y * w + s.left) n old run (omega arith) long ∙ c.loop-y.invariant.whole;
      drawn =
          drawn_more w h s y n (λ at_x at_y. get_or colours (place_in s at_x at_y) 0) c.args.cells.now
          old run (omega arith) (omega arith) (omega arith) (omega arith) (omega arith) (omega arith) long each
          c.loop-y.invariant.drawn;
    }
