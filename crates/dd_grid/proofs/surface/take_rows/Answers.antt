-- A row's run of what is seen is one row more.
use Rattle.std.proofs.Common.{◌≡◌, ℕ, ◌+◌, ◌-◌, ◌*◌, ◌<◌, ◌≤◌, List, length, get_or, All, ap, ◌∙◌, rules, arith}
use Rattle.std.proofs.lemmas.Grind.{pieces}
use Rattle.std.proofs.lemmas.List.{length-map}
use Rattle.std.proofs.lemmas.Nat.{row_fits_turned}
use Rattle.dd_geom.proofs.PaintLemmas.{drawn_more, length-run}
use Rattle.dd_grid.specs.declared.cell.TheConstants.{COLOURS}
use Rattle.dd_grid.specs.Cell.{seen_cell}
use Rattle.dd_grid.specs.Drawing.{cell_at}
use Rattle.dd_grid.proofs.DrawingLemmas.{get_or-seen_run}
use Rattle.dd_grid.proofs.surface.take_rows.Goals as goal

pub loop-y-preserved : goal.loop-y-preserved
loop-y-preserved c =
    let w = c.args.width in
    let h = c.args.height in
    let s = c.args.sides in
    let p = c.args.from.now in
    let y = c.loop-y.y in
    let old = c.loop-y.colours in
    let run = c.take_run.new.to in
    let cells = c.run-run.result.now in
    let n : ℕ = (y * w + s.right) - (y * w + s.left) in
    let row : y * w + w ≤ w * h = row_fits_turned y w w h (omega arith) (omega arith) in
    let long : length run ≡ n = ap length c.take_run.ensures.seen ∙ (length-map cells seen_cell ∙ omega arith) in
    let each : (i : ℕ) (d : ℕ) → i < n → get_or run i d ≡ seen_cell (cell_at p (s.left + i) y) =
    λ (i d : ℕ) (e : i < n).
    ap (λ (xs : List ℕ). get_or xs i d) c.take_run.ensures.seen
    ∙ get_or-seen_run p y s.left s.right cells i d c.run-run.ensures.cells (omega arith) (omega arith) (omega arith)
    (omega arith) in
    record {
      whole = length-run (y * w + s.left) n old run (omega arith) long ∙ c.loop-y.invariant.whole;
      taken =
          drawn_more w h s y n (λ at_x at_y. seen_cell (cell_at p at_x at_y)) c.args.colours.now old run (omega arith)
          (omega arith) (omega arith) (omega arith) (omega arith) (omega arith) long each c.loop-y.invariant.taken;
      small = λ all.
          let before : All (λ v. v < COLOURS) old = c.loop-y.invariant.small all in
          let within : All (λ v. v < COLOURS) run = c.take_run.ensures.small in
          search (rules, pieces);
    }
