-- The rows of the source and of the destination lie within the cells, and their copy is that of each.
use Rattle.std.proofs.Common.{ℕ, ◌≡◌, ◌+◌, ◌-◌, ◌*◌, ◌≤◌, length, refl, arith}
use Rattle.std.proofs.lemmas.Nat.{mul-le}
use Rattle.dd_geom.proofs.ScrollLemmas.{copied_rows}
use Rattle.dd_geom.proofs.scrolling.copy_rows.Goals as goal

-- some rows one below the other lie within the cells
rows_fit : (w h row n long : ℕ) → row + n ≤ h → long ≡ w * h → row * w + n * w ≤ long
rows_fit w h row n long down size = omega (arith, mul-le (row + n) w h w down (omega arith))

pub copy_blocks-requires-clause-source : goal.copy_blocks-requires-clause-source
copy_blocks-requires-clause-source g c =
    let s = c.args.to in
    rows_fit c.args.width c.args.height c.args.row (s.bottom - s.top)
    (length c.args.cells.now) (omega arith) (omega arith)

pub copy_blocks-requires-clause-destination : goal.copy_blocks-requires-clause-destination
copy_blocks-requires-clause-destination g c =
    let s = c.args.to in
    let fits : s.top * c.args.width + (s.bottom - s.top) * c.args.width ≤ length c.args.cells.now =
    rows_fit c.args.width c.args.height s.top (s.bottom - s.top)
    (length c.args.cells.now) (omega arith) (omega arith) in
    omega arith

pub returns : goal.returns
returns g c =
    let s = c.args.to in
    let copied = c.copy_blocks.ensures in
    copied_rows c.args.width c.args.height s c.args.row ((s.bottom - s.top) * c.args.width) c.args.cells.now
    c.copy_blocks.new.cells c.requires.left c.requires.right
    (omega arith) c.requires.cells refl (copied.copied, copied.below, copied.above)
