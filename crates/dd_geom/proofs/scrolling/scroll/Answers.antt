-- What a move copies between sides lies inside, and is the grid after it.
use Rattle.std.proofs.Common.{◌≡◌, ℕ, ℤ, w32, to_z, of_z, List, sym, subst, ap, ◌∙◌, arith, rules}
use Rattle.std.specs.Prelude.{FitsSigned}
use Rattle.std.proofs.lemmas.Int.{to_z-of_z}
use Rattle.dd_geom.specs.Rect.{AreInside, sides, place}
use Rattle.dd_geom.specs.declared.rect.Sides.{Sides}
use Rattle.dd_geom.proofs.RectLemmas.{IsMoveInside-test}
use Rattle.dd_geom.proofs.ScrollLemmas.{IsTaken, copied_at, scrolled_from_copied}
use Rattle.dd_geom.proofs.scrolling.scroll.Goals as goal

-- the same clause at the numbers that the calls gave
named :
    {A : Type 0} (w : ℕ) (s t : Sides) (a b p q : ℕ) (old new : List A) → s ≡ t → a ≡ b → p ≡ q
    → IsTaken w s (copied_at w s a p) old new → IsTaken w t (copied_at w t b q) old new
named w s t a b p q old new sides column row copied =
    subst (λ (t : Sides). IsTaken w t (copied_at w t b q) old new) sides
    (subst (λ (b : ℕ). IsTaken w s (copied_at w s b q) old new) column
    (subst (λ (q : ℕ). IsTaken w s (copied_at w s a q) old new) row copied))

-- a coordinate that is passed as bits
passed : (n : ℕ) (x : ℤ) → FitsSigned w32 x → n ≡ place (to_z w32 (of_z w32 x)) → n ≡ place x
passed n x fits e = e ∙ ap place (to_z-of_z w32 x fits)

pub copy_between-requires-clause-inside : goal.copy_between-requires-clause-inside
copy_between-requires-clause-inside g c =
    subst (λ (s : Sides). AreInside s c.args.width c.args.height) (sym c.sides_of-to.ensures)
    (IsMoveInside-test c.args.m c.args.width c.args.height c.requires.inside).dest

pub copy_between-requires-clause-across : goal.copy_between-requires-clause-across
copy_between-requires-clause-across g c =
    let column = passed c.index_of-column.result c.args.m.source.x (search rules) c.index_of-column.ensures in
    rw (c.sides_of-to.ensures, column) (IsMoveInside-test c.args.m c.args.width c.args.height c.requires.inside).across

pub copy_between-requires-clause-down : goal.copy_between-requires-clause-down
copy_between-requires-clause-down g c =
    let row = passed c.index_of-row.result c.args.m.source.y (search rules) c.index_of-row.ensures in
    rw (c.sides_of-to.ensures, row) (IsMoveInside-test c.args.m c.args.width c.args.height c.requires.inside).down

pub returns : goal.returns
returns g c d =
    let m = c.args.m in
    let old = c.args.cells.now in
    let new = c.copy_between.new.cells in
    let column = passed c.index_of-column.result m.source.x (search rules) c.index_of-column.ensures in
    let row = passed c.index_of-row.result m.source.y (search rules) c.index_of-row.ensures in
    scrolled_from_copied d c.args.width c.args.height m old new
    (IsMoveInside-test m c.args.width c.args.height c.requires.inside) c.requires.cells (omega arith)
    (named c.args.width c.sides_of-to.result (sides m.dest) c.index_of-column.result (place m.source.x)
    c.index_of-row.result (place m.source.y) old new c.sides_of-to.ensures column row c.copy_between.ensures)
