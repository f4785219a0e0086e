use Rattle.std.proofs.Common.{◌≡◌, ◌≢◌, ◌<◌, List, Bool, true, false, not, ap, sym, ◌∙◌, arith, refl, inl, inr}
use Rattle.std.specs.Cmp.{booleans_Decides}
use Rattle.std.specs.Cmp.Lexicographic.{pointwise}
use Rattle.std.proofs.Math.Bool.{beq}
use Rattle.std.proofs.lemmas.Bool.{not-true, not-false, cases_lt, false≢true}
use Rattle.std.proofs.lemmas.Slice.Eq.{slice_eq-Decides}
use Rattle.dd_geom.specs.Grid.{Grid}
use Rattle.dd_bits.specs.CanonicalList.{same_rows}
use Rattle.dd_bits.proofs.Bands.{AreRows, same_rows-cells, other_rows-cells, band_end-found}
use Rattle.dd_bits.proofs.plane.Plane.band_end.Goals as goal

equal : (a b : List Bool) (r : Bool) → r ≡ not (pointwise beq a b) → r ≡ false → a ≡ b
equal a b r e f =
    (slice_eq-Decides booleans_Decides a b (pointwise beq a b) refl).0
    (not-false (pointwise beq a b) (sym e ∙ f))

unequal : (a b : List Bool) (r : Bool) → r ≡ not (pointwise beq a b) → r ≡ true → a ≢ b
unequal a b r e f h =
    absurd (false≢true (sym (not-true (pointwise beq a b) (sym e ∙ f))
    ∙ (slice_eq-Decides booleans_Decides a b (pointwise beq a b) refl).1 h))

pub returns-then-ne : goal.returns-then-ne
returns-then-ne c =
    let g : Grid Bool = c.args.self.now in
    let high : c.self.inside.height ≡ g.height = ap (λ (v : Grid Bool). v.height) c.self.view_is in
    let lower : c.loop-z.z < g.height = omega arith in
    let rows : AreRows g c.args.y c.loop-z.z c.row-first.result.now c.row.result.now = record {
      upper = c.requires;
      lower = lower;
      first_is = c.row-first.ensures.cells;
      other_is = c.row.ensures.cells;
      first_long = c.row-first.ensures.width;
      other_long = c.row.ensures.width;
    } in
    let other : same_rows g c.args.y c.loop-z.z ≡ false =
    other_rows-cells g c.args.y c.loop-z.z _ _ rows (unequal _ _ c.ne.result c.ne.ensures c.if-ne.true) in
    band_end-found g c.args.y c.loop-z.z (omega arith) (omega arith) c.loop-z.invariant (λ _. other)

pub loop-z-preserved : goal.loop-z-preserved
loop-z-preserved c =
    let g : Grid Bool = c.args.self.now in
    let high : c.self.inside.height ≡ g.height = ap (λ (v : Grid Bool). v.height) c.self.view_is in
    let lower : c.loop-z.z < g.height = omega arith in
    let rows : AreRows g c.args.y c.loop-z.z c.row-first.result.now c.row.result.now = record {
      upper = c.requires;
      lower = lower;
      first_is = c.row-first.ensures.cells;
      other_is = c.row.ensures.cells;
      first_long = c.row-first.ensures.width;
      other_long = c.row.ensures.width;
    } in
    let same : same_rows g c.args.y c.loop-z.z ≡ true =
    same_rows-cells g c.args.y c.loop-z.z _ _ rows (equal _ _ c.ne.result c.ne.ensures c.if-ne.false) in
    λ r a b. elim (cases_lt r c.loop-z.z) [
      | inl d ↦ c.loop-z.invariant r a d
      | inr d ↦ let here : c.loop-z.z ≡ r = omega arith in ap (same_rows g c.args.y) (sym here) ∙ same
    ]

pub returns : goal.returns
returns c =
    let g : Grid Bool = c.args.self.now in
    let high : c.self.inside.height ≡ g.height = ap (λ (v : Grid Bool). v.height) c.self.view_is in
    let l : c.args.y < g.height = c.requires in
    band_end-found g c.args.y c.self.inside.height (omega arith) (omega arith)
    (λ r a b. c.loop-z.invariant r a (omega arith))
    (λ a. absurd (omega arith))
