use Rattle.std.proofs.Common.{◌≡◌, ◌&&◌, ◌==◌, ap, ◌∙◌, Decides}
use Rattle.std.proofs.lemmas.Bool.{and_parts, and_from, eqb-true, eq-eqb}
use Rattle.std.proofs.lemmas.Slice.Eq.{slice_eq-Decides}
use Rattle.dd_region.specs.declared.run.Run.{Run}
use Rattle.dd_region.proofs.run.same_runs.Goals as goal

-- two runs are equal where their sides are
sides_Decides : (a b : Run) → Decides (a.left == b.left && a.right == b.right) (a ≡ b)
sides_Decides a b = (
  λ e.
      let parts = and_parts (a.left == b.left) (a.right == b.right) e in
      let left : a.left ≡ b.left = eqb-true a.left b.left parts.0 in
      let right : a.right ≡ b.right = eqb-true a.right b.right parts.1 in
      let first : a ≡ record { left = b.left; right = a.right } = ap (λ n. record { left = n; right = a.right }) left in
      first ∙ ap (λ n. record { left = b.left; right = n }) right,
  λ e. and_from (a.left == b.left) (a.right == b.right)
      (eq-eqb a.left b.left (ap (λ (r : Run). r.left) e))
      (eq-eqb a.right b.right (ap (λ (r : Run). r.right) e)),
)

pub returns : goal.returns
returns c = slice_eq-Decides sides_Decides c.args.a.now c.args.b.now c.eq.result c.eq.ensures
