use Rattle.std.proofs.Common.{◌≡◌, ℕ, ◌+◌, ◌<◌, List, length, take, drop, get_or, pos, sym, ap, ◌∙◌, subst, arith}
use Rattle.std.specs.List.{All}
use Rattle.std.proofs.lemmas.List.{length-drop}
use Rattle.std.proofs.lemmas.List.Elements.{All-drop}
use Rattle.dd_geom.specs.declared.rect.Rect.{Rect}
use Rattle.dd_geom.specs.Rect.{points}
use Rattle.dd_geom.specs.Grid.{Grid}
use Rattle.dd_grid.specs.declared.cell.TheConstants.{COLOURS}
use Rattle.dd_grid.specs.Drawing.{imaged}
use Rattle.dd_view.specs.Playing.{pasted}
use Rattle.dd_view.proofs.Drawing.{count_from, pasted_from}
use Rattle.dd_view.proofs.screen.paste.Goals as goal

pub loop-rect-preserved : goal.loop-rect-preserved
loop-rect-preserved c =
    let old = c.loop-rect.invariant in
    let size = c.blit.ensures.size in
    let i = c.loop-rect.rect-index in
    let rects : List Rect = c.args.rects.now in
    let rest : List ℕ = c.loop-rect.rest.now in
    let d : Rect = record { left = pos 0; top = pos 0; right = pos 0; bottom = pos 0 } in
    let r : Rect = get_or rects i d in
    let front : c.split_at.result.0.now ≡ take (points r) rest =
    c.split_at.ensures.front ∙ ap (λ (n : ℕ). take n rest) c.point_count.ensures in
    let back : c.split_at.result.1.now ≡ drop (points r) rest =
    c.split_at.ensures.back ∙ ap (λ (n : ℕ). drop n rest) c.point_count.ensures in
    let behind : List Rect = drop (i + 1) rects in
    record {
      pasted =
          ap (λ (s : Grid ℕ). pasted s behind c.split_at.result.1.now) c.blit.ensures.drawn
          ∙ ap (λ (p : List ℕ). pasted (imaged c.loop-rect.surface r p) behind c.split_at.result.1.now) front
          ∙ ap (pasted (imaged c.loop-rect.surface r (take (points r) rest)) behind) back
          ∙ sym (pasted_from c.loop-rect.surface rects rest i d c.loop-rect-test.true)
          ∙ old.pasted;
      count =
          ap length back ∙ length-drop (points r) rest
          ∙ omega (arith, old.count, count_from rects i d c.loop-rect-test.true);
      colours =
          subst (λ (l : List ℕ). All (λ c. c < COLOURS) l) (sym back)
          (All-drop (λ c. c < COLOURS) (points r) rest old.colours);
      size = record { width = size.width ∙ old.size.width; height = size.height ∙ old.size.height };
    }
