use Rattle.std.proofs.Common.{ℕ, List, get_or, pos, ◌∙◌, ap}
use Rattle.dd_geom.specs.declared.rect.Move.{Move}
use Rattle.dd_geom.specs.Grid.{Grid}
use Rattle.dd_grid.specs.Drawing.{moved}
use Rattle.dd_view.proofs.Drawing.{moved_more}
use Rattle.dd_view.proofs.screen.move_all.Goals as goal

pub loop-m-preserved : goal.loop-m-preserved
loop-m-preserved c =
    let old = c.loop-m.invariant in
    let size = c.scroll.ensures.size in
    let moves : List Move = c.args.moves.now in
    let i = c.loop-m.m-index in
    let d : Move =
    record {
      source = record { x = pos 0; y = pos 0 };
      dest = record { left = pos 0; top = pos 0; right = pos 0; bottom = pos 0 };
    }
    in
    record {
      moved =
          c.scroll.ensures.drawn ∙ ap (λ (s : Grid ℕ). moved s (get_or moves i d)) old.moved
          ∙ moved_more c.args.surface.now moves i d c.loop-m-test.true;
      size = record { width = size.width ∙ old.size.width; height = size.height ∙ old.size.height };
    }
