-- What is seen of a picture follows the operations that are drawn on it.
use Rattle.std.proofs.Common.{◌≡◌, [], ◌∷◌, refl, ap, ◌∙◌}
use Rattle.dd_geom.specs.Grid.{Grid}
use Rattle.dd_grid.specs.Cell.{Cell}
use Rattle.dd_grid.specs.Drawing.{seen}
use Rattle.dd_grid.proofs.SeenLemmas.{SeenCommutes-all}
use Rattle.dd_ops.specs.declared.operations.Op.{Op}
use Rattle.dd_ops.specs.declared.operations.Op.TheVariants.{Fill, Blit, Cover, Scroll}
use Rattle.dd_ops.specs.Operations.{drawn_by, seen_drawn_by, seen_drawn, SeenFollows}

seen-drawn_by : (p : Grid Cell) (op : Op) → seen (drawn_by p op) ≡ seen_drawn_by (seen p) op
seen-drawn_by p (Fill rect colour) = (SeenCommutes-all p).fill rect colour
seen-drawn_by p (Blit rect colours) = (SeenCommutes-all p).blit rect colours
seen-drawn_by p (Cover rect colours) = (SeenCommutes-all p).cover rect colours
seen-drawn_by p (Scroll mv) = (SeenCommutes-all p).scroll mv

pub seen-drawn : SeenFollows
seen-drawn p [] = refl
seen-drawn p (op ∷ ops) = seen-drawn (drawn_by p op) ops ∙ ap (λ s. seen_drawn s ops) (seen-drawn_by p op)
