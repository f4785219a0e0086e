use Rattle.std.proofs.Common.{◌≡◌, ◌<◌, length, drop}
use Rattle.std.specs.List.{All}
use Rattle.dd_geom.specs.Grid.{SameSize}
use Rattle.dd_grid.specs.declared.cell.TheConstants.{COLOURS}
use Rattle.dd_record.specs.Dirt.{pixel_count}
use Rattle.dd_view.specs.Playing.{pasted}
use Rattle.dd_view.proofs.screen.paste.Given as goal

abbrev pub invariant-loop-rect : goal.invariant-loop-rect
invariant-loop-rect l = record {
  pasted : pasted l.surface (drop l.rect-index l.rects) l.rest ≡ pasted l.fn.surface l.rects l.pixels;
  count : length l.rest ≡ pixel_count (drop l.rect-index l.rects);
  colours : All (λ c. c < COLOURS) l.rest;
  size : SameSize l.fn.surface l.surface;
}
