-- How many bytes moves and rectangles have.
use Rattle.std.proofs.Common.{◌≡◌, ◌*◌, List, length, arith}
use Rattle.dd_geom.specs.declared.rect.Rect.{Rect}
use Rattle.dd_geom.specs.declared.rect.Move.{Move}
use Rattle.dd_geom.specs.declared.rect.TheConstants.{MOVE_BYTES, RECT_BYTES}
use Rattle.dd_geom.specs.Bytes.{move_bytes, rect_bytes}
use Rattle.dd_geom.proofs.ByteLemmas.{length-move_bytes, length-rect_bytes}
use Rattle.dd_meta.specs.Buffer.{bytes_of_moves, bytes_of_rects, MovesFit, RectsFit}
use Rattle.dd_meta.proofs.Pieces.{length-pieces}

pub moves_size : (moves : List Move) → length (bytes_of_moves moves) ≡ MOVE_BYTES * length moves
moves_size moves = length-pieces move_bytes MOVE_BYTES length-move_bytes moves

pub rects_size : (rects : List Rect) → length (bytes_of_rects rects) ≡ RECT_BYTES * length rects
rects_size rects = length-pieces rect_bytes RECT_BYTES length-rect_bytes rects

-- buffers that are long enough for those of a frame
pub moves_fit : MovesFit
moves_fit moves buffer few long =
    let m = moves_size moves in
    grind arith

pub rects_fit : RectsFit
rects_fit rects buffer few long =
    let m = rects_size rects in
    grind arith
