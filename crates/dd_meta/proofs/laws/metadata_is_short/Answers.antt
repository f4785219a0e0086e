use Rattle.std.proofs.Common.{arith}
use Rattle.dd_meta.proofs.Sizes.{moves_size, rects_size}
use Rattle.dd_meta.proofs.laws.metadata_is_short.Goals as goal

pub returns : goal.returns
returns c moves rects few short =
    let m = moves_size moves in
    let r = rects_size rects in
    omega arith
