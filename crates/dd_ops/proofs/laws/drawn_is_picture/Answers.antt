use Rattle.dd_ops.proofs.Pictures.{IsPicture-drawn}
use Rattle.dd_ops.proofs.laws.drawn_is_picture.Goals as goal

pub returns : goal.returns
returns c = IsPicture-drawn
