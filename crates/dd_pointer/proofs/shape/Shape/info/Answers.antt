-- A shape's width is one that shapes may have.
use Rattle.dd_pointer.proofs.Sizes.{has_size}
use Rattle.dd_pointer.proofs.shape.Shape.info.Goals as goal

pub pitch-requires : goal.pitch-requires
pitch-requires c =
    let s = c.self.inside in
    (has_size s.kind s.width s.height s.bytes.items c.self.invariant).width
