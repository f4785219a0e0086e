-- A shape's bytes are as many as its size asks for.
use Rattle.std.proofs.Common.{◌≤◌, length, arith}
use Rattle.dd_pointer.specs.declared.kind.TheConstants.{MAX_BYTES}
use Rattle.dd_pointer.proofs.Sizes.{has_size, required_few}
use Rattle.dd_pointer.proofs.shape.Shape.bytes.Goals as goal

pub returns-clause-few : goal.returns-clause-few
returns-clause-few c =
    let s = c.self.inside in
    let size = has_size s.kind s.width s.height s.bytes.items c.self.invariant in
    let few = required_few s.kind s.width s.height size.size in
    let fits : length s.bytes.items ≤ MAX_BYTES = omega (arith, size.whole) in
    omega arith
