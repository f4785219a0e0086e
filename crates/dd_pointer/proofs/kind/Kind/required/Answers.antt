-- A size that the kind may have asks for few bytes.
use Rattle.dd_pointer.proofs.Sizes.{required_few}
use Rattle.dd_pointer.proofs.kind.Kind.required.Goals as goal

pub returns-clause-few : goal.returns-clause-few
returns-clause-few c =
    rw c.pitch.ensures (required_few c.args.self c.args.width c.args.height c.requires)
