-- The test says that the size is one that surfaces may have.
use Rattle.std.proofs.Common.{sym, ◌∙◌}
use Rattle.dd_modes.proofs.Limits.{size_of_mode, mode_of_size}
use Rattle.dd_modes.proofs.modes.Mode.is_within_limits.Goals as goal

pub returns-clause-size : goal.returns-clause-size
returns-clause-size c = (
  λ t. size_of_mode c.args.self.now (sym c.has_sides_and_pixels.ensures ∙ t),
  λ s. c.has_sides_and_pixels.ensures ∙ mode_of_size c.args.self.now s,
)
