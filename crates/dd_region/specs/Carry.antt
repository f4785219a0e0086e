-- Bands that are taken from other rows as they are: words of private functions.
use Rattle.std.specs.Prelude.{ℕ, ◌+◌, ◌-◌, ◌^◌, ◌<◌, ◌≤◌}
use Rattle.dd_region.specs.declared.rows.Band.{Band}
use Rattle.dd_region.specs.declared.carry.Span.{Span}

-- a band's runs lie in a span
pub record IsInSpan (s : Span) (b : Band) : Type 0 where
  pub from : s.start ≤ b.start
  pub to : b.end ≤ s.end

-- a band whose runs stand elsewhere: what was run `from` is run `to`
abbrev pub moved_band : ℕ → ℕ → Band → Band
moved_band from to b = record { bottom = b.bottom; start = b.start - from + to; end = b.end - from + to }

-- a band's runs can be moved so
pub record IsMovable (from to : ℕ) (b : Band) : Type 0 where
  pub after : from ≤ b.start
  pub order : b.start ≤ b.end
  pub fits : b.end - from + to < 2 ^ 64
