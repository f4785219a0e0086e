-- Counts of faults.
use Rattle.std.specs.Prelude.{ℕ, ◌+◌, ◌-◌, ◌^◌, ◌≤◌, min}

-- a count of 64 bits after one more, which stands still at its last value
abbrev pub risen : ℕ → ℕ
risen n = min (n + 1) (2 ^ 64 - 1)

-- and after k more
abbrev pub raised : ℕ → ℕ → ℕ
raised k n = min (n + k) (2 ^ 64 - 1)

-- the count rose from `before` to `now`, or stands at its last value, where it can't rise
abbrev pub Rose : ℕ → ℕ → Type 0
Rose before now = risen before ≤ now
