-- Readers and writers of the standard library, as a contract sees them.
use Rattle.std.specs.Prelude.{ℕ, List, Option}

-- What the reader or writer tells of the bytes that are left or held, and how many of its calls failed.
pub record Edge : Type 0 where
  pub bytes : Option (List ℕ)
  pub faults : ℕ
