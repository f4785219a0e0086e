-- Devices in memory, as a contract sees them.
use Rattle.std.specs.Prelude.{ℕ, List}
use Rattle.dd_io.specs.Causes.{risen}

-- The bytes that the device has left or holds, how many it moves at most in a call, the numbers of the calls that
-- fail, and its counts of calls and of faults.
pub record Device : Type 0 where
  pub bytes : List ℕ
  pub piece : ℕ
  pub fails : List ℕ
  pub calls : ℕ
  pub faults : ℕ

-- A device that keeps what it takes, and for how many bytes more it has memory.
pub record Keeper : Type 0 where
  pub device : Device
  pub room : ℕ

-- no call came yet
abbrev pub unused_device : List ℕ → ℕ → List ℕ → Device
unused_device bytes piece fails = record { bytes = bytes; piece = piece; fails = fails; calls = 0; faults = 0 }

-- a call left these bytes
abbrev pub after_call : Device → List ℕ → Device
after_call d bytes = record d { bytes = bytes; calls = risen d.calls }

-- a call failed
abbrev pub after_fault : Device → Device
after_fault d = record d { calls = risen d.calls; faults = risen d.faults }
