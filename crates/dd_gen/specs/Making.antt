-- What is made from a generator of numbers: each draw takes the state that the one before it left.
use Rattle.std.specs.Prelude.{ℕ, ◌+◌, ◌*◌, ◌/◌, ◌%◌, ◌^◌}

-- what was made, and the generator's state then
pub record Made (A : Type 0) : Type 0 where
  pub value : A
  pub state : ℕ

-- a way to make something from a state
abbrev pub Making : Type 0 → Type 0
Making A = ℕ → Made A

-- a value, with no draw
abbrev pub give : {A : Type 0} → A → Making A
give x state = record { value = x; state = state }

-- what is made next
abbrev pub going_on : {A B : Type 0} → (A → Making B) → Made A → Made B
going_on f m = f m.value m.state

infixl 10 ◌>>=◌
abbrev pub ◌>>=◌ : {A B : Type 0} → Making A → (A → Making B) → Making B
(first >>= f) state = going_on f (first state)

-- the state after a state
abbrev pub following : ℕ → ℕ
following x = (1664525 * x + 1013904223) % 2 ^ 32

-- a number below n, told by the upper half of the next state
unfoldable pub draw : ℕ → Making ℕ
draw n x = record { value = following x / 65536 % n; state = following x }
