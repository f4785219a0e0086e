-- What is read of the bytes that have come: of a field, or of several in order.
use Rattle.std.specs.Prelude.{◌≡◌, ⊤, ℕ, ℤ, zero, suc, ◌+◌, nat_le, if◌then◌else◌, Bool, List, [], ◌∷◌, length, take, drop}
use Rattle.byteorder.specs.Endian.{little_number}
use Rattle.dd_geom.specs.Bytes.{coordinate_at}

-- the value; or the place of the first field that has come whole and breaks its rule; or, where no field is bad, that
-- bytes are missing
pub data Reading (A : Type 0) : Type 0 where
  Good : A → Reading A
  Bad : ℕ → Reading A
  Short : Reading A

-- the fields behind the first ones, which may speak of their value
infixl 10 ◌>>=◌
abbrev pub ◌>>=◌ : {A B : Type 0} → Reading A → (A → Reading B) → Reading B
(Good x) >>= f = f x
(Bad at) >>= f = Bad at
Short >>= f = Short

-- what was read stays when more bytes come: only what was short may change
abbrev pub Stays : {A : Type 0} → Reading A → Reading A → Type 0
Stays (Good x) later = later ≡ Good x
Stays (Bad at) later = later ≡ Bad at
Stays Short later = ⊤

-- no field that has come is bad
abbrev pub NothingBad : {A : Type 0} → Reading A → Type 0
NothingBad (Good x) = ⊤
NothingBad (Bad at) = ⊥
NothingBad Short = ⊤

-- the bytes of a field of a size at a place, once all of them have come
unfoldable pub come : ℕ → ℕ → List ℕ → Reading (List ℕ)
come at size bytes = if nat_le (at + size) (length bytes) then Good (take size (drop at bytes)) else Short

-- a value, where it keeps the rule of the field at a place
unfoldable pub kept : {A : Type 0} → ℕ → Bool → A → Reading A
kept at rule x = if rule then Good x else Bad at

-- a number, the lowest byte first
abbrev pub number : ℕ → ℕ → List ℕ → Reading ℕ
number at size bytes = come at size bytes >>= λ field. Good (little_number size field)

-- a coordinate, in two's complement
abbrev pub coordinate : ℕ → List ℕ → Reading ℤ
coordinate at bytes = come at 4 bytes >>= λ field. Good (coordinate_at field 0)

-- n fields of one size, one after another, as f reads each at its place
abbrev pub fields : {A : Type 0} → (ℕ → Reading A) → ℕ → ℕ → ℕ → Reading (List A)
fields f size at zero = Good []
fields f size at (suc n) = do
  x ← f at
  xs ← fields f size (at + size) n
  Good (x ∷ xs)
