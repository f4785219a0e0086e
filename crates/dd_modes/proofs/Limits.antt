-- What the tests on modes say, as facts.
use Rattle.std.proofs.Common.{◌≡◌, ℕ, zero, suc, ◌*◌, ◌<◌, ◌≤◌, true, List, [], ◌∷◌, length, nat_le, slice_get, arith}
use Rattle.std.specs.Prelude.{IfSome}
use Rattle.std.specs.List.{list_all}
use Rattle.std.proofs.lemmas.Bool.{and_parts, and_from, le-leb}
use Rattle.dd_geom.specs.Rect.{IsSize}
use Rattle.dd_geom.specs.declared.rect.TheConstants.{MAX_SIDE, MAX_PIXELS}
use Rattle.dd_modes.specs.declared.modes.Mode.{Mode}
use Rattle.dd_modes.specs.declared.modes.TheConstants.{MAX_MODES}
use Rattle.dd_modes.specs.Modes.{is_mode, are_modes, first_mode}
use borrow.Author.Tests.{leb-true}

-- a mode within the limits has a size that a surface may have
pub size_of_mode : (m : Mode) → is_mode m ≡ true → IsSize m.width m.height
unfolding is_mode
size_of_mode m h =
    let e = and_parts _ (nat_le (m.width * m.height) MAX_PIXELS) h in
    let d = and_parts _ (nat_le m.height MAX_SIDE) e.0 in
    let c = and_parts _ (nat_le 1 m.height) d.0 in
    let b = and_parts (nat_le 1 m.width) (nat_le m.width MAX_SIDE) c.0 in
    record {
      wide = leb-true _ _ b.0;
      high = leb-true _ _ c.1;
      width = leb-true _ _ b.1;
      height = leb-true _ _ d.1;
      pixels = leb-true _ _ e.1;
    }

-- and a mode of such a size is within the limits
pub mode_of_size : (m : Mode) → IsSize m.width m.height → is_mode m ≡ true
unfolding is_mode
mode_of_size m s =
    and_from _ _
    (and_from _ _
    (and_from _ _ (and_from _ _ (le-leb 1 m.width s.wide) (le-leb m.width MAX_SIDE s.width))
    (le-leb 1 m.height s.high))
    (le-leb m.height MAX_SIDE s.height))
    (le-leb (m.width * m.height) MAX_PIXELS s.pixels)

-- there is a first mode, and its size keeps the limits
pub first_of_modes : (ms : List Mode) → are_modes ms ≡ true → (0 < length ms)
    × IsSize (first_mode ms).width (first_mode ms).height
unfolding are_modes
first_of_modes [] h = let a = and_parts _ (list_all is_mode []) h in let b =
    and_parts (nat_le 1 0) (nat_le 0 MAX_MODES) a.0 in absurd (let c : 1 ≤ 0 = leb-true 1 0 b.0 in omega arith)
first_of_modes (m ∷ ms) h =
    let a = and_parts _ (list_all is_mode (m ∷ ms)) h in
    (omega arith, size_of_mode m (and_parts (is_mode m) (list_all is_mode ms) a.1).0)

-- each mode of a list that passes a test keeps the limits
size_found : (ms : List Mode) (k : ℕ) → list_all is_mode ms ≡ true
    → IfSome (slice_get ms k) (λ m. IsSize m.width m.height)
size_found [] k t = tt
size_found (m ∷ ms) zero t = size_of_mode m (and_parts (is_mode m) (list_all is_mode ms) t).0
size_found (m ∷ ms) (suc k) t = size_found ms k (and_parts (is_mode m) (list_all is_mode ms) t).1

-- and so does each mode of an output
pub sizes_of_modes : (ms : List Mode) (k : ℕ) → are_modes ms ≡ true
    → IfSome (slice_get ms k) (λ m. IsSize m.width m.height)
unfolding are_modes
sizes_of_modes ms k t = size_found ms k (and_parts _ (list_all is_mode ms) t).1
