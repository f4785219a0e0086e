-- Cells copied from one place of a grid to another.
use Rattle.std.specs.Prelude.{◌≡◌, ℕ, ◌+◌, ◌-◌, ◌*◌, ◌/◌, ◌%◌, ◌<◌, List, length, slice_index_or, if◌then◌else◌}
use Rattle.dd_geom.specs.declared.rect.Sides.{Sides}
use Rattle.dd_geom.specs.Rect.{between}

-- between the sides stand the cells that stood from the given column and row on, and all else is as it was
abbrev pub IsCopied : {A : Type 0} → ℕ → Sides → ℕ → ℕ → List A → List A → Type 0
IsCopied {A} w to column row old new =
    (k : ℕ) (d : A) → k < length old
    → slice_index_or new k d
    ≡ (if between to (k % w) (k / w)
    then slice_index_or old ((k / w - to.top + row) * w + (k % w - to.left + column)) d
    else slice_index_or old k d)
