-- What is drawn where nothing but fills is, point by point, and in some rows alone.
use Rattle.std.specs.Prelude.{◌≡◌, ℕ, ◌*◌, nat_le, nat_lt, Bool, true, ◌&&◌, if◌then◌else◌, List, length, fold, Option, None, Some, is_some}
use Rattle.std.specs.Int.{int_max, int_min}
use Rattle.std.specs.List.{list_all}
use Rattle.dd_geom.specs.declared.rect.Rect.{Rect}
use Rattle.dd_geom.specs.Rect.{has, place}
use Rattle.dd_geom.specs.Grid.{Grid, grid}
use Rattle.dd_grid.specs.Drawing.{colour_at}
use Rattle.dd_ops.specs.declared.operations.Op.{Op}
use Rattle.dd_ops.specs.declared.operations.Op.TheVariants.{Fill, Blit, Cover, Scroll}
use Rattle.dd_log.specs.declared.events.Entry.{Entry}
use Rattle.dd_log.specs.declared.events.Event.{Event}
use Rattle.dd_log.specs.Events.{present_of}
use Rattle.dd_dup.specs.declared.bands.Rows.{Rows}

-- ---- which entries fill alone

-- the rectangle that an operation fills, and the colour that is seen there
abbrev pub fill_in : Op → Option (Rect × ℕ)
fill_in (Fill rect colour) = Some (rect, colour)
fill_in (Blit rect colours) = None
fill_in (Cover rect colours) = Some (rect, 0)
fill_in (Scroll mv) = None

abbrev pub is_fill : Op → Bool
is_fill op = is_some (fill_in op)

abbrev pub are_fills : List Op → Bool
are_fills ops = list_all is_fill ops

abbrev pub present_fills : Option (List Op) → Bool
present_fills None = true
present_fills (Some ops) = are_fills ops

abbrev pub event_fills : Event → Bool
event_fills e = present_fills (present_of e)

abbrev pub entries_fill : List Entry → Bool
entries_fill es = list_all (λ e. event_fills e.event) es

-- ---- the colour of a point after them, made of the one before

abbrev pub fill_at : Rect → ℕ → ℕ → ℕ → ℕ → ℕ
fill_at r colour x y c = if has r x y then colour else c

abbrev pub filled_at : Option (Rect × ℕ) → ℕ → ℕ → ℕ → ℕ
filled_at None x y c = c
filled_at (Some f) x y c = fill_at f.0 f.1 x y c

abbrev pub op_at : Op → ℕ → ℕ → ℕ → ℕ
op_at op x y c = filled_at (fill_in op) x y c

abbrev pub ops_at : List Op → ℕ → ℕ → ℕ → ℕ
ops_at ops x y c = fold (λ d op. op_at op x y d) c ops

abbrev pub present_at : Option (List Op) → ℕ → ℕ → ℕ → ℕ
present_at None x y c = c
present_at (Some ops) x y c = ops_at ops x y c

abbrev pub event_at : Event → ℕ → ℕ → ℕ → ℕ
event_at e x y c = present_at (present_of e) x y c

abbrev pub entries_at : List Entry → ℕ → ℕ → ℕ → ℕ
entries_at es x y c = fold (λ d e. event_at e.event x y d) c es

-- ---- some rows alone

-- a surface has a colour for each of its points
abbrev pub IsWhole : Grid ℕ → Type 0
IsWhole s = length s.cells ≡ s.width * s.height

abbrev pub has_row : Rows → ℕ → Bool
has_row rows y = nat_le (place rows.top) y && nat_lt y (place rows.bottom)

-- what of a rectangle stands in some rows
abbrev pub rect_in : Rect → Rows → Rect
rect_in r rows =
    record {
      left = r.left;
      top = int_max r.top rows.top;
      right = r.right;
      bottom = int_min r.bottom rows.bottom;
    }

-- a surface whose colours change in some rows, each by itself
abbrev pub in_rows : Grid ℕ → (ℕ → Bool) → (ℕ → ℕ → ℕ → ℕ) → Grid ℕ
in_rows s rows f =
    grid s.width s.height (λ x y. if rows y then f x y (colour_at s x y) else colour_at s x y)
