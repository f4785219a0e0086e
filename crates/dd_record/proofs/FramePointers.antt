-- The pointer and the shape of a frame are in range where those of the list's entries are.
use Rattle.std.proofs.Common.{◌≡◌, ℕ, zero, suc, ◌≤◌, Bool, true, false, List, [], ◌∷◌, length, drop, pos, FitsSigned, Option, Some, None, fold, refl, ap, arith}
use Rattle.std.specs.Prelude.{IfSome, unwrap_or, is_some}
use Rattle.std.specs.Int.{w32}
use Rattle.std.specs.List.{list_any}
use Rattle.std.specs.Option.{option_or}
use Rattle.std.proofs.lemmas.Bool.{or_parts, or_from}
use Rattle.std.proofs.lemmas.Int.{fits_signed_from_abs}
use Rattle.dd_modes.specs.declared.modes.Mode.{Mode}
use Rattle.dd_pointer.specs.Shape.{PointerShape}
use Rattle.dd_log.specs.declared.pointer.Pointer.{Pointer}
use Rattle.dd_log.specs.declared.desk.Desk.{Desk}
use Rattle.dd_log.specs.declared.events.Entry.{Entry}
use Rattle.dd_log.specs.Desk.{first_desk, desk_after, desk_of}
use Rattle.dd_log.specs.Events.{pointer_in, shape_in, has_shape, is_pointing, any_points, last_pointed, last_shape}
use Rattle.dd_log.proofs.Lasts.{no_shape}
use Rattle.dd_dup.specs.News.{shape_bytes}
use Rattle.dd_record.specs.Frames.{FitsPointer, PointersInRange}
use Rattle.dd_record.specs.Writing.{KeepsShape, size_of}
use Rattle.dd_record.proofs.FrameNumbers.{number_some}

-- later entries are in range too
pub range_later : (n : ℕ) (es : List Entry) → PointersInRange es → PointersInRange (drop n es)
range_later zero es range = range
range_later (suc n) [] range = tt
range_later (suc n) (e ∷ es) range = range_later n es range.1

-- ---- the pointer

pointer_set : (given : Option Pointer) (old : Pointer) → IfSome given FitsPointer → FitsPointer old
    → FitsPointer (unwrap_or given old)
pointer_set None old new fits = fits
pointer_set (Some p) old new fits = new

pointer_later : (ms : List Mode) (es : List Entry) (d : Desk) → FitsPointer d.pointer → PointersInRange es
    → FitsPointer (fold (desk_after ms) d es).pointer
unfolding desk_after
pointer_later ms [] d fits range = fits
pointer_later ms (e ∷ es) d fits range =
    pointer_later ms es (desk_after ms d e) (pointer_set (pointer_in e.event) d.pointer range.0.0 fits) range.1

origin_fits : FitsSigned w32 (pos 0)
origin_fits = fits_signed_from_abs w32 (pos 0) (omega arith)

pub pointer_fits : (ms : List Mode) (es : List Entry) → PointersInRange es → FitsPointer (desk_of ms es).pointer
unfolding desk_of first_desk
pointer_fits ms es range = pointer_later ms es (first_desk ms) (origin_fits, origin_fits) range

-- ---- the shape

shape_set : (given old : Option PointerShape) → IfSome given KeepsShape → IfSome old KeepsShape
    → IfSome (option_or given old) KeepsShape
shape_set None old new keeps = keeps
shape_set (Some s) old new keeps = new

shape_later : (es : List Entry) (old : Option PointerShape) → IfSome old KeepsShape → PointersInRange es
    → IfSome (fold (λ (shape : Option PointerShape) (e : Entry). option_or (shape_in e.event) shape) old es) KeepsShape
shape_later [] old keeps range = keeps
shape_later (e ∷ es) old keeps range =
    shape_later es (option_or (shape_in e.event) old) (shape_set (shape_in e.event) old range.0.1 keeps) range.1

pub shape_keeps : (es : List Entry) → PointersInRange es → IfSome (last_shape es) KeepsShape
shape_keeps es range = shape_later es None tt range

-- its size
pub shape_long : (shape : Option PointerShape) → length (shape_bytes shape) ≡ size_of shape
shape_long None = refl
shape_long (Some s) = refl

-- no shape without an entry that sets the pointer or its shape
no_shape_of : (es : List Entry) → any_points es ≡ false → list_any (λ (e : Entry). has_shape e.event) es ≡ false
no_shape_of [] none = refl
no_shape_of (e ∷ es) none =
    let both = or_parts (is_pointing e.event) (any_points es) none in
    or_from _ _ (or_parts (is_some (pointer_in e.event)) (has_shape e.event) both.0).1 (no_shape_of es both.1)

shape_by : (es : List Entry) (place : ℕ) (b : Bool) → any_points es ≡ b → 1 ≤ length (shape_bytes (last_shape es))
    → 1 ≤ last_pointed place es
shape_by es place true t some = number_some is_pointing es 0 place (omega arith) t
shape_by es place false t some =
    let none = ap (λ s. length (shape_bytes s)) (no_shape es (no_shape_of es t)) in absurd (omega (arith, none, some))

pub shape_numbered : (es : List Entry) (place : ℕ) → 1 ≤ length (shape_bytes (last_shape es))
    → 1 ≤ last_pointed place es
shape_numbered es place some = shape_by es place (any_points es) refl some
