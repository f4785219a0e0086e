-- No fault of a shape's parts is want of memory.
use Rattle.std.proofs.Common.{◌≡◌, ℕ, Bool, List, length, Option, Some, None, Err, IfSome, option_map}
use Rattle.std.specs.Prelude.{◌==◌, not}
use Rattle.dd_geom.specs.declared.rect.Point.{Point}
use Rattle.dd_pointer.specs.declared.kind.Kind.{Kind}
use Rattle.dd_pointer.specs.declared.kind.Kind.TheVariants.{Monochrome, Color, MaskedColor}
use Rattle.dd_pointer.specs.declared.shape.ShapeFault.{ShapeFault}
use Rattle.dd_pointer.specs.declared.shape.ShapeFault.TheVariants.{BadSize, BadLength, BadMask, OutOfMemory}
use Rattle.dd_pointer.specs.Shape.{PointerShape, required, is_size, bad_mask, mask_fault, shape_fault, unless, read_as, kind_of, reading}
use Rattle.dd_script_read.proofs.Holds.{either_holds}

abbrev IsNoWant : ShapeFault → Type 0
IsNoWant fault = fault ≡ OutOfMemory → ⊥

mask_is_none : (place : Option ℕ) → IfSome (option_map BadMask place) IsNoWant
mask_is_none None = tt
mask_is_none (Some k) = λ e. cc

masks_are_none : (kind : Kind) (bytes : List ℕ) → IfSome (mask_fault kind bytes) IsNoWant
masks_are_none Monochrome bytes = tt
masks_are_none Color bytes = tt
masks_are_none MaskedColor bytes = mask_is_none (bad_mask bytes)

fault_is_none : (kind : Kind) (w h : ℕ) (bytes : List ℕ) → IfSome (shape_fault kind w h bytes) IsNoWant
unfolding shape_fault
fault_is_none kind w h bytes =
    let sized : Bool = is_size kind w h in
    let whole : Bool = length bytes == required kind w h in
    either_holds IsNoWant (not sized) (Some BadSize) _ (λ e. cc)
    (either_holds IsNoWant (not whole) (Some (BadLength (required kind w h))) (mask_fault kind bytes) (λ e. cc)
    (masks_are_none kind bytes))

unless_is_none : (fault : Option ShapeFault) (s : PointerShape) → IfSome fault IsNoWant
    → unless fault s ≡ Err OutOfMemory → ⊥
unless_is_none None s h e = cc
unless_is_none (Some fault) s h e = h cc

read_is_none : (kind : Option Kind) (w h : ℕ) (hot : Point) (bytes : List ℕ)
    → read_as kind w h hot bytes ≡ Err OutOfMemory → ⊥
read_is_none None w h hot bytes e = cc
read_is_none (Some kind) w h hot bytes e =
    unless_is_none (shape_fault kind w h bytes) _ (fault_is_none kind w h bytes) e

pub reading_wants_nothing : (n w h : ℕ) (hot : Point) (bytes : List ℕ)
    → reading n w h hot bytes ≡ Err OutOfMemory → ⊥
reading_wants_nothing n w h hot bytes e = read_is_none (kind_of n) w h hot bytes e
