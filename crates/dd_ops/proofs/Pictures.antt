-- What operations that fit make of a picture is a picture of the same size.
use Rattle.std.proofs.Common.{◌≡◌, ℕ, ◌<◌, true, ltb, List, [], ◌∷◌, All, refl}
use Rattle.std.proofs.lemmas.Bool.{and_parts}
use Rattle.std.proofs.lemmas.List.Sums.{AllPass-from_list_all}
use borrow.Author.Tests.{ltb-true}
use Rattle.dd_geom.specs.Grid.{Grid, SameSize}
use Rattle.dd_grid.specs.declared.cell.TheConstants.{COLOURS}
use Rattle.dd_grid.specs.Cell.{Cell}
use Rattle.dd_grid.specs.Drawing.{IsPicture}
use Rattle.dd_grid.proofs.MovingLemmas.{IsPicture-filled, IsPicture-blitted, IsPicture-covered, IsPicture-moved}
use Rattle.dd_ops.specs.declared.operations.Op.{Op}
use Rattle.dd_ops.specs.declared.operations.Op.TheVariants.{Fill, Blit, Cover, Scroll}
use Rattle.dd_ops.specs.Operations.{fits, are_colours, all_fit, drawn_by, DrawnIsPicture}

-- colours are below their number
colours_small : (cs : List ℕ) → are_colours cs ≡ true → All (λ c. c < COLOURS) cs
colours_small cs t k d e = ltb-true _ COLOURS (AllPass-from_list_all (λ c. ltb c COLOURS) cs t k d e)

pub SameSize-drawn_by : (p : Grid Cell) (op : Op) → SameSize p (drawn_by p op)
SameSize-drawn_by p (Fill rect colour) = record { width = refl; height = refl }
SameSize-drawn_by p (Blit rect colours) = record { width = refl; height = refl }
SameSize-drawn_by p (Cover rect colours) = record { width = refl; height = refl }
SameSize-drawn_by p (Scroll mv) = record { width = refl; height = refl }

pub IsPicture-drawn_by :
    (p : Grid Cell) (op : Op) → IsPicture p → fits p.width p.height op ≡ true → IsPicture (drawn_by p op)
IsPicture-drawn_by p (Fill rect colour) is t =
    IsPicture-filled p rect colour (ltb-true colour COLOURS (and_parts _ (ltb colour COLOURS) t).1) is
IsPicture-drawn_by p (Blit rect colours) is t =
    IsPicture-blitted p rect colours (colours_small colours (and_parts _ (are_colours colours) t).1) is
IsPicture-drawn_by p (Cover rect colours) is t =
    IsPicture-covered p rect colours (colours_small colours (and_parts _ (are_colours colours) t).1) is
IsPicture-drawn_by p (Scroll mv) is t = IsPicture-moved p mv is

pub IsPicture-drawn : DrawnIsPicture
IsPicture-drawn p [] is t = is
IsPicture-drawn p (op ∷ ops) is t =
    let both = and_parts (fits p.width p.height op) (all_fit p.width p.height ops) t in
    let same = SameSize-drawn_by p op in
    IsPicture-drawn (drawn_by p op) ops (IsPicture-drawn_by p op is both.0)
    (rw (same.width, same.height) both.1)
