-- What a legal list shows is a picture, and what is seen of it a surface.
use Rattle.std.proofs.Common.{◌≡◌, ◌∙◌, refl, sym, subst, true, List, [], ◌∷◌, drop, Option, Some, None}
use Rattle.std.specs.List.{list_all}
use Rattle.std.proofs.lemmas.Bool.{and_parts}
use Rattle.dd_geom.specs.Grid.{Grid, SameSize}
use Rattle.dd_grid.specs.Cell.{Cell}
use Rattle.dd_grid.specs.Drawing.{IsPicture}
use Rattle.dd_grid.proofs.MovingLemmas.{IsPicture-black, IsSurface-seen}
use Rattle.dd_ops.specs.declared.operations.Op.{Op}
use Rattle.dd_ops.specs.Operations.{drawn, drawn_by}
use Rattle.dd_ops.proofs.Pictures.{IsPicture-drawn, SameSize-drawn_by}
use Rattle.dd_log.specs.declared.events.Entry.{Entry}
use Rattle.dd_log.specs.History.{History, desk, desk_mode, legal, present_of, present_fits, event_fits, entries_fit}
use Rattle.dd_log.specs.Picture.{drawn_if, shown, picture, black_in, LegalIsShown}
use Rattle.dd_log.proofs.Pictures.{goes_on, begins_black, since_start}

-- operations keep a picture's size
SameSize-drawn : (p : Grid Cell) (ops : List Op) → SameSize p (drawn p ops)
SameSize-drawn p [] = record { width = refl; height = refl }
SameSize-drawn p (op ∷ ops) =
    let first = SameSize-drawn_by p op in
    let rest = SameSize-drawn (drawn_by p op) ops in
    record { width = rest.width ∙ first.width; height = rest.height ∙ first.height }

SameSize-drawn_if : (p : Grid Cell) (present : Option (List Op)) → SameSize p (drawn_if p present)
SameSize-drawn_if p None = record { width = refl; height = refl }
SameSize-drawn_if p (Some ops) = SameSize-drawn p ops

IsPicture-drawn_if :
    (p : Grid Cell) (present : Option (List Op)) → IsPicture p → present_fits p.width p.height present ≡ true
    → IsPicture (drawn_if p present)
IsPicture-drawn_if p None is t = is
IsPicture-drawn_if p (Some ops) is t = IsPicture-drawn p ops is t

IsPicture-shown :
    (p : Grid Cell) (es : List Entry) → IsPicture p → list_all (λ e. event_fits p.width p.height e.event) es ≡ true
    → IsPicture (shown p es)
IsPicture-shown p [] is t = is
IsPicture-shown p (e ∷ es) is t =
    let both = and_parts (event_fits p.width p.height e.event) _ t in
    let same = SameSize-drawn_if p (present_of e.event) in
    IsPicture-shown (drawn_if p (present_of e.event)) es (IsPicture-drawn_if p (present_of e.event) is both.0)
    (rw (same.width, same.height) both.1)

-- what is drawn since the last picture began, black, is a picture
IsPicture-picture :
    (h : History) → IsPicture (black_in (desk_mode h)) → legal h ≡ true → IsPicture (picture h)
unfolding entries_fit
IsPicture-picture h is t =
    let start = (desk h).picture_start in
    let on = goes_on h start (begins_black h).last in
    subst IsPicture (sym (since_start h))
    (IsPicture-shown (black_in (desk_mode h)) (drop start h.entries) is (on.fit t))

pub legal_shows : LegalIsShown
legal_shows h size t =
    let is = IsPicture-picture h (IsPicture-black (desk_mode h).width (desk_mode h).height size) t in
    (is, IsSurface-seen (picture h) is)
