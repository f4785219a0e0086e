-- The desk and its picture: what the entries of a list make of them.
use Rattle.std.specs.Prelude.{◌≡◌, ◌≤◌, ℕ, true, false, if◌then◌else◌, List, length, drop, fold, Option, Some, None, filter_map}
use Rattle.dd_geom.specs.Grid.{Grid}
use Rattle.dd_geom.specs.Rect.{IsSize}
use Rattle.dd_grid.specs.Cell.{Cell}
use Rattle.dd_grid.specs.Drawing.{black, seen, IsPicture, IsSurface}
use Rattle.dd_modes.specs.declared.modes.Mode.{Mode}
use Rattle.dd_ops.specs.declared.operations.Op.{Op}
use Rattle.dd_ops.specs.Operations.{drawn}
use Rattle.dd_log.specs.declared.desk.Desk.{Desk}
use Rattle.dd_log.specs.declared.events.Entry.{Entry}
use Rattle.dd_log.specs.declared.events.Event.{Event}
use Rattle.dd_log.specs.Desk.{first_desk, desk_after}
use Rattle.dd_log.specs.Events.{present_of, begins_picture, any_begins}
use Rattle.dd_log.specs.History.{History, desk, desk_mode, first_entries, entries_fit, legal}

-- the presents among some entries, in order
unfoldable pub presents : List Entry → List (List Op)
presents es = filter_map (λ e. present_of e.event) es

-- the picture after a present, where there is one
abbrev pub drawn_if : Grid Cell → Option (List Op) → Grid Cell
drawn_if p None = p
drawn_if p (Some ops) = drawn p ops

-- the picture after one event more, which begins none
abbrev pub shown_after : Grid Cell → Event → Grid Cell
shown_after p e = drawn_if p (present_of e)

abbrev pub shown : Grid Cell → List Entry → Grid Cell
shown p es = fold (λ q e. shown_after q e.event) p es

-- the black picture of a mode
abbrev pub black_in : Mode → Grid Cell
black_in mode = black mode.width mode.height

-- the picture after one event more, in the mode that stands then
abbrev pub picture_after : Mode → Grid Cell → Event → Grid Cell
picture_after mode p e = if begins_picture e then black_in mode else shown_after p e

-- the desk, and its picture
pub record State : Type 0 where
  pub desk : Desk
  pub picture : Grid Cell

abbrev pub first_state : List Mode → State
first_state modes = record { desk = first_desk modes; picture = black_in (first_desk modes).mode }

-- after one entry more: the picture changes with the mode
abbrev pub state_after : List Mode → State → Entry → State
state_after modes s e =
    record {
      desk = desk_after modes s.desk e;
      picture = picture_after (desk_after modes s.desk e).mode s.picture e.event;
    }

-- after some entries
unfoldable pub state_of : List Mode → List Entry → State
state_of modes es = fold (state_after modes) (first_state modes) es

-- the desk's picture
unfoldable pub picture : History → Grid Cell
picture h = (state_of h.spec.modes h.entries).picture

-- what is seen of the desk, hidden points black
abbrev pub view : History → Grid ℕ
view h = seen (picture h)

-- of a legal list, in a mode of a size that surfaces have, the picture is a picture, and what is seen of it a surface
abbrev pub LegalIsShown : Type 0
LegalIsShown =
    (h : History) → IsSize (desk_mode h).width (desk_mode h).height → legal h ≡ true
    → IsPicture (picture h) × IsSurface (view h)

-- entries that begin no picture draw on the one before them, in one mode, which all of them fit where the list is legal
pub record GoesOn (h : History) (place : ℕ) : Type 0 where
  pub picture : picture h ≡ shown (picture (first_entries place h)) (drop place h.entries)
  pub mode : desk_mode (first_entries place h) ≡ desk_mode h
  pub fit : legal h ≡ true → entries_fit (desk_mode h).width (desk_mode h).height (drop place h.entries) ≡ true

abbrev pub PictureGoesOn : Type 0
PictureGoesOn = (h : History) (place : ℕ) → any_begins (drop place h.entries) ≡ false → GoesOn h place

-- where the last picture begins it is black, and none begins later
pub record BeginsBlack (h : History) (place : ℕ) : Type 0 where
  pub within : place ≤ length h.entries
  pub black : picture (first_entries place h) ≡ black_in (desk_mode h)
  pub last : any_begins (drop place h.entries) ≡ false

abbrev pub PictureBegins : Type 0
PictureBegins = (h : History) → BeginsBlack h (desk h).picture_start

-- what stands before the place where the last picture begins doesn't matter
abbrev pub PictureSinceStart : Type 0
PictureSinceStart = (h : History) → picture h ≡ shown (black_in (desk_mode h)) (drop (desk h).picture_start h.entries)
