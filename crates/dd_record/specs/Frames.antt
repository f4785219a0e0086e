-- A duplicator's frame as a chunk of a record, and that it keeps the rules of one.
use Rattle.std.specs.Prelude.{◌≡◌, ℕ, ◌+◌, ◌-◌, ◌≤◌, true, false, ◌||◌, FitsSigned, List, [], length, Option, Some, None, IfSome}
use Rattle.std.specs.Int.{w32}
use Rattle.std.specs.List.{flat_map, AllByRecursion}
use Rattle.dd_geom.specs.declared.rect.Rect.{Rect}
use Rattle.dd_geom.specs.Rect.{IsSize, place}
use Rattle.dd_geom.specs.Grid.{Grid, grid}
use Rattle.dd_grid.specs.Drawing.{colour_at}
use Rattle.dd_log.specs.declared.pointer.Pointer.{Pointer}
use Rattle.dd_log.specs.declared.events.Entry.{Entry}
use Rattle.dd_log.specs.declared.events.Event.{Event}
use Rattle.dd_log.specs.declared.events.TheConstants.{MAX_CAPACITY}
use Rattle.dd_log.specs.History.{History, desk_mode, legal, pointer_in, shape_in, any_begins, any_presents, any_points}
use Rattle.dd_log.specs.Picture.{view}
use Rattle.dd_dup.specs.declared.frame.Frame.{Frame}
use Rattle.dd_dup.specs.Duplicator.{Duplicator}
use Rattle.dd_dup.specs.News.{news, frame}
use Rattle.dd_record.specs.declared.chunk.FrameChunk.{FrameChunk}
use Rattle.dd_record.specs.Writing.{frame_bytes, KeepsShape, KeepsRules}

-- the part of a surface that lies in a rectangle
abbrev pub part : Grid ℕ → Rect → Grid ℕ
part s r =
    grid (place r.right - place r.left) (place r.bottom - place r.top)
    (λ x y. colour_at s (place r.left + x) (place r.top + y))

-- the colours of some rectangles, one rectangle after another, row by row
unfoldable pub pixels_in : Grid ℕ → List Rect → List ℕ
pixels_in s rects = flat_map (λ r. (part s r).cells) rects

-- what a record has of a frame whose surface is this one
abbrev pub frame_chunk : Frame → Grid ℕ → FrameChunk
frame_chunk f s =
    record { info = f.info; moves = f.moves; dirt = f.dirt; pixels = pixels_in s f.dirt; shape = f.shape }

-- the bytes of the frame that a duplicator holds, whose surface is its own; none where it holds none
abbrev pub frame_bytes_of : Option Frame → Grid ℕ → List ℕ
frame_bytes_of None s = []
frame_bytes_of (Some f) s = frame_bytes (frame_chunk f s)

abbrev pub held_bytes : Duplicator → List ℕ
held_bytes d = frame_bytes_of d.memory.held d.surface

-- the pointer's position is of coordinates of 32 bits with a sign
abbrev pub FitsPointer : Pointer → Type 0
FitsPointer p = FitsSigned w32 p.position.x × FitsSigned w32 p.position.y

-- where an event sets the pointer, to such a position; where it gives the pointer a shape, one that a record may have
abbrev pub PointerInRange : Event → Type 0
PointerInRange e = IfSome (pointer_in e) FitsPointer × IfSome (shape_in e) KeepsShape

-- and each of some entries
abbrev pub PointersInRange : List Entry → Type 0
PointersInRange es = AllByRecursion (λ e. PointerInRange e.event) es

-- Each frame that a duplicator can be given keeps the rules. The list is legal and of a capacity that lists may have,
-- its desk has a size that surfaces have, and its pointers are in range; the marks lie in it, and no picture begins
-- from the mark on; a present came since the mark, or the pointer or its shape was set since the pointer mark.
abbrev pub FramesKeepRules : Type 0
FramesKeepRules =
    (h : History) (mark pointer_mark : ℕ)
    → legal h ≡ true → IsSize (desk_mode h).width (desk_mode h).height → h.spec.capacity ≤ MAX_CAPACITY
    → 1 ≤ h.spec.capacity → any_begins (news h mark) ≡ false → mark ≤ length h.entries → pointer_mark ≤ length h.entries
    → (any_presents (news h mark) || any_points (news h pointer_mark)) ≡ true → PointersInRange h.entries
    → KeepsRules (desk_mode h) (frame_chunk (frame h mark pointer_mark) (view h))
