-- A duplicator's value, as contracts see it.
use Rattle.std.specs.Prelude.{◌≡◌, ℕ, ◌+◌, ◌-◌, Bool, true, false, if◌then◌else◌, List, length, Option, Some, None, option_map, Result, Ok, Err}
use Rattle.dd_geom.specs.Grid.{Grid, grid}
use Rattle.dd_grid.specs.Drawing.{hidden_points}
use Rattle.dd_bits.specs.CanonicalList.{canonical_list}
use Rattle.dd_modes.specs.declared.modes.Mode.{Mode}
use Rattle.dd_acc.specs.Effects.{all_effects, any_reaches, drawn_afresh}
use Rattle.dd_acc.specs.Rebuild.{any_has, rebuild}
use Rattle.dd_calls.specs.declared.answers.DupRefusal.{DupRefusal}
use Rattle.dd_calls.specs.declared.answers.DupRefusal.TheVariants.{AccessLost}
use Rattle.dd_log.specs.declared.events.Entry.{Entry}
use Rattle.dd_log.specs.History.{History, desk, desk_mode, first_entries, legal, any_begins}
use Rattle.dd_log.specs.Picture.{presents, picture, view}
use Rattle.dd_dup.specs.declared.frame.Frame.{Frame}
use Rattle.dd_dup.specs.News.{news, frame, held_moves, held_dirt}
use Rattle.dd_dup.specs.Reply.{Memory, is_lost, with_frame, without_frame, lost_memory}

-- its memory, its own surface, the points that are hidden there, the mode that it was opened in, and how many entries
-- it has counted
pub record Duplicator : Type 0 where
  pub memory : Memory
  pub surface : Grid ℕ
  pub hidden : Grid Bool
  pub mode : Mode
  pub folded : ℕ

-- after it holds the frame of what is new: its mark is the list's end, its surface and the hidden points are the
-- desk's, and the entries from the mark on are counted
abbrev pub holding : Duplicator → History → Duplicator
holding d h = record d {
  memory = with_frame d.memory (length h.entries) (frame h d.memory.mark d.memory.pointer_mark);
  surface = view h;
  hidden = hidden_points (picture h);
  folded = d.folded + (length h.entries - d.memory.mark);
}

-- after a release, and after it was told that it is lost
abbrev pub released : Duplicator → Duplicator
released d = record d { memory = without_frame d.memory }

abbrev pub losing : Duplicator → Duplicator
losing d = record d { memory = lost_memory d.memory }

-- after a call that only looks at the held frame: it is lost where that was found, or else as before
abbrev pub IsLookedAt : Duplicator → Duplicator → History → Type 0
IsLookedAt old new h = new ≡ (if is_lost old.memory h then losing old else old)

-- after a refusal: it is lost where that was the cause, or else as before
abbrev pub IsRefusedBy : DupRefusal → Duplicator → Duplicator → Type 0
IsRefusedBy AccessLost old new = new ≡ losing old
IsRefusedBy cause old new = new ≡ old

abbrev pub IsRefused : {A : Type 0} → Result A DupRefusal → Duplicator → Duplicator → Type 0
IsRefused (Ok x) old new = Unit {0}
IsRefused (Err cause) old new = IsRefusedBy cause old new

-- It has counted each entry once, those from where the desk's picture began at its opening up to its mark, also where
-- drawing them was spared.
abbrev pub IsFolded : Duplicator → History → Type 0
IsFolded d h = d.folded + (desk (first_entries d.memory.opened h)).picture_start ≡ d.memory.mark

-- the surface that is lent: none where no frame is held
abbrev pub lent : Duplicator → Option (Grid ℕ)
lent d = option_map (λ f. d.surface) d.memory.held

-- whether the dirty points of the held frame were rounded
abbrev pub held_coalesced : Option Frame → Bool
held_coalesced None = false
held_coalesced (Some f) = f.info.coalesced

-- The surface before, with the moves of the frame drawn in order and then its dirty points copied from the surface
-- after, is the surface after.
abbrev pub HeldRebuilds : Grid ℕ → Option Frame → Grid ℕ → Type 0
HeldRebuilds before held after = rebuild before (held_moves held) (held_dirt held) after ≡ after

-- Where the dirty points weren't rounded, each point of the frame's dirty rectangles lies in the rectangle of an
-- operation of these entries, or in a scroll's destination.
abbrev pub IsReached : Option Frame → List Entry → Type 0
IsReached held es =
    held_coalesced held ≡ false → (x y : ℕ) → any_has (held_dirt held) x y ≡ true → any_reaches (presents es) x y ≡ true

-- Where the dirty points weren't rounded, the frame's dirty rectangles are the canonical list of exactly the points
-- of a surface of this size that all effects of these entries together draw afresh.
abbrev pub IsExact : ℕ → ℕ → Option Frame → List Entry → Type 0
IsExact w h held es =
    held_coalesced held ≡ false → held_dirt held ≡ canonical_list (grid w h (drawn_afresh (all_effects (presents es))))

-- The same of the desk's size, and of the entries from a mark on.
abbrev pub IsExactSince : Option Frame → History → ℕ → Type 0
IsExactSince held h mark = IsExact (desk_mode h).width (desk_mode h).height held (news h mark)

-- For each legal list and each mark from which on no picture begins: what was seen at the mark, with the frame's moves
-- drawn in order and then its dirty points copied from what is seen at the end, is what is seen at the end.
abbrev pub FramesRebuild : Type 0
FramesRebuild =
    (h : History) (mark pointer_mark : ℕ) → legal h ≡ true → any_begins (news h mark) ≡ false
    → rebuild (view (first_entries mark h)) (frame h mark pointer_mark).moves (frame h mark pointer_mark).dirt (view h)
    ≡ view h

-- and the frame's dirt is where the entries of its interval drew
abbrev pub FramesAreReached : Type 0
FramesAreReached =
    (h : History) (mark pointer_mark : ℕ) → legal h ≡ true → any_begins (news h mark) ≡ false
    → IsReached (Some (frame h mark pointer_mark)) (news h mark)
