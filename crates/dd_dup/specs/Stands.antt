-- When a duplicator fits a list.
use Rattle.std.specs.Prelude.{◌≡◌, ◌+◌, ◌≤◌, true, false, length, take, drop, Option, Some, None, option_map}
use Rattle.dd_grid.specs.Drawing.{hidden_points}
use Rattle.dd_log.specs.History.{History, Begins, desk_mode, first_entries, opens_at, any_begins, any_cuts_off}
use Rattle.dd_log.specs.Picture.{picture, view}
use Rattle.dd_dup.specs.Duplicator.{Duplicator, IsFolded}
use Rattle.dd_dup.specs.Reply.{Memory}

-- The duplicator was opened in the list, and its marks lie in it. No picture began from the mark up to the opening. Its
-- mode is the desk's at the opening, and its surface and the hidden points are those of the desk at its mark. Where it
-- is lost there is a cause in the list, and no frame is held. It has counted each entry up to its mark once.
pub record Stands (d : Duplicator) (h : History) : Type 0 where
  pub opened : opens_at h d.memory.opened ≡ true
  pub marked : d.memory.mark ≤ length h.entries
  pub pointed : d.memory.pointer_mark ≤ length h.entries
  pub began : any_begins (drop d.memory.mark (take d.memory.opened h.entries)) ≡ false
  pub mode : d.mode ≡ desk_mode (first_entries d.memory.opened h)
  pub hidden : d.hidden ≡ hidden_points (picture (first_entries d.memory.mark h))
  pub surface : d.surface ≡ view (first_entries d.memory.mark h)
  pub lost : d.memory.lost ≡ true → any_cuts_off (drop (d.memory.opened + 1) h.entries) ≡ true
  pub free : d.memory.lost ≡ true → d.memory.held ≡ None
  pub folded : IsFolded d h

-- it stands on each list that begins with this one and has its opening there
abbrev pub StandsOnceOpened : Duplicator → History → Type 0
StandsOnceOpened d h = (later : History) → Begins h later → opens_at later d.memory.opened ≡ true → Stands d later

-- A duplicator that stands on a list stands on each list that begins with it.
abbrev pub StandsLater : Type 0
StandsLater = (d : Duplicator) (h later : History) → Stands d h → Begins h later → Stands d later

-- ---- of a client, which may have no duplicator

-- what its duplicator remembers
abbrev pub memory : Option Duplicator → Option Memory
memory dup = option_map (λ d. d.memory) dup

-- its duplicator, where it has one, stands on the list
abbrev pub MayStand : Option Duplicator → History → Type 0
MayStand None h = Unit {0}
MayStand (Some d) h = Stands d h
