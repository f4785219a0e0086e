-- That nothing of what covers hide reaches an answer.
use Rattle.std.specs.Prelude.{◌≡◌, ℕ, Option, Some, option_map}
use Rattle.dd_geom.specs.Grid.{Grid}
use Rattle.dd_log.specs.History.{History, first_entries}
use Rattle.dd_log.specs.Picture.{view}
use Rattle.dd_log.specs.Veil.{veil}
use Rattle.dd_calls.specs.declared.dup_call.DupCall.{DupCall}
use Rattle.dd_dup.specs.News.{frame}
use Rattle.dd_dup.specs.Reply.{Memory, reply}
use Rattle.dd_dup.specs.Duplicator.{Duplicator}
use Rattle.dd_dup.specs.Stands.{Stands}

-- Each call is answered on a list as on its veil, in which covers hide black, and leaves the same memory.
abbrev pub HiddenReplies : Type 0
HiddenReplies = (call : DupCall) (m : Memory) (h : History) → reply call m (veil h) ≡ reply call m h

-- the frame that is held is that of the veil, and the surface is what is seen of the veil
abbrev pub HoldsVeil : Duplicator → Duplicator → History → Type 0
HoldsVeil old new h =
    (new.memory.held ≡ Some (frame (veil h) old.memory.mark old.memory.pointer_mark)) × (new.surface ≡ view (veil h))

-- on each list on which a duplicator stands, a surface that it lends is what is seen of the veil at its mark
abbrev pub LendsVeil : Option (Grid ℕ) → Duplicator → Type 0
LendsVeil surface d =
    (h : History) → Stands d h
    → surface ≡ option_map (λ f. view (first_entries d.memory.mark (veil h))) d.memory.held
