-- What an acquire does where it is granted.
use Rattle.std.specs.Prelude.{◌≡◌, ◌+◌, ◌-◌, length}
use Rattle.dd_log.specs.History.{History}
use Rattle.dd_log.specs.Picture.{view}
use Rattle.dd_dup.specs.News.{news}
use Rattle.dd_dup.specs.Duplicator.{Duplicator, HeldRebuilds, IsReached, IsExactSince}
use Rattle.dd_dup.specs.Veil.{HoldsVeil}

-- The surface then is what is seen of the desk, and the frame that is held rebuilds it from the one before. The frame's
-- dirt is where the entries from the mark on drew, and exactly what they draw afresh, unless it was rounded. Frame and
-- surface are those of the veil. Each entry from the mark on is counted.
pub record Acquires (old new : Duplicator) (h : History) : Type 0 where
  pub surface : new.surface ≡ view h
  pub rebuilt : HeldRebuilds old.surface new.memory.held new.surface
  pub reached : IsReached new.memory.held (news h old.memory.mark)
  pub honest : IsExactSince new.memory.held h old.memory.mark
  pub veiled : HoldsVeil old new h
  pub folded : new.folded ≡ old.folded + (length h.entries - old.memory.mark)
