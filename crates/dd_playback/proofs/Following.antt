-- A client's screen follows its memory: it shows what the memory says, also of each list that begins with this one.
use Rattle.std.proofs.Common.{◌≡◌, Option, Some, None}
use Rattle.dd_log.specs.History.{History, Begins}
use Rattle.dd_dup.specs.Reply.{Memory}
use Rattle.dd_view.specs.Playing.{Screen}
use Rattle.dd_trace.proofs.Running.{StandsFor}
use Rattle.dd_playback.proofs.Screens.{IsScreenOf, screen_later}

-- where the client has a memory, the screen is that of the memory
abbrev pub Follows : Option Screen → Option Memory → History → Type 0
Follows screen None h = Unit {0}
Follows screen (Some m) h = (s : Screen) × (screen ≡ Some s) × IsScreenOf m h s

pub follows_later : (screen : Option Screen) (m : Option Memory) (h later : History) → StandsFor m h → Begins h later
    → Follows screen m h → Follows screen m later
follows_later screen None h later stands begins follows = tt
follows_later screen (Some m) h later stands begins follows =
    (follows.0, follows.1, screen_later m h later follows.0 stands begins follows.2)
