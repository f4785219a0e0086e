-- Words of private calls alone: what contracts see of a player's fields, and what is true of them.
use Rattle.std.specs.Prelude.{◌*◌, ◌≤◌, ◌^◌, length, take}
use Rattle.dd_record.specs.Reading.{NothingBad}
use Rattle.dd_record.specs.Grammar.{chunk_of}
use Rattle.dd_view.specs.declared.player.Player.TheInside.{Inside}
use Rattle.dd_view.specs.Player.{Reader, bytes_come, open_mode}

abbrev pub reader : Inside → Reader
reader p = record { asked = p.asked; stage = p.stage; at = p.at; rest = p.pending; played = p.played }

-- no more bytes came than a record may have, each frame was one of 42 bytes at least, and nothing of the first pending
-- bytes is bad
pub record IsReader (p : Inside) : Type 0 where
  pub few : bytes_come (reader p) ≤ 2 ^ 36
  pub frames : 42 * p.played.frames ≤ p.at
  pub tested : p.tested ≤ length p.pending
  pub before : NothingBad (chunk_of (open_mode p.played) (take p.tested p.pending))
