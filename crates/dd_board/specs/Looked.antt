-- What a look leaves.
use Rattle.std.specs.Prelude.{◌≡◌, ℕ, List}
use Rattle.dd_log.specs.History.{History}
use Rattle.dd_board.specs.declared.looking.Call.{Call}
use Rattle.dd_board.specs.declared.looking.LookAnswer.{LookAnswer}
use Rattle.dd_board.specs.declared.looking.LookAnswer.TheVariants.{NotEntered}
use Rattle.dd_dup.specs.Stands.{memory}
use Rattle.dd_board.specs.Clients.{ClientState}
use Rattle.dd_board.specs.Looking.{IsLook, one_refused}

-- The list answers, and no refusal is counted. Or the look wasn't let in, which is counted, and nothing else changed.
abbrev pub IsLooked : LookAnswer → Call → ClientState → ClientState → History → List ℕ → List ℕ → Type 0
IsLooked NotEntered call old new h b c = (new ≡ record old { refusals = one_refused old.refusals }) × (c ≡ b)
IsLooked answer call old new h b c =
    (new.refusals ≡ old.refusals) × IsLook answer call (memory old.dup) (memory new.dup) h b c
