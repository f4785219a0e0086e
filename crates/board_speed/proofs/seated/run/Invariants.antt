use Rattle.board_speed.proofs.seated.run.Given as goal

abbrev pub ghosts-sit_all-L-Named : goal.ghosts-sit_all-L-Named
ghosts-sit_all-L-Named g a = record { book = a.unnamed.book; spec = a.unnamed.spec }

abbrev pub ghosts-sit_all-L-Ledger : goal.ghosts-sit_all-L-Ledger
ghosts-sit_all-L-Ledger g a = record { name = a.unnamed.ledger; parts = a.unnamed.parts }
