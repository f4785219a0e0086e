use Rattle.board_speed.proofs.calls.run.Given as goal

abbrev pub ghosts-calls_of-L-Named : goal.ghosts-calls_of-L-Named
ghosts-calls_of-L-Named g a = record { book = a.unnamed.book; spec = a.unnamed.spec }

abbrev pub ghosts-calls_of-L-Ledger : goal.ghosts-calls_of-L-Ledger
ghosts-calls_of-L-Ledger g a = record { name = a.unnamed.ledger; parts = a.unnamed.parts }

abbrev pub ghosts-length_of-L-Named : goal.ghosts-length_of-L-Named
ghosts-length_of-L-Named g a = record { book = a.unnamed.book; spec = a.unnamed.spec }

abbrev pub ghosts-length_of-L-Ledger : goal.ghosts-length_of-L-Ledger
ghosts-length_of-L-Ledger g a = record { name = a.unnamed.ledger; parts = a.unnamed.parts }
