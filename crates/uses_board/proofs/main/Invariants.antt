use Rattle.uses_board.proofs.main.Given as goal

abbrev pub ghosts-run-L-Named : goal.ghosts-run-L-Named
ghosts-run-L-Named g a = record { book = a.unnamed.book; spec = a.unnamed.spec }

abbrev pub ghosts-run-L-Ledger : goal.ghosts-run-L-Ledger
ghosts-run-L-Ledger g a = record { name = a.unnamed.ledger; parts = a.unnamed.parts }
