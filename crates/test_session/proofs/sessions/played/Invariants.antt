-- The ledgers are those of the two blanks.
use Rattle.test_session.proofs.sessions.played.Given as goal

abbrev pub ghosts-play-C-Ledger : goal.ghosts-play-C-Ledger
ghosts-play-C-Ledger g a = record { name = a.changes.name; parts = a.changes.parts }

abbrev pub ghosts-play-A-Ledger : goal.ghosts-play-A-Ledger
ghosts-play-A-Ledger g a = record { name = a.answers.name; parts = a.answers.parts }
