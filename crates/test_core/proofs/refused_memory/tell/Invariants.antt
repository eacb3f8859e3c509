-- The ledgers are those of the two blanks.
use Rattle.test_core.proofs.refused_memory.tell.Given as goal

abbrev pub ghosts-play_at-C-Ledger : goal.ghosts-play_at-C-Ledger
ghosts-play_at-C-Ledger g a = record { name = a.changes.name; parts = a.changes.parts }

abbrev pub ghosts-play_at-A-Ledger : goal.ghosts-play_at-A-Ledger
ghosts-play_at-A-Ledger g a = record { name = a.answers.name; parts = a.answers.parts }
