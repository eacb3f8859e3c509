-- The ledgers are those of the two blanks.
use Rattle.journal_reader.proofs.followed_journal.follow_journal.Given as goal

abbrev pub ghosts-follow_counted-C-Ledger : goal.ghosts-follow_counted-C-Ledger
ghosts-follow_counted-C-Ledger g a = record { name = a.blanks.0.name; parts = a.blanks.0.parts }

abbrev pub ghosts-follow_counted-A-Ledger : goal.ghosts-follow_counted-A-Ledger
ghosts-follow_counted-A-Ledger g a = record { name = a.blanks.1.name; parts = a.blanks.1.parts }
