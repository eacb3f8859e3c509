-- The ledgers are those of the two blanks.
use Rattle.server.proofs.serving.serve.Given as goal

abbrev pub ghosts-run_counted-C-Ledger : goal.ghosts-run_counted-C-Ledger
ghosts-run_counted-C-Ledger g a = record { name = a.blanks.0.name; parts = a.blanks.0.parts }

abbrev pub ghosts-run_counted-A-Ledger : goal.ghosts-run_counted-A-Ledger
ghosts-run_counted-A-Ledger g a = record { name = a.blanks.1.name; parts = a.blanks.1.parts }
