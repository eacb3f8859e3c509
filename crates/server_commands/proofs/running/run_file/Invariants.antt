-- The ledgers are those of the two blanks, and the ghost lists are those that have no name yet.
use Rattle.std.specs.Prelude.{true}
use Rattle.server_commands.proofs.running.run_file.Given as goal

abbrev pub ghosts-run_counted-C-Ledger : goal.ghosts-run_counted-C-Ledger
ghosts-run_counted-C-Ledger g a = record { name = a.blanks.0.name; parts = a.blanks.0.parts }

abbrev pub ghosts-run_counted-A-Ledger : goal.ghosts-run_counted-A-Ledger
ghosts-run_counted-A-Ledger g a = record { name = a.blanks.1.name; parts = a.blanks.1.parts }

abbrev pub ghosts-run_counted-N-ListName : goal.ghosts-run_counted-N-ListName
ghosts-run_counted-N-ListName g a = record {
  name = a.ghost_lists.0.name;
  companion = a.ghost_lists.1.name;
  is_recorded = true;
}
