-- The ledgers are those of the two blanks.
use Rattle.test_core.proofs.book_calls.each_call_of_a_book.Given as goal

abbrev pub ghosts-each_call-C-Ledger : goal.ghosts-each_call-C-Ledger
ghosts-each_call-C-Ledger g a = record { name = a.changed.name; parts = a.changed.parts }

abbrev pub ghosts-each_call-A-Ledger : goal.ghosts-each_call-A-Ledger
ghosts-each_call-A-Ledger g a = record { name = a.answered.name; parts = a.answered.parts }
