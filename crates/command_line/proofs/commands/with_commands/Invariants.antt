-- The command line so far with the remaining commands is that with all.
use Rattle.std.proofs.Common.{◌≡◌, fold, drop}
use Rattle.clap.specs.Words.{app_of}
use Rattle.command_line.specs.CommandRows.{with_command}
use Rattle.command_line.proofs.commands.with_commands.Given as goal

abbrev pub invariant-loop-row : goal.invariant-loop-row
invariant-loop-row l =
    fold with_command (app_of l.command) (drop l.row-index l.rows) ≡ fold with_command (app_of l.fn.top) l.rows
