-- The command so far with the remaining options is that with all.
use Rattle.std.proofs.Common.{◌≡◌, fold, drop}
use Rattle.clap.specs.Words.{app_of}
use Rattle.command_line.specs.CommandRows.{with_row}
use Rattle.command_line.proofs.commands.with_options.Given as goal

abbrev pub invariant-loop-row : goal.invariant-loop-row
invariant-loop-row l =
    fold with_row (app_of l.command) (drop l.row-index l.rows) ≡ fold with_row (app_of l.fn.plain) l.rows
