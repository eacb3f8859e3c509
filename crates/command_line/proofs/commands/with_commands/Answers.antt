-- Each command is that of the next row, until none is left.
use Rattle.std.proofs.Common.{[], arith}
use Rattle.command_line.specs.declared.option_row.CommandRow.{CommandRow}
use Rattle.command_line.proofs.CommandRowsLemmas.{last_command, next_command}
use Rattle.command_line.proofs.commands.with_commands.Goals as goal

-- the value for an index after the end of the list
abbrev no_row : CommandRow
no_row = record {
  name = record { ref_ptr = (0, 0); now = [] };
  about = record { ref_ptr = (0, 0); now = [] };
  notes = record { ref_ptr = (0, 0); now = [] };
  options = record { ref_ptr = (0, 0); now = [] };
}

pub loop-row-preserved : goal.loop-row-preserved
loop-row-preserved c =
    next_command c.args.rows.now c.loop-row.row-index no_row _ _ _ _ (omega arith) c.in_ok-command.ensures
    c.in_ok-command_of.ensures c.loop-row.invariant

pub returns : goal.returns
returns c = last_command c.args.rows.now c.loop-row.row-index _ _ (omega arith) c.loop-row.invariant
