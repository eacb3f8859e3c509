-- Each option is that of the next row, until none is left.
use Rattle.std.proofs.Common.{[], arith}
use Rattle.command_line.specs.declared.option_row.OptionRow.{OptionRow}
use Rattle.command_line.specs.declared.option_row.OptionRow.TheVariants.{Needed}
use Rattle.command_line.proofs.CommandRowsLemmas.{last_row, next_row}
use Rattle.command_line.proofs.commands.with_options.Goals as goal

-- the value for an index after the end of the list
abbrev no_row : OptionRow
no_row =
    Needed (record { ref_ptr = (0, 0); now = [] }) (record { ref_ptr = (0, 0); now = [] })
    (record { ref_ptr = (0, 0); now = [] })

pub loop-row-preserved : goal.loop-row-preserved
loop-row-preserved c =
    next_row c.args.rows.now c.loop-row.row-index no_row _ _ _ _ (omega arith) c.in_ok-command.ensures
    c.arg_of.ensures.global c.arg_of.ensures.rule c.loop-row.invariant

pub returns : goal.returns
returns c = last_row c.args.rows.now c.loop-row.row-index _ _ (omega arith) c.loop-row.invariant
