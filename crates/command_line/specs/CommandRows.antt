-- The commands and options that the rows of the code's tables define.
use Rattle.std.specs.Prelude.{List, [], ◌∷◌, fold}
use Rattle.clap.specs.Words.{App, Rule, new_app, with_rule, with_subcommand}
use Rattle.command_line.specs.CommandLine.{call_command, check_command, explain_command, flag, journal_command, key_command, needed, numbered, optional, optional_numbers, optional_values, point_command, replay_command, run_command, serve_command, show_command, status_command}
use Rattle.command_line.specs.declared.option_row.CommandRow.{CommandRow}
use Rattle.command_line.specs.declared.option_row.OptionRow.{OptionRow}
use Rattle.command_line.specs.declared.option_row.OptionRow.TheVariants.{Needed, Optional, NeededNumber, Number, Flag, Asking, Starting}

-- how clap reads an option
abbrev pub rule_of_row : OptionRow → Rule
rule_of_row (Needed name value help) = needed name.now
rule_of_row (Optional name value help) = optional name.now
rule_of_row (NeededNumber name value help least most) = numbered least most (needed name.now)
rule_of_row (Number name value help least most) = numbered least most (optional name.now)
rule_of_row (Flag name help) = flag name.now
rule_of_row (Asking name help) = optional_numbers name.now 2147483647
rule_of_row (Starting name help) = optional_values name.now

abbrev pub with_row : App → OptionRow → App
with_row app row = with_rule app (rule_of_row row)

-- how it reads a command
abbrev pub app_of_row : CommandRow → App
app_of_row row = fold with_row (new_app row.name.now) row.options.now

abbrev pub with_command : App → CommandRow → App
with_command app row = with_subcommand app (app_of_row row).top

-- the program's commands, in the order of its help
abbrev pub central_commands : List App
central_commands =
    run_command ∷ status_command ∷ key_command ∷ serve_command ∷ call_command ∷ point_command
    ∷ journal_command ∷ replay_command ∷ explain_command ∷ check_command ∷ show_command ∷ []
