-- The program's commands are those of its rows.
use Rattle.std.proofs.Common.{◌≡◌, codes, true, ap, ◌∙◌, fold}
use Rattle.clap.specs.Words.{App, app_of}
use Rattle.command_line.specs.CommandLine.{central_app, top_command}
use Rattle.command_line.specs.CommandRows.{with_command}
use Rattle.command_line.proofs.CommandRowsLemmas.{on_ok, with_all}
use Rattle.command_line.proofs.commands.central_command.Goals as goal

pub returns : goal.returns
unfolding central_app
returns c =
    let top : app_of c.subcommand_required-top.result ≡ top_command (codes "central") =
    rw (c.subcommand_required-top.ensures, c.after_help.ensures, c.about.ensures, c.version.ensures)
    (ap (λ (a : App). record a { top = record a.top { has_version = true; subcommand_required = true } }) c.new.ensures.app) in
    let rows = c.command_rows.result in
    on_ok _ _ c.with_commands.result
    (λ x added. added ∙ ap (λ (a : App). fold with_command a rows) top ∙ with_all (top_command (codes "central")) rows c.command_rows.ensures)
    c.with_commands.ensures
