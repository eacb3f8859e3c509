-- The texts of the help don't change how words are read.
use Rattle.std.proofs.Common.{◌≡◌, ◌∙◌, ap, fold}
use Rattle.clap.specs.Words.{App, app_of, new_app}
use Rattle.command_line.specs.CommandRows.{with_row}
use Rattle.command_line.proofs.CommandRowsLemmas.{on_ok}
use Rattle.command_line.proofs.commands.command_of.Goals as goal

pub returns : goal.returns
returns c =
    let plain : app_of c.after_help-plain.result ≡ new_app c.args.row.now.name.now = rw (c.after_help-plain.ensures, c.about.ensures) c.new.ensures.app in
    on_ok _ _ c.with_options.result (λ x added. added ∙ ap (λ (a : App). fold with_row a c.args.row.now.options.now) plain) c.with_options.ensures
