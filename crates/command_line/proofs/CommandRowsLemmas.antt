-- The clap command of a row, built option by option.
use Rattle.std.proofs.Common.{◌≡◌, ℕ, ◌+◌, ◌<◌, ◌≤◌, Bool, not, List, [], ◌∷◌, Result, Ok, Err, IfOk, true, false, drop, fold, get_or, length, map, refl, sym, ap, ◌∙◌}
use Rattle.std.proofs.lemmas.List.{at_drop_all, at_drop_more}
use Rattle.clap.specs.Words.{AddsArg, AddsSubcommand, App, Rule, app_of, new_app, rule_of, with_rule, with_subcommand}
use Rattle.clap.specs.declared.builder.arg.Arg.{Arg}
use Rattle.clap.specs.declared.builder.command.Command.{Command}
use Rattle.clap.specs.declared.builder.command.Command.TheViews.{out-Command}
use Rattle.clap.proofs.WalkLemmas.{both}
use Rattle.command_line.specs.CommandLine.{with_readers, with_served}
use Rattle.command_line.specs.CommandRows.{app_of_row, central_commands, rule_of_row, with_command, with_row}
use Rattle.command_line.specs.declared.option_row.CommandRow.{CommandRow}
use Rattle.command_line.specs.declared.option_row.OptionRow.{OptionRow}

pub on_ok : {A E : Type 0} (P Q : A → Type 0) (r : Result A E) → ((x : A) → P x → Q x) → IfOk r P → IfOk r Q
on_ok P Q (Ok x) step h = step x h
on_ok P Q (Err e) step h = tt

-- a command with one more argument
argued : (old new : Command) (arg : Arg) (rule : Rule) → AddsArg old arg new → arg.global ≡ false → rule_of arg ≡ rule
    → app_of new ≡ with_rule (app_of old) rule
argued old new arg rule adds local of = adds.shape local ∙ ap (with_rule (app_of old)) of

-- with the next row's option, the remaining rows lead to the same command
pub next_row : (rows : List OptionRow) (i : ℕ) (d : OptionRow) (old new : Command) (arg : Arg) (whole : App)
    → i < length rows → AddsArg old arg new → arg.global ≡ false → rule_of arg ≡ rule_of_row (get_or rows i d)
    → fold with_row (app_of old) (drop i rows) ≡ whole → fold with_row (app_of new) (drop (i + 1) rows) ≡ whole
next_row rows i d old new arg whole lt adds local of so_far =
    ap (λ (a : App). fold with_row a (drop (i + 1) rows)) (argued old new arg _ adds local of)
    ∙ sym (at_drop_more (fold with_row (app_of old)) rows i d lt)
    ∙ so_far

-- after the last row the command is complete
pub last_row : (rows : List OptionRow) (i : ℕ) (app whole : App) → length rows ≤ i → fold with_row app (drop i rows) ≡ whole → app ≡ whole
last_row rows i app whole le so_far = sym (at_drop_all (fold with_row app) rows i le) ∙ so_far

not_true : (b : Bool) → not b ≡ true → b ≡ false
not_true true h = absurd (cc)
not_true false h = refl

-- a command that reads words plainly has no global argument
has_no_globals : (c : Command) → (app_of c).top.is_plain ≡ true → (out-Command c).has_globals ≡ false
has_no_globals c plain = not_true _ (both _ _ (both _ _ (both _ _ plain).1).1).0

-- a command of rows reads words plainly
is_plain_with : (rows : List OptionRow) (app : App) → app.top.is_plain ≡ true → (fold with_row app rows).top.is_plain ≡ true
is_plain_with [] app plain = plain
is_plain_with (row ∷ rows) app plain = is_plain_with rows (with_row app row) plain

-- a command with one more subcommand, which a row defines
joined : (old new sub : Command) (row : CommandRow) → AddsSubcommand old sub new → app_of sub ≡ app_of_row row
    → app_of new ≡ with_subcommand (app_of old) (app_of_row row).top
joined old new sub row adds of =
    let plain = is_plain_with row.options.now (new_app row.name.now) refl in
    adds.shape (has_no_globals sub (ap (λ (a : App). a.top.is_plain) of ∙ plain))
    ∙ ap (λ (a : App). with_subcommand (app_of old) a.top) of

-- with the next row's command, the remaining rows lead to the same command line
pub next_command : (rows : List CommandRow) (i : ℕ) (d : CommandRow) (old new sub : Command) (whole : App)
    → i < length rows → AddsSubcommand old sub new → app_of sub ≡ app_of_row (get_or rows i d)
    → fold with_command (app_of old) (drop i rows) ≡ whole → fold with_command (app_of new) (drop (i + 1) rows) ≡ whole
next_command rows i d old new sub whole lt adds of so_far =
    ap (λ (a : App). fold with_command a (drop (i + 1) rows)) (joined old new sub (get_or rows i d) adds of)
    ∙ sym (at_drop_more (fold with_command (app_of old)) rows i d lt)
    ∙ so_far

-- after the last row the command line is complete
pub last_command : (rows : List CommandRow) (i : ℕ) (app whole : App) → length rows ≤ i → fold with_command app (drop i rows) ≡ whole → app ≡ whole
last_command rows i app whole le so_far = sym (at_drop_all (fold with_command app) rows i le) ∙ so_far

-- the commands of rows, added in turn
add_in_turn : List App → App → App
add_in_turn apps app = fold (λ (a sub : App). with_subcommand a sub.top) app apps

in_turn : (app : App) (rows : List CommandRow) → fold with_command app rows ≡ add_in_turn (map app_of_row rows) app
unfolding add_in_turn
in_turn app [] = refl
in_turn app (row ∷ rows) = in_turn (with_command app row) rows

-- the rows of the program's commands add those that use sockets, and those that read
pub with_all : (app : App) (rows : List CommandRow) → map app_of_row rows ≡ central_commands → fold with_command app rows ≡ with_readers (with_served app)
unfolding add_in_turn
with_all app rows these = in_turn app rows ∙ ap (λ (apps : List App). add_in_turn apps app) these
