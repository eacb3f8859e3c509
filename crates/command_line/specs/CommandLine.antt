-- The meaning of a command line, by clap's definition of how words are read, and one rule more:
-- that of two scripts.
use Rattle.std.specs.Prelude.{◌≡◌, ◌<◌, ◌≤◌, ◌^◌, ◌&&◌, Bool, true, false, ℕ, List, [], ◌∷◌, codes, Option, None, Some, IfSome, if◌then◌else◌, is_some, option_map}
use Rattle.std.specs.Option.{option_map_or}
use Rattle.std.specs.Str.Parse.{IsNumeral, digits_value, without_leading_plus}
use Rattle.jobs.specs.Limits.{default_call_timeout, default_seats, default_workers, max_call_timeout, max_connectors, max_line, max_seats, max_sessions, max_wait, max_workers}
use Rattle.clap.specs.Kinds.{or_else}
use Rattle.clap.specs.Words.{App, Kinds, Row, Rule, Text, all_of, fault_of, first_of, new_app, new_rule, one_of, subcommand_of, with_rule, with_subcommand}
use Rattle.clap.specs.declared.builder.action.ArgAction.TheVariants.{Set, SetTrue}
use Rattle.clap.specs.declared.builder.value_parser.ValueParser.TheVariants.{Unsigned}
use Rattle.clap.specs.declared.error.kind.ErrorKind.TheVariants.{ArgumentConflict}
use Rattle.jobs.specs.declared.job.Job.{Job}
use Rattle.jobs.specs.declared.job.Job.TheVariants.{Replay, Serve, Run, Journal, Key, Call, Point, Explain, Check, Show, Status}
use Rattle.jobs.specs.declared.job.Replaying.{Replaying}
use Rattle.jobs.specs.declared.job.Serving.{Serving}
use Rattle.jobs.specs.declared.job.Running.{Running}
use Rattle.jobs.specs.declared.job.KeyMaking.{KeyMaking}
use Rattle.jobs.specs.declared.job.Calling.{Calling}
use Rattle.jobs.specs.declared.job.Asking.{Asking}
use Rattle.jobs.specs.declared.job.Starting.{Starting}
use Rattle.jobs.specs.declared.job.Pointing.{Pointing}
use Rattle.jobs.specs.declared.job.Explaining.{Explaining}
use Rattle.jobs.specs.declared.job.Checking.{Checking}
use Rattle.jobs.specs.declared.job.Showing.{Showing}
use Rattle.jobs.specs.declared.job.Source.{Source}
use Rattle.jobs.specs.declared.job.Source.TheVariants as source

-- ---- the commands

-- an option that takes a value
abbrev pub option : Text → Rule
option name = record (new_rule name) { long = Some name; action = Some Set }

-- the same, with a name for the value in the help
abbrev pub optional : Text → Rule
optional name = record (option name) { value_names = 1 }

-- a required option
abbrev pub needed : Text → Rule
needed name = record (optional name) { required = true }

-- an option whose value is a whole number from a least to a most
abbrev pub numbered : ℕ → ℕ → Rule → Rule
numbered least most rule = record rule { parser = Some (Unsigned least most) }

-- an option without a value
abbrev pub flag : Text → Rule
flag name = record (new_rule name) { long = Some name; action = Some SetTrue }

-- the site, folder, address and keys of a run: `--site F --data DIR --listen A [--keys FILE]`
abbrev pub with_places : App → App
with_places app =
    with_rule (with_rule (with_rule (with_rule app
    (needed (codes "site")))
    (needed (codes "data")))
    (needed (codes "listen")))
    (optional (codes "keys"))

-- counts and a time: `[--seats N] [--workers N] [--call-timeout SECONDS]`
abbrev pub with_counts : App → App
with_counts app =
    with_rule (with_rule (with_rule app
    (numbered 1 max_seats (optional (codes "seats"))))
    (numbered 1 max_workers (optional (codes "workers"))))
    (numbered 1 max_call_timeout (optional (codes "call-timeout")))

-- the status port, and boots: `[--status B] [--status-open] [--after-boot nothing]`
abbrev pub with_status : App → App
with_status app =
    with_rule (with_rule (with_rule app
    (optional (codes "status")))
    (flag (codes "status-open")))
    (optional (codes "after-boot"))

-- `run --site F --data DIR --listen A [--keys FILE] [--seats N] [--workers N]
-- [--call-timeout SECONDS] [--status B] [--status-open] [--after-boot nothing]`
abbrev pub run_command : App
run_command = with_status (with_counts (with_places (new_app (codes "run"))))

-- `key --name NAME [--operator]`
abbrev pub key_command : App
key_command =
    with_rule (with_rule (new_app (codes "key"))
    (needed (codes "name")))
    (flag (codes "operator"))

-- `journal --data DIR`
abbrev pub journal_command : App
journal_command = with_rule (new_app (codes "journal")) (needed (codes "data"))

-- the script to play: `[--data DIR | --script FILE]`
abbrev pub with_script : App → App
with_script app =
    with_rule (with_rule app
    (optional (codes "data")))
    (optional (codes "script"))

-- `replay --site F [--data DIR | --script FILE]`
abbrev pub replay_command : App
replay_command = with_script (with_rule (new_app (codes "replay")) (needed (codes "site")))

-- `serve --site F --listen A --workers N --sessions K`
abbrev pub serve_command : App
serve_command =
    with_rule (with_rule (with_rule (with_rule (new_app (codes "serve"))
    (needed (codes "site")))
    (needed (codes "listen")))
    (numbered 1 max_workers (needed (codes "workers"))))
    (numbered 1 max_sessions (needed (codes "sessions")))

-- an option with two whole numbers, which have names in the help
abbrev pub optional_numbers : Text → ℕ → Rule
optional_numbers name most = record (option name) {
  range = Some (record { start_inclusive = 2; end_inclusive = 2 });
  value_names = 2;
  parser = Some (Unsigned 0 most);
}

-- an option with two or three values, which have names in the help
abbrev pub optional_values : Text → Rule
optional_values name = record (option name) {
  range = Some (record { start_inclusive = 2; end_inclusive = 3 });
  value_names = 3;
}

-- the destinations of calls: `--url U [--login FILE] [--all] [--site F] [--data DIR]`
abbrev pub with_callees : App → App
with_callees app =
    with_rule (with_rule (with_rule (with_rule (with_rule app
    (needed (codes "url")))
    (optional (codes "login")))
    (flag (codes "all")))
    (optional (codes "site")))
    (optional (codes "data"))

-- the calls: `[--set-profile FILE] [--clear CRITERIA] [--remote-start CONNECTOR TAG [FILE]] [--ask
-- CONNECTOR SECONDS] [--audit CONNECTOR SECONDS] [--status]`
abbrev pub with_calls : App → App
with_calls app =
    with_rule (with_rule (with_rule (with_rule (with_rule (with_rule app
    (optional (codes "set-profile")))
    (optional (codes "clear")))
    (optional_values (codes "remote-start")))
    (optional_numbers (codes "ask") 2147483647))
    (optional_numbers (codes "audit") 2147483647))
    (flag (codes "status"))

-- the line to undo, the wait, and whether calls are sent:
-- `[--undo LINE] [--wait SECONDS] [--force] [--dry-run]`
abbrev pub with_sending : App → App
with_sending app =
    with_rule (with_rule (with_rule (with_rule app
    (numbered 1 max_line (optional (codes "undo"))))
    (numbered 1 max_wait (optional (codes "wait"))))
    (flag (codes "force")))
    (flag (codes "dry-run"))

-- `call --url U [--login FILE] [--all] [--site F] [--data DIR] [--set-profile FILE]
-- [--clear CRITERIA] [--remote-start CONNECTOR TAG [FILE]] [--ask CONNECTOR SECONDS]
-- [--audit CONNECTOR SECONDS] [--status] [--undo LINE] [--wait SECONDS] [--force] [--dry-run]`
abbrev pub call_command : App
call_command = with_sending (with_calls (with_callees (new_app (codes "call"))))

-- `point --url U --site F --id ID [--login FILE]`
abbrev pub point_command : App
point_command =
    with_rule (with_rule (with_rule (with_rule (new_app (codes "point"))
    (needed (codes "url")))
    (needed (codes "site")))
    (needed (codes "id")))
    (optional (codes "login"))

-- `status --url U`
abbrev pub status_command : App
status_command = with_rule (new_app (codes "status")) (needed (codes "url"))

-- the schedule to explain: `--site F --point ID --connector C --start INSTANT --duration D`
abbrev pub with_request : App → App
with_request app =
    with_rule (with_rule (with_rule (with_rule (with_rule app
    (needed (codes "site")))
    (needed (codes "point")))
    (numbered 0 max_connectors (needed (codes "connector"))))
    (needed (codes "start")))
    (needed (codes "duration"))

-- how it is printed: `[--at PLACE] [--zone NAME] [--picture FILE] [--json]`
abbrev pub with_picture : App → App
with_picture app =
    with_rule (with_rule (with_rule (with_rule app
    (optional (codes "at")))
    (optional (codes "zone")))
    (optional (codes "picture")))
    (flag (codes "json"))

-- `explain --site F --point ID --connector C --start INSTANT --duration D
-- [--data DIR | --script FILE] [--at PLACE] [--zone NAME] [--picture FILE] [--json]`
abbrev pub explain_command : App
explain_command = with_picture (with_script (with_request (new_app (codes "explain"))))

-- `check --site F [--keys FILE] [--data DIR | --script FILE] [--trace]`
abbrev pub check_command : App
check_command =
    with_rule (with_script (with_rule (with_rule (new_app (codes "check"))
    (needed (codes "site")))
    (optional (codes "keys"))))
    (flag (codes "trace"))

-- `show --site F [--data DIR | --script FILE] [--at PLACE] [--json]`
abbrev pub show_command : App
show_command =
    with_rule (with_rule (with_script (with_rule (new_app (codes "show"))
    (needed (codes "site"))))
    (optional (codes "at")))
    (flag (codes "json"))

-- a command that prints its version, and needs one of its subcommands
abbrev pub top_command : Text → App
top_command name =
    record (new_app name) {
      top = record (new_app name).top { has_version = true; subcommand_required = true };
    }

-- the commands that use sockets
abbrev pub with_served : App → App
with_served app =
    with_subcommand (with_subcommand (with_subcommand (with_subcommand (with_subcommand
    (with_subcommand app run_command.top) status_command.top) key_command.top) serve_command.top)
    call_command.top) point_command.top

-- the commands that read a script or a journal
abbrev pub with_readers : App → App
with_readers app =
    with_subcommand (with_subcommand (with_subcommand (with_subcommand (with_subcommand app
    journal_command.top) replay_command.top) explain_command.top) check_command.top) show_command.top

-- the program's commands
unfoldable pub central_app : App
central_app = with_readers (with_served (top_command (codes "central")))

-- the subcommand that the words name, and its options
unfoldable pub subcommand_named : List Text → Option (Text × List Row)
subcommand_named words = subcommand_of central_app words

-- two options name a script
abbrev pub has_two_scripts : List Row → Bool
has_two_scripts rows =
    is_some (first_of (codes "data") rows) && is_some (first_of (codes "script") rows)

abbrev pub script_faults : Option (Text × List Row) → Kinds
script_faults named = option_map_or (λ named.
    if has_two_scripts named.1 then ArgumentConflict ∷ [] else []) named []

-- the kinds of error that the words give, by clap or because they name two scripts; none if they
-- are accepted
unfoldable pub line_faults : List Text → Kinds
line_faults words = or_else (fault_of central_app words) (script_faults (subcommand_named words))

-- ---- the job

-- the value of an option is a numeral of this number in decimal, which may begin with a plus
abbrev pub IsNumber : Text → List Row → ℕ → Type 0
IsNumber option rows number =
    (text : Text) × (one_of option rows ≡ Some text)
    × IsNumeral 10 (without_leading_plus text)
    × (number ≡ digits_value 10 (without_leading_plus text))

-- the value of a given option is a numeral of this number, and every numeral within 64 bits is read
pub record IsOptionalNumber (option : Text) (rows : List Row) (number : Option ℕ) : Type 0 where
  pub value : IfSome number (IsNumber option rows)
  pub given :
      (text : Text) → one_of option rows ≡ Some text
      → IsNumeral 10 (without_leading_plus text)
      → digits_value 10 (without_leading_plus text) < 2 ^ 64
      → number ≡ Some (digits_value 10 (without_leading_plus text))
  pub absent : one_of option rows ≡ None → number ≡ None

-- whether an option without a value is given
pub record IsFlag (option : Text) (rows : List Row) (is_given : Bool) : Type 0 where
  pub given : one_of option rows ≡ Some (codes "true") → is_given ≡ true
  pub default : one_of option rows ≡ Some (codes "false") → is_given ≡ false
  pub absent : one_of option rows ≡ None → is_given ≡ false

-- the options for serving a site
pub record IsServing (rows : List Row) (serving : Serving) : Type 0 where
  pub site : first_of (codes "site") rows ≡ Some serving.site.now
  pub listen : first_of (codes "listen") rows ≡ Some serving.listen.now
  pub workers : IsNumber (codes "workers") rows serving.workers
  pub some_workers : 1 ≤ serving.workers
  pub sessions : IsNumber (codes "sessions") rows serving.sessions
  pub some_sessions : 1 ≤ serving.sessions

-- the source of the script: at most one of the two options is given
abbrev pub IsSource : List Row → Source → Type 0
IsSource rows source.Input =
    (first_of (codes "data") rows ≡ None) × (first_of (codes "script") rows ≡ None)
IsSource rows (source.File file) =
    (first_of (codes "data") rows ≡ None) × (first_of (codes "script") rows ≡ Some file.now)
IsSource rows (source.Journal folder) =
    (first_of (codes "data") rows ≡ Some folder.now) × (first_of (codes "script") rows ≡ None)

-- the script to play, and its site
pub record IsReplaying (rows : List Row) (replaying : Replaying) : Type 0 where
  pub site : first_of (codes "site") rows ≡ Some replaying.site.now
  pub source : IsSource rows replaying.source

abbrev pub number_or : ℕ → Option ℕ → ℕ
number_or default None = default
number_or default (Some number) = number

-- the value of an option as a number, or this default
pub record IsNumberOr (option : Text) (rows : List Row) (default number : ℕ) : Type 0 where
  pub given : Option ℕ
  pub is : IsOptionalNumber option rows given
  pub value : number ≡ number_or default given

-- the options for running a site
pub record IsRunning (rows : List Row) (running : Running) : Type 0 where
  pub site : first_of (codes "site") rows ≡ Some running.site.now
  pub folder : first_of (codes "data") rows ≡ Some running.folder.now
  pub listen : first_of (codes "listen") rows ≡ Some running.listen.now
  pub seats : IsNumberOr (codes "seats") rows default_seats running.seats
  pub some_seats : 1 ≤ running.seats
  pub workers : IsNumberOr (codes "workers") rows default_workers running.workers
  pub some_workers : 1 ≤ running.workers
  pub call_timeout :
      IsNumberOr (codes "call-timeout") rows default_call_timeout running.call_timeout
  pub keys : first_of (codes "keys") rows ≡ option_map (λ text. text.now) running.keys
  pub status : first_of (codes "status") rows ≡ option_map (λ text. text.now) running.status
  pub status_open : IsFlag (codes "status-open") rows running.is_status_open
  pub after_boot :
      first_of (codes "after-boot") rows ≡ option_map (λ text. text.now) running.after_boot

-- the owner of the key to make
pub record IsKeyMaking (rows : List Row) (making : KeyMaking) : Type 0 where
  pub name : first_of (codes "name") rows ≡ Some making.name.now
  pub operator : IsFlag (codes "operator") rows making.is_operator

-- a request for a schedule: the texts of the connector and the seconds
abbrev pub IsAsking : Option (List Text) → Option Asking → Type 0
IsAsking given None = given ≡ None
IsAsking given (Some asking) = given ≡ Some (asking.connector.now ∷ asking.seconds.now ∷ [])

-- the texts of a remote start: the connector, the idTag, and the profile's file if it is given
abbrev pub texts_of_start : Text → Text → Option Text → List Text
texts_of_start connector id_tag None = connector ∷ id_tag ∷ []
texts_of_start connector id_tag (Some profile) = connector ∷ id_tag ∷ profile ∷ []

abbrev pub IsStarting : Option (List Text) → Option Starting → Type 0
IsStarting given None = given ≡ None
IsStarting given (Some starting) =
    given ≡ Some (texts_of_start starting.connector.now starting.id_tag.now
    (option_map (λ text. text.now) starting.profile))

-- the calls that an operator's client sends, unless it reads them from standard input
pub record IsCalling (rows : List Row) (calling : Calling) : Type 0 where
  pub url : first_of (codes "url") rows ≡ Some calling.url.now
  pub login : first_of (codes "login") rows ≡ option_map (λ text. text.now) calling.login
  pub all : IsFlag (codes "all") rows calling.all
  pub site : first_of (codes "site") rows ≡ option_map (λ text. text.now) calling.site
  pub folder : first_of (codes "data") rows ≡ option_map (λ text. text.now) calling.folder
  pub set_profile :
      first_of (codes "set-profile") rows ≡ option_map (λ text. text.now) calling.set_profile
  pub clear : first_of (codes "clear") rows ≡ option_map (λ text. text.now) calling.clear
  pub remote_start : IsStarting (all_of (codes "remote-start") rows) calling.remote_start
  pub ask : IsAsking (all_of (codes "ask") rows) calling.ask
  pub audit : IsAsking (all_of (codes "audit") rows) calling.audit
  pub status : IsFlag (codes "status") rows calling.status
  pub undo : IsOptionalNumber (codes "undo") rows calling.undo
  pub wait : IsOptionalNumber (codes "wait") rows calling.wait
  pub force : IsFlag (codes "force") rows calling.force
  pub dry_run : IsFlag (codes "dry-run") rows calling.dry_run

-- the simulated point, and its connection
pub record IsPointing (rows : List Row) (pointing : Pointing) : Type 0 where
  pub url : first_of (codes "url") rows ≡ Some pointing.url.now
  pub site : first_of (codes "site") rows ≡ Some pointing.site.now
  pub id : first_of (codes "id") rows ≡ Some pointing.id.now
  pub login : first_of (codes "login") rows ≡ option_map (λ text. text.now) pointing.login

-- the schedule to explain, and how
pub record IsExplaining (rows : List Row) (explaining : Explaining) : Type 0 where
  pub site : first_of (codes "site") rows ≡ Some explaining.site.now
  pub point : first_of (codes "point") rows ≡ Some explaining.point.now
  pub connector : IsNumber (codes "connector") rows explaining.connector
  pub start : first_of (codes "start") rows ≡ Some explaining.start.now
  pub duration : first_of (codes "duration") rows ≡ Some explaining.duration.now
  pub source : IsSource rows explaining.source
  pub at : first_of (codes "at") rows ≡ option_map (λ text. text.now) explaining.at
  pub zone : first_of (codes "zone") rows ≡ option_map (λ text. text.now) explaining.zone
  pub picture : first_of (codes "picture") rows ≡ option_map (λ text. text.now) explaining.picture
  pub json : IsFlag (codes "json") rows explaining.json

-- the site to check, with a file of keys and a script
pub record IsChecking (rows : List Row) (checking : Checking) : Type 0 where
  pub site : first_of (codes "site") rows ≡ Some checking.site.now
  pub keys : first_of (codes "keys") rows ≡ option_map (λ text. text.now) checking.keys
  pub source : IsSource rows checking.source
  pub trace : IsFlag (codes "trace") rows checking.trace

-- the site to show, the end up to which a script is played, and how
pub record IsShowing (rows : List Row) (showing : Showing) : Type 0 where
  pub site : first_of (codes "site") rows ≡ Some showing.site.now
  pub source : IsSource rows showing.source
  pub at : first_of (codes "at") rows ≡ option_map (λ text. text.now) showing.at
  pub json : IsFlag (codes "json") rows showing.json

-- the job of a subcommand with its options
abbrev pub IsJob : Text → List Row → Job → Type 0
IsJob name rows (Replay replaying) = (name ≡ codes "replay") × IsReplaying rows replaying
IsJob name rows (Run running) = (name ≡ codes "run") × IsRunning rows running
IsJob name rows (Journal folder) =
    (name ≡ codes "journal") × (first_of (codes "data") rows ≡ Some folder.now)
IsJob name rows (Key making) = (name ≡ codes "key") × IsKeyMaking rows making
IsJob name rows (Serve serving) = (name ≡ codes "serve") × IsServing rows serving
IsJob name rows (Call calling) = (name ≡ codes "call") × IsCalling rows calling
IsJob name rows (Point pointing) = (name ≡ codes "point") × IsPointing rows pointing
IsJob name rows (Explain explaining) = (name ≡ codes "explain") × IsExplaining rows explaining
IsJob name rows (Check checking) = (name ≡ codes "check") × IsChecking rows checking
IsJob name rows (Show showing) = (name ≡ codes "show") × IsShowing rows showing
IsJob name rows (Status url) =
    (name ≡ codes "status") × (first_of (codes "url") rows ≡ Some url.now)
