-- The options of the subcommand that clap found give the job, unless two of them name a script.
use Rattle.std.proofs.Common.{◌≡◌, ◌∙◌, List, Option, ap, false, subst, sym, true}
use Rattle.std.specs.Prelude.{IsSomeAnd}
use Rattle.clap.specs.Words.{Row, Text, found_of, rows_of}
use Rattle.command_line.specs.CommandLine.{IsJob, has_two_scripts, script_faults}
use Rattle.command_line.proofs.CommandLineLemmas.{conflict_of_two, has_conflict, met_with, none_of_one}
use Rattle.command_line.proofs.reading.job_of_matches.Goals as goal

pub returns-then-has_two_scripts-clause-faults : goal.returns-then-has_two_scripts-clause-faults
returns-then-has_two_scripts-clause-faults c =
    let rows = rows_of (found_of c.in-Some.given.now) in
    let met = met_with c.args.matches.now c.in-Some.name.now rows c.in-Some.ensures.name c.in-Some.ensures.rows in
    let two : has_two_scripts rows ≡ true = cc in
    has_conflict _ c.in_ok-error.field-0 (ap script_faults met ∙ conflict_of_two c.in-Some.name.now rows two) c.in_ok-error.ensures.kind

pub returns-clause-faults : goal.returns-clause-faults
returns-clause-faults c =
    let rows = rows_of (found_of c.in-Some.given.now) in
    let met = met_with c.args.matches.now c.in-Some.name.now rows c.in-Some.ensures.name c.in-Some.ensures.rows in
    let one : has_two_scripts rows ≡ false = cc in
    ap script_faults met ∙ none_of_one c.in-Some.name.now rows one

pub returns-clause-job : goal.returns-clause-job
returns-clause-job c =
    let rows = rows_of (found_of c.in-Some.given.now) in
    let met = met_with c.args.matches.now c.in-Some.name.now rows c.in-Some.ensures.name c.in-Some.ensures.rows in
    subst (λ (found : Option (Text × List Row)). IsSomeAnd found (λ named. IsJob named.0 named.1 c.in-Some-job_named.job)) (sym met)
    c.in-Some-job_named.ensures
