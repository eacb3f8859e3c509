-- The words are read as clap reads them, with this program's command.
use Rattle.std.proofs.Common.{List, Option, map, subst, sym}
use Rattle.std.specs.Prelude.{IfOk, IsSomeAnd, string_bytes}
use Rattle.std.proofs.lemmas.Result.{err_from_is_err_and}
use Rattle.clap.specs.Words.{FailsBy, Kinds, Row, Text}
use Rattle.command_line.specs.CommandLine.{IsJob}
use Rattle.command_line.proofs.CommandLineLemmas.{fails_as, faults_of_scripts, met_is_named}
use Rattle.command_line.proofs.reading.job_of_words.Goals as goal

pub returns-in_err-matches-clause-faults : goal.returns-in_err-matches-clause-faults
returns-in_err-matches-clause-faults c =
    let fault = err_from_is_err_and c.from_residual.result c.from_residual.ensures.1 in
    rw fault.1 (rw fault.2 (fails_as _ _ c.in_err-matches.field-0.0 c.requires c.in_err-matches.ensures.kinds))

pub returns-clause-faults : goal.returns-clause-faults
returns-clause-faults c =
    let words = map string_bytes c.args.words.now in
    let same = met_is_named _ words c.in_ok-matches.matches c.requires c.in_ok-matches.ensures.ok.2 in
    let faults = faults_of_scripts _ words _ c.requires c.in_ok-matches.ensures.kinds same in
    subst (λ (kinds : Kinds). FailsBy kinds c.job_of_matches.result) (sym faults) c.job_of_matches.ensures.faults

pub returns-clause-job : goal.returns-clause-job
returns-clause-job c =
    let same = met_is_named _ (map string_bytes c.args.words.now) c.in_ok-matches.matches c.requires c.in_ok-matches.ensures.ok.2 in
    subst (λ (met : Option (Text × List Row)). IfOk c.job_of_matches.result (λ job. IsSomeAnd met (λ named. IsJob named.0 named.1 job)))
    same c.job_of_matches.ensures.job
