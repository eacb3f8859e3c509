-- The verdict on the schedule is that on the report.
use Rattle.std.proofs.Common.{◌≡◌, rules}
use Rattle.sweep_compiler.specs.Verdict.{said_schedule}
use Rattle.sweep_compiler.proofs.Judging.{lasts, verdict_said}
use Rattle.sweep_compiler.proofs.judged.verdict_of.Goals as goal

pub returns-in-Some-clause-verdict : goal.returns-in-Some-clause-verdict
returns-in-Some-clause-verdict c =
    let same_lasts = lasts c.in-Schedule.duration c.args.job.now in
    let same : c.in-Some.schedule ≡ said_schedule c.in-Schedule.duration c.in-Schedule.periods c.args.job.now = search (rules, same_lasts) in
    rw c.in-Schedule.is
    (verdict_said c.args.job.now c.in-Schedule.start c.in-Schedule.duration c.in-Schedule.unit c.in-Schedule.periods c.in-Some.schedule
    c.compared.result same c.in-Some.ensures.fits.0 c.compared.ensures.verdict)
