-- No period has begun before an offset if each starts at it or later.
use Rattle.std.proofs.Common.{rules, ◌≡◌, true, nat_le}
use Rattle.std.specs.List.{list_all}
use Rattle.profile.specs.declared.period.Period.{Period}
use Rattle.profile_findings.proofs.PeriodLemmas.{none_before}
use Rattle.profile_findings.proofs.never.start_past.Goals as goal

pub returns-clause-before : goal.returns-clause-before
returns-clause-before c = λ holds offset before.
    let all : list_all (λ (p : Period). nat_le c.args.end p.start) c.args.profile.now.schedule.periods ≡ true =
    search (rules, holds)
    in none_before c.args.profile.now.schedule.periods c.args.end offset all before
