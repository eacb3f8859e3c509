-- Periods make a schedule exactly if the test succeeds.
use Rattle.std.proofs.Common.{◌≡◌, true, false}
use Rattle.std.proofs.lemmas.Bool.{both_ways}
use Rattle.meaning.specs.Said.{IsSaidSchedule}
use Rattle.meaning.specs.ByCases.Said.{is_said_schedule}
use Rattle.meaning.specs.Theory.SaidSchedules.{said_schedule_is, is_said}
use Rattle.meaning.proofs.composite.Composite.from_said.Goals as goal

pub new-requires : goal.new-requires
new-requires c =
    let test : is_said_schedule c.args.duration c.args.periods ≡ true = cc in
    let said : IsSaidSchedule c.args.duration c.args.periods = said_schedule_is c.args.duration c.args.periods test in
    record { schedule = rw c.into_vec.ensures said.schedule }

pub returns-else-is_said_schedule-clause-invalid :
    goal.returns-else-is_said_schedule-clause-invalid
returns-else-is_said_schedule-clause-invalid c = λ said.
    let test : is_said_schedule c.args.duration c.args.periods ≡ false = cc in
    both_ways (is_said_schedule c.args.duration c.args.periods) test (is_said c.args.duration c.args.periods said)
