-- The period at an index of a schedule is in force until the next one begins.
use Rattle.sweep_compiler.proofs.Agreeing.{period_interval_is}
use Rattle.sweep_compiler.proofs.agreement.PeriodInterval.of.Goals as goal

pub returns : goal.returns
returns c =
    rw (c.seconds.ensures.value, c.seconds-2.ensures.value, c.from.ensures, c.from-2.ensures, c.begin_of.ensures, c.begin_of-2.ensures, c.periods.ensures.value)
    (period_interval_is c.args.schedule.now c.args.start c.args.place _ c.periods.ensures.schedule c.requires.inside)
