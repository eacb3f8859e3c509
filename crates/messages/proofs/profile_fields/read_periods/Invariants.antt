-- The periods so far and those of the remaining entries are all periods.
use Rattle.std.proofs.Common.{◌≡◌}
use Rattle.ocppj_frame.specs.Payload.{entries_in, entries_left}
use Rattle.messages.specs.ProfileFields.{each_period_of}
use Rattle.messages.proofs.PeriodsRead.{after_periods}
use Rattle.messages.proofs.profile_fields.read_periods.Given as goal

abbrev pub invariant-loop-entry : goal.invariant-loop-entry
invariant-loop-entry l =
    after_periods l.periods.items (each_period_of (entries_left l.entry-iterator)) ≡ each_period_of (entries_in l.fn.entries)
