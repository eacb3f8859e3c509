use Rattle.std.proofs.Common.{◌≡◌, []}
use Rattle.ocppj_frame.specs.Payload.{entries_in, entries_left}
use Rattle.site_rules.specs.ByCases.SiteReading.{with_points}
use Rattle.site_rules.proofs.reading.read_points.Given as goal

abbrev pub invariant-loop-entry : goal.invariant-loop-entry
invariant-loop-entry l =
    with_points l.site (entries_left l.entry-iterator) ≡ with_points (record { unit = l.fn.unit; points = [] }) (entries_in l.fn.entries)
