use Rattle.std.proofs.Common.{◌≡◌, ◌+◌, length}
use Rattle.ocppj_frame.specs.Payload.{entries_in, entries_left}
use Rattle.site_rules.specs.ByCases.SiteReading.{ceilings_of}
use Rattle.site_rules.proofs.CeilingsRead.{with_front}
use Rattle.site_rules.proofs.reading.point.read_ceilings.Given as goal

abbrev pub invariant-loop-entry : goal.invariant-loop-entry
invariant-loop-entry l = record {
  ceilings : with_front l.ceilings.items (ceilings_of (entries_left l.entry-iterator)) ≡ ceilings_of (entries_in l.fn.entries);
  count : length l.ceilings.items + length (entries_left l.entry-iterator) ≡ length (entries_in l.fn.entries);
}
