-- The periods that have begun come first.
use Rattle.std.proofs.Common.{nat_le, rules}
use Rattle.std.proofs.lemmas.List.Sorted.{IsPartitionPoint-from_clause}
use Rattle.profile.specs.declared.period.Period.{Period}
use Rattle.profile.specs.Theory.Periods.{partitioned}
use Rattle.recurrence.proofs.occurrence.begun_by.Goals as goal

pub returns : goal.returns
returns c =
    IsPartitionPoint-from_clause (λ (p : Period). nat_le p.start c.args.offset) c.args.periods.now c.partition_point.result
    c.partition_point.ensures.partitioned (partitioned c.args.periods.now c.args.offset c.requires.ordered) (λ a r q k. search rules)
