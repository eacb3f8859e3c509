-- The first period that hasn't begun has the next start.
use Rattle.std.proofs.Common.{◌<◌, nat_le, length, None, rules, arith}
use Rattle.std.proofs.lemmas.List.Sorted.{IsPartitionPoint-from_clause}
use Rattle.profile.specs.declared.period.Period.{Period}
use Rattle.profile.specs.Theory.Periods.{partitioned}
use Rattle.recurrence.proofs.StartLemmas.{next_start_at, no_next_start}
use Rattle.recurrence.proofs.turns.next_start.Goals as goal

pub returns-then-begun-periods-clause-next : goal.returns-then-begun-periods-clause-next
returns-then-begun-periods-clause-next c =
    let periods = c.args.periods.now in
    let point = IsPartitionPoint-from_clause (λ (p : Period). nat_le p.start c.args.offset) periods c.partition_point-begun.result
    c.partition_point-begun.ensures.partitioned (partitioned periods c.args.offset c.requires.ordered) (λ a r q k. search rules) in
    no_next_start periods c.args.offset c.requires.ordered (rw c.if-begun-periods.true at point)

pub returns-clause-next : goal.returns-clause-next
returns-clause-next c =
    let periods = c.args.periods.now in
    let point = IsPartitionPoint-from_clause (λ (p : Period). nat_le p.start c.args.offset) periods c.partition_point-begun.result
    c.partition_point-begun.ensures.partitioned (partitioned periods c.args.offset c.requires.ordered) (λ a r q k. search rules) in
    let inside : c.partition_point-begun.result < length periods = omega arith in
    rw c.from.ensures
    (next_start_at periods c.partition_point-begun.result c.args.offset (record { start = 0; limit = 0; number_phases = None }) c.requires.ordered inside point)
