-- The periods that have begun come first, and the last of them has the greatest start.
use Rattle.std.proofs.Common.{◌≡◌, ◌-◌, nat_le, true, None, sym, ◌∙◌, ap, rules, arith}
use Rattle.std.proofs.lemmas.List.Sorted.{IsPartitionPoint-from_clause}
use Rattle.profile.specs.declared.period.Period.{Period}
use Rattle.profile.specs.Periods.{are_in_order, limit_in}
use Rattle.profile.specs.Theory.Periods.{partitioned}
use Rattle.profile.proofs.PeriodLemmas.{limit_at_point, limit_of_last}
use Rattle.profile.proofs.periods.Periods.limit_in_force.Goals as goal

pub returns-then-begun-eq0 : goal.returns-then-begun-eq0
returns-then-begun-eq0 c =
    let periods = c.as_slice-periods.result.now in
    let same = c.as_slice-periods.ensures.value in
    let ordered : are_in_order periods ≡ true = ap are_in_order same ∙ c.as_slice-periods.ensures.schedule.ordered in
    let point = IsPartitionPoint-from_clause (λ (p : Period). nat_le p.start c.args.offset) periods c.partition_point-begun.result
    c.partition_point-begun.ensures.partitioned (partitioned periods c.args.offset ordered) (λ a r q k. search rules) in
    let none = rw c.if-begun-eq0.true at point in
    sym (ap (λ ps. limit_in ps c.args.offset) (sym same) ∙ limit_at_point periods 0 c.args.offset (omega arith) ordered none)

pub returns : goal.returns
returns c =
    let periods = c.as_slice-periods.result.now in
    let same = c.as_slice-periods.ensures.value in
    let ordered : are_in_order periods ≡ true = ap are_in_order same ∙ c.as_slice-periods.ensures.schedule.ordered in
    let point = IsPartitionPoint-from_clause (λ (p : Period). nat_le p.start c.args.offset) periods c.partition_point-begun.result
    c.partition_point-begun.ensures.partitioned (partitioned periods c.args.offset ordered) (λ a r q k. search rules) in
    let found = ap (λ ps. limit_in ps c.args.offset) (sym same)
    ∙ limit_of_last periods c.partition_point-begun.result (c.partition_point-begun.result - 1) (record { start = 0; limit = 0; number_phases = None }) c.args.offset
    (omega arith) c.partition_point-begun.ensures.bound ordered point in
    search (rules, found)
