-- The levels below are before the place.
use Rattle.std.proofs.Common.{rules, ◌≡◌, ℕ, nat_lt, true, arith}
use Rattle.std.proofs.lemmas.List.Sorted.{IsPartitionPoint-from_clause}
use Rattle.stacking.proofs.LevelLemmas.{is_place, partitioned, place_of_one}
use Rattle.stacking.specs.ByCases.InForce.{has_level_at}
use Rattle.stacking.proofs.in_force.place_of.Goals as goal

pub returns : goal.returns
returns c =
    let rates = c.args.rates.now in
    let level = c.args.level in
    let point = IsPartitionPoint-from_clause (λ (entry : ℕ × ℕ). nat_lt entry.0 level) rates c.partition_point.result
    c.partition_point.ensures.partitioned (partitioned rates level c.requires.rising) (λ a r q k. search rules) in
    is_place rates level c.partition_point.result c.partition_point.ensures.bound (λ k d less. point.0 k d (omega arith) less) (λ k d from less. point.1 k d from less)

pub returns-then-has_level_at : goal.returns-then-has_level_at
returns-then-has_level_at c =
    let there : has_level_at c.args.rates.now c.args.level c.likely_place-likely.result ≡ true = search rules in
    place_of_one c.likely_place-likely.result c.args.level c.args.rates.now c.requires.rising there
