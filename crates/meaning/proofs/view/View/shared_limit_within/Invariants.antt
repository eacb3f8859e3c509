-- The sum is that over the connectors so far, but at most `most`.
use Rattle.std.proofs.Common.{◌≡◌, filter, min, is_some}
use Rattle.std.specs.List.{range_with_len, sum_by}
use Rattle.meaning.specs.View.{point_state, active_since}
use Rattle.meaning.specs.Limit.{own_limit}
use Rattle.meaning.proofs.view.View.shared_limit_within.Given as goal

abbrev pub invariant-loop-index : goal.invariant-loop-index
invariant-loop-index l =
    l.sum ≡ min l.most (sum_by (λ connector. own_limit (point_state l.self) connector l.asked l.instant) (filter (λ connector. is_some (active_since (point_state l.self) connector)) (range_with_len 1 l.index)))
