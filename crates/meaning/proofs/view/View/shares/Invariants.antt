-- The shares so far are those of the active connectors so far.
use Rattle.std.proofs.Common.{◌≡◌, filter, map, is_some}
use Rattle.std.specs.List.{range_with_len}
use Rattle.meaning.specs.View.{point_state, active_since}
use Rattle.meaning.specs.Cause.{share}
use Rattle.meaning.proofs.view.View.shares.Given as goal

abbrev pub invariant-loop-index : goal.invariant-loop-index
invariant-loop-index l =
    l.shares.items ≡ map (share (point_state l.self) l.asked l.instant) (filter (λ connector. is_some (active_since (point_state l.self) connector)) (range_with_len 1 l.index))
