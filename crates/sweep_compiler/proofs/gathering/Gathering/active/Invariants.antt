-- The active ones of the connectors so far.
use Rattle.std.proofs.Common.{filter, is_some}
use Rattle.std.specs.List.{range_with_len}
use Rattle.meaning.specs.View.{point_state, active_since}
use Rattle.sweep_compiler.specs.ByCases.Swept.{AreConnectorsAtStart}
use Rattle.sweep_compiler.proofs.gathering.Gathering.active.Given as goal

abbrev pub invariant-loop-index : goal.invariant-loop-index
invariant-loop-index l =
    AreConnectorsAtStart (point_state l.self.view) l.self.asked l.self.last (filter (λ connector. is_some (active_since (point_state l.self.view) connector)) (range_with_len 1 l.index)) l.looked.items
