-- The entries so far have right reasons.
use Rattle.std.specs.List.{All}
use Rattle.meaning.specs.View.{point_state}
use Rattle.explain_pages.specs.NotCounted.{HasReason}
use Rattle.explain_pages.proofs.uncounted.not_counted.Given as goal

abbrev pub invariant-loop-place : goal.invariant-loop-place
invariant-loop-place l = All (HasReason (point_state l.view) l.ask) l.rest.items
