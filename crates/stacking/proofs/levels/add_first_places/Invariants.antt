-- The indexes of the first rows so far are added.
use Rattle.std.proofs.Common.{take}
use Rattle.stacking.specs.ByCases.Candidates.{AreFirstAdded}
use Rattle.stacking.proofs.levels.add_first_places.Given as goal

abbrev pub invariant-loop-place : goal.invariant-loop-place
invariant-loop-place l =
    AreFirstAdded l.purpose l.rows l.connector (take l.place l.rows) l.fn.places l.places
