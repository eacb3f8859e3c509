-- There are as many places as turns so far.
use Rattle.std.proofs.Common.{◌≡◌, length}
use Rattle.version_store.proofs.shared.new_places.Given as goal

abbrev pub invariant-loop-place : goal.invariant-loop-place
invariant-loop-place l = length l.places.items ≡ l._place
