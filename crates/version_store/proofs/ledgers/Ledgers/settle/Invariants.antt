-- The shares so far, taken together.
use Rattle.std.proofs.Common.{◌≡◌, ◌≤◌, length}
use Rattle.version_store.specs.Passes.{totals_together}
use Rattle.version_store.proofs.ledgers.Ledgers.settle.Given as goal

abbrev pub invariant-loop-pass : goal.invariant-loop-pass
invariant-loop-pass g l =
    (l.all_changed.parts ≡ length l.yielded) × (l.all_answered.parts ≡ length l.yielded)
    × (l.all_changed.amount ≡ (totals_together l.yielded).changes)
    × (l.all_answered.amount ≡ (totals_together l.yielded).answers)
    × (length l.yielded ≤ g.C.Ledger.parts)
    × (length l.yielded ≤ g.A.Ledger.parts)
