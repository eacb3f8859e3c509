-- The shares so far are equal.
use Rattle.std.proofs.Common.{◌≡◌, take}
use Rattle.meaning.proofs.shares.same_shares.Given as goal

abbrev pub invariant-loop-place : goal.invariant-loop-place
invariant-loop-place l = take l.place l.shares ≡ take l.place l.others
