-- No bit is set exactly if the bytes so far are the same.
use Rattle.std.proofs.Common.{◌≡◌, take}
use Rattle.site_keys.proofs.digest.is_same.Given as goal

abbrev pub invariant-loop-place : goal.invariant-loop-place
invariant-loop-place l = record {
  alike : l.differing ≡ 0 → take l.place l.one ≡ take l.place l.other;
  none : l.one ≡ l.other → l.differing ≡ 0;
}
