-- Whether one of the keys so far is right; if none of them is the user's, none is right.
use Rattle.std.proofs.Common.{◌≡◌, false, take}
use Rattle.site_keys.specs.ByCases.Key.{has_right_key}
use Rattle.site_keys.proofs.key.has_right_key.Given as goal

abbrev pub invariant-loop-key : goal.invariant-loop-key
invariant-loop-key l = record {
  right : l.is_right ≡ has_right_key l.role l.user l.password (take l.key-index l.keys);
  unknown : l.is_known ≡ false → l.is_right ≡ false;
}
