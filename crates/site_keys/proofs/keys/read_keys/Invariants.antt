-- The keys so far and those of the rest are the keys of the file.
use Rattle.std.proofs.Common.{◌≡◌, ◌+◌, ◌≤◌, length}
use Rattle.std.specs.List.{slice_split}
use Rattle.site_keys.specs.Bytes.{line_feed, is_byte}
use Rattle.site_keys.specs.ByCases.KeyFile.{keys_from, keys_in}
use Rattle.site_keys.proofs.FileLemmas.{onto}
use Rattle.site_keys.proofs.keys.read_keys.Given as goal

abbrev pub invariant-loop-line : goal.invariant-loop-line
invariant-loop-line l = record {
  same : onto l.keys.items (keys_from l.number (slice_split (is_byte line_feed) l.rest)) ≡ keys_in l.bytes;
  number : l.number + length l.rest ≤ length l.bytes + 1;
}

abbrev pub decreases-loop-line : goal.decreases-loop-line
decreases-loop-line l = length l.rest
