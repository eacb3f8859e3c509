-- The points so far have no link, and the lines so far lead there.
use Rattle.std.proofs.Common.{ℕ, ◌≡◌, ◌<◌, string_bytes}
use Rattle.journal.specs.LostLinks.{LosesLinks}
use Rattle.journal.specs.ByCases.LostLinks.{HasNoLinkAt}
use Rattle.journal.proofs.lost_links.lose_links.Given as goal

abbrev pub invariant-loop-place : goal.invariant-loop-place
invariant-loop-place g l = record {
  none : (k : ℕ) → k < l.place → HasNoLinkAt l.book.present k;
  site : l.book.present.site ≡ l.fn.book.present.site;
  lines : LosesLinks l.moment l.fn.book.present l.book.present (string_bytes l.fn.text) (string_bytes l.text);
}
