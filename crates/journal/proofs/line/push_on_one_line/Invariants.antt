-- The appended text and the rest of the message make the whole.
use Rattle.std.proofs.Common.{ℕ, ◌≡◌, ◌++◌, List, length, string_bytes}
use denote.Text.{Utf8}
use denote.Shadow.{shadow}
use Rattle.journal.specs.Line.{on_one_line}
use Rattle.journal.proofs.line.push_on_one_line.Given as goal

abbrev pub invariant-loop-piece : goal.invariant-loop-piece
invariant-loop-piece l =
    shadow (Utf8 l.rest) × (done : List ℕ) × (string_bytes l.text ≡ string_bytes l.fn.text ++ done)
    × (done ++ on_one_line l.rest ≡ on_one_line l.frame)

abbrev pub decreases-loop-piece : goal.decreases-loop-piece
decreases-loop-piece l = length l.rest
