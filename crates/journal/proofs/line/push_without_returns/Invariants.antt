-- The appended text and the rest of the text make the whole.
use Rattle.std.proofs.Common.{ℕ, ◌≡◌, ◌++◌, List, length, string_bytes}
use denote.Text.{Utf8}
use denote.Shadow.{shadow}
use Rattle.journal.specs.ByCases.Line.{without_returns}
use Rattle.journal.proofs.line.push_without_returns.Given as goal

abbrev pub invariant-loop-before : goal.invariant-loop-before
invariant-loop-before l =
    shadow (Utf8 l.rest) × (done : List ℕ) × (string_bytes l.text ≡ string_bytes l.fn.text ++ done)
    × (done ++ without_returns l.rest ≡ without_returns l.piece)

abbrev pub decreases-loop-before : goal.decreases-loop-before
decreases-loop-before l = length l.rest
