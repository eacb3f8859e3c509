-- The entry is that of the line, whose number isn't known yet.
use Rattle.std.proofs.Common.{ℕ, List, ◌++◌, is_some, ap, ◌∙◌}
use Rattle.journal.specs.Line.{LineState}
use Rattle.journal.specs.Entry.{before_number, behind_number, draws_number}
use Rattle.journal.proofs.LinePieces.{entry_becomes}
use Rattle.journal.proofs.entry.Entry.new.Goals as goal

pub returns : goal.returns
returns c number =
    let line : LineState = c.args.line.now in
    let before = c.in_ok-push_before_number.ensures ∙ ap (λ (t : List ℕ). t ++ before_number line) c.new-before.ensures.bytes in
    let behind = c.in_ok-push_behind_number.ensures ∙ ap (λ (t : List ℕ). t ++ behind_number line) c.new-behind.ensures.bytes in
    let numbered = c.is_some.ensures ∙ ap is_some c.number.ensures ∙ ap (λ (l : LineState). draws_number l.noted) c.line.view_is in
    rw (before, behind, numbered) (entry_becomes line number)
