-- The text is followed by the lines of the entries so far.
use Rattle.std.proofs.Common.{◌≡◌, ◌++◌, string_bytes, take}
use Rattle.journal.specs.Account.{texts_of}
use Rattle.journal.proofs.noted_steps.NotedSteps.push_lines.Given as goal

abbrev pub invariant-loop-numbered : goal.invariant-loop-numbered
invariant-loop-numbered g l =
    string_bytes l.text ≡ string_bytes l.fn.text ++ texts_of (take l.numbered-index l.self.entries)
