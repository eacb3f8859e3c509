-- A text is split at its first line feed.
use Rattle.replay.proofs.ScriptLemmas.{cut_first, cut_last}
use Rattle.replay.proofs.script.lines.split_line.Goals as goal

pub returns-in_default-clause-lines : goal.returns-in_default-clause-lines
returns-in_default-clause-lines c = cut_last _ _ _ c.in_default.ensures c.requires c.split_at.ensures.front c.split_at.ensures.back

pub returns-clause-lines : goal.returns-clause-lines
returns-clause-lines c =
    cut_first _ _ _ _ _ _ c.in-Some.ensures c.split_at-2.ensures.front c.without_return.ensures c.split_at-2.ensures.back c.split_at-3.ensures.back
