-- The text is split after its last line feed.
use Rattle.journal.proofs.LineEnds.{cut_text}
use Rattle.journal.proofs.lines.whole_lines.Goals as goal

pub returns : goal.returns
returns c =
    rw (c.split_at.ensures.front, c.split_at.ensures.back)
    (cut_text c.args.text.now c.whole_length.result c.whole_length.ensures.within c.whole_length.ensures.feed c.whole_length.ensures.torn)
