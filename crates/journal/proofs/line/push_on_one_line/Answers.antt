-- The message is split at each line feed.
use Rattle.std.proofs.Common.{ℕ, List, ◌++◌, Some, None, string_bytes, ap, ◌∙◌, lit<, rules}
use Rattle.std.proofs.lemmas.Str.Pattern.{split_parts}
use Rattle.journal.specs.Line.{on_one_line}
use Rattle.journal.specs.ByCases.Line.{without_returns}
use Rattle.journal.proofs.LineWriting.{cut_at_feed, no_feed, goes_on, ends_by_call}
use Rattle.journal.proofs.line.push_on_one_line.Goals as goal

pub loop-piece-preserved : goal.loop-piece-preserved
loop-piece-preserved c =
    let before = c.loop-piece.invariant in
    let old = c.loop-piece.rest.now in
    let piece = c.in-Some.piece.now in
    let others = c.in-Some.others.now in
    let parts = split_parts 10 old (Some (c.in-Some.piece, c.in-Some.others)) c.in-Some.ensures.cases (lit< tt) in
    let next = goes_on (string_bytes c.args.text.now) (string_bytes c.loop-piece.text)
    (string_bytes c.push_without_returns.new.text) (string_bytes c.push.new.self) before.1 (without_returns piece) (on_one_line old)
    (on_one_line others) (on_one_line c.args.frame.now) before.2 c.in_ok-push_without_returns.ensures
    (c.in_ok-push.ensures.bytes ∙ ap (λ (t : List ℕ). string_bytes c.push_without_returns.new.text ++ t) (c.in_ok-push.ensures.ascii (lit< tt))) (cut_at_feed old piece others parts.0 parts.1) before.3 in
    (search rules, next.done, next.is, next.left)

pub returns : goal.returns
returns c =
    let before = c.loop-piece.invariant in
    let old = c.loop-piece.rest.now in
    ends_by_call c.push_without_returns-2.result (string_bytes c.args.text.now) (string_bytes c.loop-piece.text)
    (string_bytes c.push_without_returns-2.new.text) before.1 (without_returns old) (on_one_line old) (on_one_line c.args.frame.now)
    before.2 c.push_without_returns-2.ensures (no_feed old (split_parts 10 old None c.in_default.ensures.cases (lit< tt)))
    before.3
