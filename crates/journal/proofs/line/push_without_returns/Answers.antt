-- The text is split at each carriage return.
use Rattle.std.proofs.Common.{ℕ, List, ◌++◌, Some, None, string_bytes, ap, ◌∙◌, lit<, rules}
use Rattle.std.proofs.lemmas.Str.Pattern.{split_parts}
use Rattle.journal.specs.ByCases.Line.{without_returns}
use Rattle.journal.proofs.LineWriting.{cut_at_return, no_return, goes_on, ends}
use Rattle.journal.proofs.line.push_without_returns.Goals as goal

pub loop-before-preserved : goal.loop-before-preserved
loop-before-preserved c =
    let before = c.loop-before.invariant in
    let old = c.loop-before.rest.now in
    let piece = c.in-Some.before.now in
    let others = c.in-Some.others.now in
    let parts = split_parts 13 old (Some (c.in-Some.before, c.in-Some.others)) c.in-Some.ensures.cases (lit< tt) in
    let next = goes_on (string_bytes c.args.text.now) (string_bytes c.loop-before.text)
    (string_bytes c.push_str.new.self) (string_bytes c.push.new.self) before.1 piece (without_returns old)
    (without_returns others) (without_returns c.args.piece.now) before.2 c.in_ok-push_str.ensures.bytes
    (c.in_ok-push.ensures.bytes ∙ ap (λ (t : List ℕ). string_bytes c.push_str.new.self ++ t) (c.in_ok-push.ensures.ascii (lit< tt))) (cut_at_return old piece others parts.0 parts.1) before.3 in
    (search rules, next.done, next.is, next.left)

pub returns : goal.returns
returns c =
    let before = c.loop-before.invariant in
    let old = c.loop-before.rest.now in
    ends c.push_str-2.result (string_bytes c.args.text.now) (string_bytes c.loop-before.text)
    (string_bytes c.push_str-2.new.self) before.1 old (without_returns old) (without_returns c.args.piece.now)
    before.2 c.push_str-2.ensures.bytes (no_return old (split_parts 13 old None c.in_default.ensures.cases (lit< tt)))
    before.3
