-- Added for the prover: no criterion is left, and none is written.
use Rattle.std.proofs.Common.{◌∙◌}
use Rattle.std.proofs.lemmas.List.{drop_all}
use Rattle.messages.proofs.call_text.push_given.Goals as goal

pub returns-in_ok-push_str-2 : goal.returns-in_ok-push_str-2
returns-in_ok-push_str-2 c =
    let none_left = drop_all c.loop-criterion.criterion-index c.args.criteria.now c.loop-criterion-test.false in
    let whole = rw (c.if-not-some_written.true, none_left) at c.loop-criterion.invariant.text in
    c.in_ok-push_str-2.ensures.bytes ∙ whole
