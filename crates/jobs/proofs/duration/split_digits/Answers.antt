-- Each digit extends the number, up to the longest duration.
use Rattle.std.proofs.Common.{◌∙◌, sym, arith}
use Rattle.std.proofs.lemmas.Bool.{le-leb, lt-leb}
use Rattle.std.proofs.lemmas.List.{at_drop_all}
use Rattle.jobs.specs.Duration.{number_after}
use Rattle.jobs.proofs.DurationLemmas.{number_after-step, number_after-over, number_after-end}
use Rattle.jobs.proofs.duration.split_digits.Goals as goal

pub returns-then-not-is_ascii_digit-clause-value : goal.returns-then-not-is_ascii_digit-clause-value
returns-then-not-is_ascii_digit-clause-value c =
    let ends = number_after-end c.loop-count.number c.args.text.now c.loop-count.count (omega arith) (cc) in
    cc (ends, c.loop-count.invariant.0, c.split_at.ensures.back)

pub returns-then-number-clause-value : goal.returns-then-number-clause-value
returns-then-number-clause-value c =
    let over = number_after-over c.loop-count.number c.args.text.now c.loop-count.count (omega arith) (cc)
    (lt-leb _ _ c.if-number.true) in
    sym over ∙ c.loop-count.invariant.0

pub loop-count-preserved : goal.loop-count-preserved
loop-count-preserved c =
    let step = number_after-step c.loop-count.number c.args.text.now c.loop-count.count (omega arith) (cc)
    (le-leb _ _ c.if-number.false) in
    (sym step ∙ c.loop-count.invariant.0, c.if-number.false)

pub returns-clause-value : goal.returns-clause-value
returns-clause-value c =
    sym (at_drop_all (number_after c.loop-count.number) c.args.text.now c.loop-count.count (omega arith))
    ∙ c.loop-count.invariant.0
