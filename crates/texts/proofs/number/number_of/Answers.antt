-- The decimal text of a number is parsed. A parsed word of this form begins above 0 and is at most
-- the highest number.
use Rattle.std.proofs.Common.{◌≡◌, sym, ◌∙◌, arith}
use Rattle.std.proofs.lemmas.Fmt.{parse-decimal}
use Rattle.texts.specs.Theory.Number.{number_law, no_number, above_zero, parsed}
use Rattle.texts.proofs.number.number_of.Goals as goal

pub returns-then-not-begins_above_zero-clause-value : goal.returns-then-not-begins_above_zero-clause-value
returns-then-not-begins_above_zero-clause-value c =
    no_number c.args.word.now (λ n is low high. absurd (cc (above_zero c.args.word.now n is low high, c.begins_above_zero.ensures, c.if-not-begins_above_zero.true)))

pub returns-in_default-clause-value : goal.returns-in_default-clause-value
returns-in_default-clause-value c =
    no_number c.args.word.now (λ n is low high.
    let read = parse-decimal 64 n c.args.word.now c.parse.result (omega (arith, high)) (omega (arith, high)) is c.parse.ensures.value.0 in
    absurd (cc (read, c.in_default.is)))

pub returns-then-number-gt-MAX_NUMBER-clause-value : goal.returns-then-number-gt-MAX_NUMBER-clause-value
returns-then-number-gt-MAX_NUMBER-clause-value c =
    no_number c.args.word.now (λ n is low high.
    let read = parse-decimal 64 n c.args.word.now c.parse.result (omega (arith, high)) (omega (arith, high)) is c.parse.ensures.value.0 in
    let same : n ≡ c.in-Ok.number = cc (read, c.in-Ok.is) in
    absurd (omega (arith, same, high, c.if-number-gt-MAX_NUMBER.true)))

pub returns-clause-value : goal.returns-clause-value
returns-clause-value c = parsed c.args.word.now c.in-Ok.number c.parse.result c.parse.ensures.value.0 c.in-Ok.is (sym c.begins_above_zero.ensures ∙ c.if-not-begins_above_zero.false) (omega (arith, c.if-number-gt-MAX_NUMBER.false))

pub returns-then-not-begins_above_zero-clause-decimal : goal.returns-then-not-begins_above_zero-clause-decimal
returns-then-not-begins_above_zero-clause-decimal c = number_law c.args.word.now

pub returns-in_default-clause-decimal : goal.returns-in_default-clause-decimal
returns-in_default-clause-decimal c = number_law c.args.word.now

pub returns-then-number-gt-MAX_NUMBER-clause-decimal : goal.returns-then-number-gt-MAX_NUMBER-clause-decimal
returns-then-number-gt-MAX_NUMBER-clause-decimal c = number_law c.args.word.now

pub returns-clause-decimal : goal.returns-clause-decimal
returns-clause-decimal c = number_law c.args.word.now
