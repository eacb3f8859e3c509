-- A line that isn't too long is read as a text, or isn't one; the form that is found is its form.
use Rattle.std.proofs.Common.{◌∙◌, ap}
use Rattle.replay.specs.ByCases.Form.{form_of}
use Rattle.replay.specs.Line.{line_of_form}
use Rattle.replay.proofs.FormLemmas.{line_form}
use Rattle.replay.proofs.LineLemmas.{line_of-text, line_of-not_text}
use Rattle.replay.proofs.script.line.read_line.Goals as goal

pub returns-then-line-gt-MAX_LINE_BYTES-clause-form : goal.returns-then-line-gt-MAX_LINE_BYTES-clause-form
returns-then-line-gt-MAX_LINE_BYTES-clause-form c = line_form c.args.line.now

pub returns-in-Ok-clause-value : goal.returns-in-Ok-clause-value
returns-in-Ok-clause-value c =
    c.read_text.ensures ∙ ap (λ text. line_of_form c.args.site.now (form_of text)) c.in-Ok.ensures.cases.0
    ∙ line_of-text c.args.site.now c.args.line.now c.if-line-gt-MAX_LINE_BYTES.false c.in-Ok.ensures.cases.1

pub returns-in-Ok-clause-form : goal.returns-in-Ok-clause-form
returns-in-Ok-clause-form c = line_form c.args.line.now

pub returns-in-Err-clause-value : goal.returns-in-Err-clause-value
returns-in-Err-clause-value c = line_of-not_text c.args.site.now c.args.line.now c.if-line-gt-MAX_LINE_BYTES.false c.in-Err.ensures.cases.0

pub returns-in-Err-clause-form : goal.returns-in-Err-clause-form
returns-in-Err-clause-form c = line_form c.args.line.now
