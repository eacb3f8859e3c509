-- The verdict was brought to the book that was locked, and is noted.
use Rattle.std.proofs.Common.{rules}
use Rattle.session.proofs.AuditLemmas.{brought}
use Rattle.session.proofs.NotingLemmas.{verdict_noted}
use Rattle.session.proofs.serving.audits.judge_reply.Goals as goal

pub note_made-requires : goal.note_made-requires
note_made-requires g c =
    verdict_noted _ _ c.args.sent.now c.judged_by-judged.result.1 c.moment.result c.as_str.result.now _
    c.audit.inside.call c.reply_to_note-frame.result.now c.judged_by-judged.result.0
    c.in-Ok.entry c.in-true-Some.entry _ _ _
    c.noted_steps_are_restored.ensures.verdicts c.equal_books_are_one.ensures.audits
    c.verdicts_are_computed.ensures
    c.reply_to_note-frame.ensures c.judged_by-judged.ensures.noted
    c.in-Ok.ensures c.in-true-Some.is-1 c.as_str.ensures c.lock-book.ensures c.deref_mut.ensures.value
    (c.in-true-Some.ensures.made (search rules))
    (search rules) (search rules)

pub returns : goal.returns
returns g c =
    brought c.args.sent.now c.args.audit (record { point = c.audit.inside.point; call = c.audit.inside.call; asked = c.audit.inside.job })
    c.judged_by-judged.result.0 _ c.deref_mut.result.now c.bring_verdict-is_kept.new.book
    c.audit.view_is c.judged_by-judged.ensures.judged c.lock-book.ensures c.deref_mut.ensures.value
    c.bring_verdict-is_kept.ensures.either
