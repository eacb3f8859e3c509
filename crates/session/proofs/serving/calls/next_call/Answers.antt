-- A call that went out is noted.
use Rattle.std.proofs.Common.{rules}
use Rattle.session.proofs.NotingLemmas.{sent_noted}
use Rattle.session.proofs.serving.calls.next_call.Goals as goal

pub note_made-requires : goal.note_made-requires
note_made-requires g c =
    sent_noted _ _ c.args.moment c.in-Ok-copy.point c.as_str.result.now c.args.link c.in-Ok.entry
    c.in-Ok-Some-Some.entry c.in-Ok-Some-Some.call c.send-call.result _ _ _
    c.noted_steps_are_restored.ensures.sends c.in-Ok.ensures c.in-Ok-Some-Some.is-1
    (search rules) c.lock-book.ensures c.deref_mut.ensures.value
    c.send-call.ensures.makes (search rules)
    (search rules) (search rules)
