-- A link that a point got is noted.
use Rattle.std.proofs.Common.{rules}
use Rattle.session.proofs.NotingLemmas.{attached_noted}
use Rattle.session.proofs.serving.calls.claim_link.Goals as goal

pub note_made-requires : goal.note_made-requires
note_made-requires g c =
    attached_noted _ _ c.in-Ok-copy.point c.as_str.result.now c.in-Ok.entry c.in-Ok-Some.entry
    c.in-Ok-Some.link c.attach-attached.result _ _ _ _ _
    c.noted_steps_are_restored.ensures.links c.in-Ok.ensures c.in-Ok-Some.is-1
    (search rules) c.lock-book.ensures c.deref_mut.ensures.value
    c.attach-attached.ensures.calls c.in-Ok-Some.is-0
    (search rules) (search rules)
