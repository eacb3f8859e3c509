-- A lost link is noted.
use Rattle.std.proofs.Common.{rules}
use Rattle.session.proofs.NotingLemmas.{lost_noted}
use Rattle.session.proofs.serving.calls.lose.Goals as goal

pub note_made-requires : goal.note_made-requires
note_made-requires g c =
    lost_noted _ _ c.into_point_id.result c.as_str.result.now c.in-Point-Some.link c.in-Ok.entry
    c.in-Ok-Some.entry c.lost-lost.result c.in-Ok-Some.field-0-0 _ _ _
    c.noted_steps_are_restored.ensures.losses c.in-Ok.ensures c.in-Ok-Some.is-1
    (search rules) c.lock-book.ensures c.deref_mut.ensures.value
    c.lost-lost.ensures.makes c.in-Ok-Some.is-0
    (search rules) (search rules)
