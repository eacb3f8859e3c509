-- A performed step is noted.
use Rattle.std.proofs.Common.{rules}
use Rattle.session.proofs.NotingLemmas.{change_noted, confirm_noted}
use Rattle.session.proofs.serving.noting.note_performed.Goals as goal

pub note_made-requires : goal.note_made-requires
note_made-requires g c =
    confirm_noted _ _ c.args.entry _ c.args.confirms c.args.performed.now c.in-Some-Some.reply.now
    c.args.book.now c.noted_steps_are_restored.ensures.confirms
    c.requires (search rules) c.if-confirms.true (search rules)
    (search rules)

pub note_made-requires-in-Some : goal.note_made-requires-in-Some
note_made-requires-in-Some g c =
    change_noted _ _ c.args.entry _ c.args.confirms c.args.performed.now c.in-Some-Some.reply.now
    c.args.book.now _ c.noted_steps_are_restored.ensures.changes
    c.requires (search rules) c.if-confirms.false (search rules) (search rules)
    (search rules)
