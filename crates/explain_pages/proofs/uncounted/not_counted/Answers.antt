-- One more entry with a right reason leaves all right.
use Rattle.std.proofs.lemmas.List.Elements.{All-push}
use Rattle.meaning.specs.View.{point_state}
use Rattle.explain_pages.specs.NotCounted.{HasReason}
use Rattle.explain_pages.proofs.uncounted.not_counted.Goals.{then-not-is_named+in_ok-push, else-not-is_named}
use Rattle.explain_pages.proofs.uncounted.not_counted.Goals as goal

pub loop-place-preserved : goal.loop-place-preserved
loop-place-preserved c =
    let right = HasReason (point_state c.args.view.now) c.args.ask.now in
    elim c.if-not-is_named.branch [
      | then-not-is_named+in_ok-push w ↦ rw w.rest-is (rw w.in_ok-push.ensures.items (All-push right _ _ c.loop-place.invariant w.not_counted_at.ensures))
      | else-not-is_named w ↦ rw w.rest-is c.loop-place.invariant
    ]
