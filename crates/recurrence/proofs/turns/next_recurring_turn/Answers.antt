-- A turn of the current occurrence comes first; without one, the next occurrence begins.
use Rattle.std.proofs.Common.{◌≡◌, ℕ, ◌<◌, ◌%◌, false, refl, arith}
use Rattle.std.proofs.Math.Nat.{mod-le}
use Rattle.profile.specs.Places.{is_turn}
use Rattle.recurrence.proofs.NextLemmas.{again_within, again_after}
use Rattle.recurrence.proofs.turns.next_recurring_turn.Goals as goal
use Rattle.recurrence.proofs.turns.next_recurring_turn.Goals.{in_default-via-in-Some+else-turn-length, in_default-via-in_default}

pub returns-in-Some-clause-next : goal.returns-in-Some-clause-next
returns-in-Some-clause-next c =
    again_within (is_turn c.args.schedule.now) c.args.seconds c.args.length c.in-Some.turn c.if-turn-length.true (mod-le c.args.seconds c.args.length) c.in-Some.ensures.next

pub returns-in_default-clause-next : goal.returns-in_default-clause-next
returns-in_default-clause-next c =
    again_after (is_turn c.args.schedule.now) c.args.seconds c.args.length c.requires.some (mod-le c.args.seconds c.args.length) refl fails
  where
    fails : (k : ℕ) → c.args.seconds % c.args.length < k → k < c.args.length → is_turn c.args.schedule.now k ≡ false
    fails k later inside = elim c.in_default.branch [
      | in_default-via-in-Some+else-turn-length w ↦ w.in-Some.ensures.next.fails_between k later (omega arith)
      | in_default-via-in_default w ↦ w.in_default.ensures.next k later
    ]
