-- No later offset is 0, and the sooner of a start and the end is next.
use Rattle.std.proofs.Common.{◌≡◌, ℕ, ◌<◌, ◌==◌, false, List, Option, sym, subst, arith}
use Rattle.std.proofs.lemmas.Bool.Decides.{nat_tests}
use Rattle.profile.specs.declared.period.Period.{Period}
use Rattle.profile.specs.Places.{is_at, is_turn}
use Rattle.recurrence.specs.ByCases.Next.{IsNext, is_start}
use Rattle.recurrence.proofs.NextLemmas.{next_or, next_beside}
use Rattle.recurrence.proofs.turns.next_turn_in.Goals as goal

never_begins : (n k : ℕ) → n < k → (k == 0) ≡ false
never_begins n k later = grind (arith, nat_tests)

pub returns-clause-next : goal.returns-clause-next
returns-clause-next c =
    let schedule = c.args.schedule.now in
    let periods = c.as_slice.result.now in
    let starts = subst (λ (ps : List Period). IsNext (is_start ps) c.args.offset c.next_start-start.result)
    c.as_slice.ensures.value c.next_start-start.ensures.next in
    let either = next_or (is_start schedule.periods) (λ (k : ℕ). is_at k schedule.duration) c.args.offset
    c.next_start-start.result c.next_end.result starts c.next_end.ensures.next in
    subst (λ (r : Option ℕ). IsNext (is_turn schedule) c.args.offset r) (sym c.sooner.ensures) (next_beside (λ (k : ℕ). k == 0) _ c.args.offset _ (never_begins c.args.offset) either)
