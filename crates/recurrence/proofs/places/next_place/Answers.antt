-- The soonest of the three is the next place.
use Rattle.std.proofs.Common.{rules, ◌≡◌, ℕ, Option, ap, sym, subst, ◌∙◌}
use Rattle.std.specs.Ordering.{nat_cmp}
use Rattle.profile.specs.ChargingProfile.{offset}
use Rattle.profile.specs.Places.{is_at, is_turn_at, is_place}
use Rattle.recurrence.specs.ByCases.Sooner.{sooner}
use Rattle.recurrence.specs.ByCases.Next.{IsNext}
use Rattle.recurrence.proofs.NextLemmas.{next_or}
use Rattle.recurrence.proofs.places.next_place.Goals as goal

pub returns : goal.returns
returns c =
    let profile = c.args.profile.now in
    let base = c.args.base in
    let instant = c.args.instant in
    let from = c.next_bound-from.result in
    let to = c.next_bound-to.result in
    let turn = c.next_turn-turn.result in
    let is_from : IsNext (λ (k : ℕ). is_at k profile.valid_from) instant from = search rules in
    let is_to : IsNext (λ (k : ℕ). is_at k profile.valid_to) instant to = search rules in
    let is_turn : IsNext (λ (k : ℕ). is_turn_at profile.schedule (offset profile base k)) instant turn = search rules in
    let later = next_or (λ (k : ℕ). is_at k profile.valid_to) (λ (k : ℕ). is_turn_at profile.schedule (offset profile base k)) instant to turn
    is_to is_turn in
    let next = next_or (λ (k : ℕ). is_at k profile.valid_from) _ instant from (sooner nat_cmp to turn) is_from later in
    let same : c.sooner-2.result ≡ sooner nat_cmp from (sooner nat_cmp to turn) = c.sooner-2.ensures ∙ ap (sooner nat_cmp from) c.sooner.ensures in
    subst (λ (r : Option ℕ). IsNext (is_place profile base) instant r) (sym same) next
