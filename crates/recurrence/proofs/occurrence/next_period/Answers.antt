-- The next period of the occurrence is the next place.
use Rattle.std.proofs.Common.{◌≡◌, ◌∙◌, ◌+◌, ◌<◌, ◌≤◌, ℕ, List, Option, Some, None, length, get_or, ap, subst, sym, rules, arith}
use Rattle.ocpp_scalars.specs.Limits.{last_second}
use Rattle.profile.specs.declared.period.Period.{Period}
use Rattle.recurrence.specs.declared.occurrence.Occurrence.{Occurrence}
use Rattle.recurrence.specs.ByCases.Occurrence.{IsNextPeriod, if_live}
use Rattle.recurrence.proofs.OccurrenceLemmas.{period_from}
use Rattle.recurrence.proofs.occurrence.next_period.Goals as goal

pub overflow_add-second : goal.overflow_add-second
overflow_add-second c =
    let low = c.requires.begins in
    let top : c.args.after ≤ last_second = search rules in
    let small = c.start_of.ensures.small in
    search (rules, arith)

pub returns : goal.returns
returns c =
    let profile = c.args.profile.now in
    let o = c.args.occurrence in
    let slice = c.as_slice-periods.result.now in
    let value = c.as_slice-periods.ensures.value in
    let d : Period = record { start = 0; limit = 0; number_phases = None } in
    let more : Occurrence = record { begin = o.begin; begun = o.begun + 1; fence = o.fence; is_live = o.is_live } in
    let within : o.begun < length slice = let not = c.if-occurrence-periods.false in omega (arith, not) in
    let inside = subst (λ (ps : List Period). o.begun < length ps) value within in
    let ordered = c.as_slice-periods.ensures.schedule.ordered in
    let from : c.start_of.result ≡ (get_or slice o.begun d).start = search rules in
    let start = from ∙ ap (λ (ps : List Period). (get_or ps o.begun d).start) value in
    let next : ℕ = o.begin + (get_or profile.schedule.periods o.begun d).start in
    let rate_from : c.if_live.result ≡ if_live o.is_live (Some (get_or slice o.begun d).limit) = search rules in
    let rate = rate_from ∙ ap (λ (ps : List Period). if_live o.is_live (Some (get_or ps o.begun d).limit)) value in
    let second : c.in_ok-try_new.field-0 ≡ o.begin + c.start_of.result = search rules in
    let instant : c.in_ok-try_new.field-0 ≡ next = second ∙ ap (λ n. o.begin + n) start in
    let fence = c.if-occurrence-second.false in
    let early : next < o.fence = omega (arith, fence, start) in
    let last_is = c.seconds.ensures.value in
    let not_past = c.if-seconds-second.false in
    let up : next ≤ c.args.last = omega (arith, not_past, last_is, start) in
    let top : c.args.last ≤ last_second = search rules in
    let found = period_from profile c.args.base c.args.after c.args.last o d c.requires ordered inside early up top in
    subst (λ n. IsNextPeriod profile c.args.base c.args.after c.args.last (record { instant = n; rate = c.if_live.result }) more) (sym instant)
    (subst (λ (r : Option ℕ). IsNextPeriod profile c.args.base c.args.after c.args.last (record { instant = next; rate = r }) more) (sym rate) found)
