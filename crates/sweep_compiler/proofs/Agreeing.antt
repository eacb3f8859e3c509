-- Two schedules agree before some period, and the step by one more interval, or by one that
-- contradicts.
use Rattle.std.proofs.Common.{◌≡◌, ℕ, ◌+◌, ◌-◌, ◌<◌, ◌≤◌, ◌==◌, ◌⊎◌, inl, inr, zero, suc, nat_lt, true, false, not, ◌&&◌, List, [], ◌∷◌, length, Some, slice_get, slice_index_or, refl, sym, ap, ◌∙◌, arith}
use Rattle.std.proofs.lemmas.Bool.{and_parts, and_cases, cases_lt, ltb-true, ltb-false, eqb-true, eq-eqb, not-true, not-false, both_ways}
use Rattle.std.proofs.lemmas.Option.{slice_get_past, slice_get-get_or, none-some, same_Some}
use Rattle.meaning.specs.declared.composite.CompositePeriod.{CompositePeriod}
use Rattle.meaning.specs.Composite.{CompositeSchedule, IsSchedule, BeginAtZero, AreStrictlyIncreasing, at}
use Rattle.std.specs.List.{AllByRecursion}
use Rattle.meaning.specs.Theory.ExactPeriods.{at_first, at_later, later_all, increasing_after}
use Rattle.sweep_compiler.specs.declared.agreement.PeriodInterval.{PeriodInterval}
use Rattle.sweep_compiler.specs.Agree.{Agree}
use Rattle.sweep_compiler.specs.ByCases.Agree.{start_or, begin_of, IsPeriodInterval, contradict, AgreeBefore}

begins_at_zero : (duration : ℕ) (ps : List CompositePeriod) → BeginAtZero ps → start_or duration (slice_get ps 0) ≡ 0
begins_at_zero duration [] first = absurd first
begins_at_zero duration (p ∷ ps) first = first

pub agree_none : (first : CompositeSchedule) (first_start : ℕ) (second : CompositeSchedule) (second_start : ℕ)
    → IsSchedule first.duration first.periods → IsSchedule second.duration second.periods
    → AgreeBefore first first_start 0 second second_start 0
agree_none first first_start second second_start h k = λ one other inside within same before.
    let zero_first : begin_of first 0 ≡ 0 = begins_at_zero first.duration first.periods h.first in
    let zero_second : begin_of second 0 ≡ 0 = begins_at_zero second.duration second.periods k.first in
    elim before [
      | inl sooner ↦ absurd (omega arith)
      | inr sooner ↦ absurd (omega arith)
    ]

end_is : (schedule : CompositeSchedule) (place : ℕ) → length schedule.periods ≤ place → begin_of schedule place ≡ schedule.duration
end_is schedule place past = ap (start_or schedule.duration) (slice_get_past schedule.periods place past)

pub agree_all : (first : CompositeSchedule) (first_start place : ℕ) (second : CompositeSchedule) (second_start other_place : ℕ)
    → AgreeBefore first first_start place second second_start other_place
    → (length first.periods ≤ place) ⊎ (length second.periods ≤ other_place)
    → Agree first first_start second second_start
agree_all first first_start place second second_start other_place before end = λ one other inside within same.
    elim end [
      | inl past ↦ let whole = end_is first place past in before one other inside within same (inl (omega (arith, whole)))
      | inr past ↦ let whole = end_is second other_place past in before one other inside within same (inr (omega (arith, whole)))
    ]

-- two intervals have equal limits at each second that both cover
equal_limits : (left right : PeriodInterval) (instant : ℕ) → contradict left right ≡ false
    → left.start ≤ instant → instant < left.end → right.start ≤ instant → instant < right.end
    → left.limit ≡ right.limit
equal_limits left right instant agree h i j k =
    elim (and_cases (not (left.limit == right.limit)) (nat_lt left.start right.end && nat_lt right.start left.end) agree) [
      | inl same ↦ eqb-true left.limit right.limit (not-false (left.limit == right.limit) same)
      | inr apart ↦ elim (and_cases (nat_lt left.start right.end) (nat_lt right.start left.end) apart) [
        | inl before ↦ let b = ltb-false left.start right.end before in absurd (omega (arith, b))
        | inr behind ↦ let b = ltb-false right.start left.end behind in absurd (omega (arith, b))
      ]
    ]

-- both schedules have equal limits at a second that two intervals without contradiction cover
both_here : (first : CompositeSchedule) (first_start place : ℕ) (second : CompositeSchedule) (second_start other_place : ℕ) (left right : PeriodInterval)
    → IsPeriodInterval first first_start place left → IsPeriodInterval second second_start other_place right → contradict left right ≡ false
    → (one other : ℕ) → first_start + one ≡ second_start + other
    → left.start ≤ first_start + one → first_start + one < left.end → right.start ≤ second_start + other → second_start + other < right.end
    → at first.periods one ≡ at second.periods other
both_here first first_start place second second_start other_place left right h k agree one other same i j l m =
    let limits = equal_limits left right (first_start + one) agree i j (omega arith) (omega arith) in
    h.limit one i j ∙ (ap (λ (n : ℕ). Some n) limits ∙ sym (k.limit other l m))

pub agree_left : (first : CompositeSchedule) (first_start place : ℕ) (second : CompositeSchedule) (second_start other_place : ℕ) (left right : PeriodInterval)
    → IsPeriodInterval first first_start place left → IsPeriodInterval second second_start other_place right → contradict left right ≡ false
    → left.end ≤ right.end
    → AgreeBefore first first_start place second second_start other_place
    → AgreeBefore first first_start (place + 1) second second_start other_place
agree_left first first_start place second second_start other_place left right h k agree order before = λ one other inside within same reached.
    elim (cases_lt one (begin_of first place)) [
      | inl past ↦ before one other inside within same (inl past)
      | inr since ↦ elim (cases_lt other (begin_of second other_place)) [
        | inl past ↦ before one other inside within same (inr past)
        | inr from ↦
            let here : one < begin_of first (place + 1) = elim reached [ inl sooner ↦ sooner | inr late ↦ absurd (omega arith) ] in
            let start = h.from in
            let end = h.to in
            let other_start = k.from in
            both_here first first_start place second second_start other_place left right h k agree one other same
            (omega (arith, start)) (omega (arith, end)) (omega (arith, other_start)) (omega (arith, end))
      ]
    ]

pub agree_right : (first : CompositeSchedule) (first_start place : ℕ) (second : CompositeSchedule) (second_start other_place : ℕ) (left right : PeriodInterval)
    → IsPeriodInterval first first_start place left → IsPeriodInterval second second_start other_place right → contradict left right ≡ false
    → right.end ≤ left.end
    → AgreeBefore first first_start place second second_start other_place
    → AgreeBefore first first_start place second second_start (other_place + 1)
agree_right first first_start place second second_start other_place left right h k agree order before = λ one other inside within same reached.
    elim (cases_lt one (begin_of first place)) [
      | inl past ↦ before one other inside within same (inl past)
      | inr since ↦ elim (cases_lt other (begin_of second other_place)) [
        | inl past ↦ before one other inside within same (inr past)
        | inr from ↦
            let here : other < begin_of second (other_place + 1) = elim reached [ inl late ↦ absurd (omega arith) | inr sooner ↦ sooner ] in
            let start = h.from in
            let other_start = k.from in
            let other_end = k.to in
            both_here first first_start place second second_start other_place left right h k agree one other same
            (omega (arith, start)) (omega (arith, other_end)) (omega (arith, other_start)) (omega (arith, other_end))
      ]
    ]

-- two intervals that contradict each other share a second at which the schedules don't agree
pub contradicted : (first : CompositeSchedule) (first_start place : ℕ) (second : CompositeSchedule) (second_start other_place : ℕ) (left right : PeriodInterval)
    → IsPeriodInterval first first_start place left → IsPeriodInterval second second_start other_place right → contradict left right ≡ true
    → Agree first first_start second second_start → ⊥
contradicted first first_start place second second_start other_place left right h k against agree =
    let parts = and_parts (not (left.limit == right.limit)) (nat_lt left.start right.end && nat_lt right.start left.end) against in
    let differ : (left.limit == right.limit) ≡ false = not-true (left.limit == right.limit) parts.0 in
    let both = and_parts (nat_lt left.start right.end) (nat_lt right.start left.end) parts.1 in
    let before = ltb-true left.start right.end both.0 in
    let behind = ltb-true right.start left.end both.1 in
    let sooner = h.some in
    let later = k.some in
    let from = h.from in
    let other_from = k.from in
    elim (cases_lt left.start right.start) [
      | inl first_sooner ↦ at_one right.start (omega arith) (omega arith) (omega arith) (omega arith) (omega (arith, from)) (omega (arith, other_from)) differ
      | inr second_sooner ↦ at_one left.start (omega arith) (omega arith) (omega arith) (omega arith) (omega (arith, from)) (omega (arith, other_from)) differ
    ]
  where
    at_one : (instant : ℕ) → left.start ≤ instant → instant < left.end → right.start ≤ instant → instant < right.end
        → first_start ≤ instant → second_start ≤ instant → (left.limit == right.limit) ≡ false → ⊥
    at_one instant i j l m from other_from differ =
        let one = instant - first_start in
        let other = instant - second_start in
        let here : first_start + (instant - first_start) ≡ instant = omega arith in
        let there : second_start + (instant - second_start) ≡ instant = omega arith in
        let inside = h.inside in
        let within = k.inside in
        let equal = agree one other (omega (arith, inside, here)) (omega (arith, within, there)) (omega (arith, here, there)) in
        let one_limit = h.limit one (omega (arith, here)) (omega (arith, here)) in
        let other_limit = k.limit other (omega (arith, there)) (omega (arith, there)) in
        let limits : left.limit ≡ right.limit = same_Some _ _ (sym one_limit ∙ (equal ∙ other_limit)) in
        both_ways (left.limit == right.limit) differ (eq-eqb _ _ limits)

-- a period is in force from its start until the next one begins
in_force : (ps : List CompositePeriod) (place : ℕ) (p : CompositePeriod) → AreStrictlyIncreasing ps → slice_get ps place ≡ Some p
    → (second end : ℕ) → p.start ≤ second → second < start_or end (slice_get ps (suc place)) → at ps second ≡ Some p.limit
in_force [] place p increasing is second end since before = absurd (none-some _ is)
in_force (q ∷ []) zero p increasing is second end since before =
    let same : q ≡ p = same_Some _ _ is in
    at_first second q [] (rw same since) tt ∙ ap (λ (r : CompositePeriod). Some r.limit) same
in_force (q ∷ (r ∷ ps)) zero p increasing is second end since before =
    let same : q ≡ p = same_Some _ _ is in
    at_first second q (r ∷ ps) (rw same since) (before, later_all second r.start ps (omega arith) (increasing_after r ps increasing.1)) ∙ ap (λ (r : CompositePeriod). Some r.limit) same
in_force (q ∷ []) (suc place) p increasing is second end since before = absurd (none-some _ is)
in_force (q ∷ (r ∷ ps)) (suc place) p increasing is second end since before =
    let least = first_least r ps place p increasing.1 is in
    let sooner : q.start < r.start = increasing.0 in
    at_later second q r ps (omega arith) (omega arith) ∙ in_force (r ∷ ps) place p increasing.1 is second end since before
  where
    first_least : (q : CompositePeriod) (ps : List CompositePeriod) (place : ℕ) (p : CompositePeriod) → AreStrictlyIncreasing (q ∷ ps)
        → slice_get (q ∷ ps) place ≡ Some p → q.start ≤ p.start
    first_least q ps zero p increasing is = let same : q ≡ p = same_Some _ _ is in rw same (omega arith)
    first_least q [] (suc place) p increasing is = absurd (none-some _ is)
    first_least q (r ∷ ps) (suc place) p increasing is =
        let rest = first_least r ps place p increasing.1 is in
        let sooner : q.start < r.start = increasing.0 in
        omega arith

-- each period begins before the next one does, and the last one before the end
steps : (duration : ℕ) (ps : List CompositePeriod) (place : ℕ) → AreStrictlyIncreasing ps → AllByRecursion (λ p. p.start < duration) ps → place < length ps
    → start_or duration (slice_get ps place) < start_or duration (slice_get ps (suc place))
steps duration [] place increasing within inside = absurd (omega arith)
steps duration (p ∷ []) zero increasing within inside = within.0
steps duration (p ∷ (q ∷ ps)) zero increasing within inside = increasing.0
steps duration (p ∷ []) (suc place) increasing within inside = absurd (omega arith)
steps duration (p ∷ (q ∷ ps)) (suc place) increasing within inside = steps duration (q ∷ ps) place increasing.1 within.1 (omega arith)

begins_inside : (duration : ℕ) (ps : List CompositePeriod) (place : ℕ) → AllByRecursion (λ p. p.start < duration) ps → start_or duration (slice_get ps place) ≤ duration
begins_inside duration [] place within = omega arith
begins_inside duration (p ∷ ps) zero within = let below : p.start < duration = within.0 in omega arith
begins_inside duration (p ∷ ps) (suc place) within = begins_inside duration ps place within.1

pub period_interval_is : (schedule : CompositeSchedule) (start place : ℕ) (d : CompositePeriod) → IsSchedule schedule.duration schedule.periods → place < length schedule.periods
    → IsPeriodInterval schedule start place (record { start = start + begin_of schedule place; end = start + begin_of schedule (place + 1); limit = (slice_index_or schedule.periods place d).limit })
period_interval_is schedule start place d is inside =
    let next : place + 1 ≡ suc place = omega arith in
    let found = slice_get-get_or schedule.periods place d inside in
    let begins : begin_of schedule place ≡ (slice_index_or schedule.periods place d).start = ap (start_or schedule.duration) found in
    let step = steps schedule.duration schedule.periods place is.increasing is.within inside in
    let end = begins_inside schedule.duration schedule.periods (suc place) is.within in
    rw next (record {
      from = refl;
      to = rw next refl;
      some = omega (arith, step);
      inside = omega (arith, end);
      limit = λ second since before.
          in_force schedule.periods place (slice_index_or schedule.periods place d) is.increasing found second schedule.duration (omega (arith, begins)) (omega arith);
    })
