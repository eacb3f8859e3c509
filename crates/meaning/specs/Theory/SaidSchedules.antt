-- Lemmas that crates above cite: nothing here has to be believed.
-- The computed test decides whether periods make a schedule.
use Rattle.std.proofs.Common.{◌≡◌, ℕ, ◌<◌, ◌==◌, nat_lt, nat_le, true, ◌&&◌, List, [], ◌∷◌, length, Some, refl}
use Rattle.std.specs.List.{AllByRecursion}
use Rattle.std.proofs.lemmas.Bool.{false≢true, and_parts, and_from, ltb-true, lt-ltb, leb-true, le-leb, eqb-true, eq-eqb}
use Rattle.meaning.specs.declared.composite.CompositePeriod.{CompositePeriod}
use Rattle.meaning.specs.Limits.{max_composite_periods}
use Rattle.meaning.specs.Composite.{AreStrictlyIncreasing, IsSchedule}
use Rattle.meaning.specs.Said.{IsSaidSchedule}
use Rattle.meaning.specs.ByCases.Said.{go_on, is_some_schedule, is_said_schedule}

increasing : (duration : ℕ) (p : CompositePeriod) (ps : List CompositePeriod) → go_on (Some p.start) duration ps ≡ true
    → AreStrictlyIncreasing (p ∷ ps) × AllByRecursion (λ q. q.start < duration) ps
increasing duration p [] on = (tt, tt)
increasing duration p (q ∷ ps) on =
    let parts = and_parts (nat_lt p.start q.start) (nat_lt q.start duration && go_on (Some q.start) duration ps) on in
    let later = and_parts (nat_lt q.start duration) (go_on (Some q.start) duration ps) parts.1 in
    let rest = increasing duration q ps later.1 in
    ((ltb-true _ _ parts.0, rest.0), (ltb-true _ _ later.0, rest.1))

goes_on : (duration : ℕ) (p : CompositePeriod) (ps : List CompositePeriod) → AreStrictlyIncreasing (p ∷ ps)
    → AllByRecursion (λ q. q.start < duration) ps → go_on (Some p.start) duration ps ≡ true
goes_on duration p [] increasing within = refl
goes_on duration p (q ∷ ps) increasing within =
    and_from _ _ (lt-ltb _ _ increasing.0) (and_from _ _ (lt-ltb _ _ within.0) (goes_on duration q ps increasing.1 within.1))

pub schedule_is : (duration : ℕ) (ps : List CompositePeriod) → is_some_schedule duration ps ≡ true → IsSchedule duration ps
schedule_is duration [] is = absurd (false≢true is)
schedule_is duration (p ∷ ps) is =
    let parts = and_parts (p.start == 0) (nat_lt p.start duration && go_on (Some p.start) duration ps) is in
    let later = and_parts (nat_lt p.start duration) (go_on (Some p.start) duration ps) parts.1 in
    let rest = increasing duration p ps later.1 in
    record { first = eqb-true _ _ parts.0; increasing = rest.0; within = (ltb-true _ _ later.0, rest.1) }

pub is_schedule : (duration : ℕ) (ps : List CompositePeriod) → IsSchedule duration ps → is_some_schedule duration ps ≡ true
is_schedule duration [] schedule = absurd schedule.first
is_schedule duration (p ∷ ps) schedule =
    and_from _ _ (eq-eqb _ _ schedule.first)
    (and_from _ _ (lt-ltb _ _ schedule.within.0) (goes_on duration p ps schedule.increasing schedule.within.1))

pub said_schedule_is : (duration : ℕ) (ps : List CompositePeriod) → is_said_schedule duration ps ≡ true → IsSaidSchedule duration ps
said_schedule_is duration ps is =
    let parts = and_parts (nat_le (length ps) max_composite_periods) (is_some_schedule duration ps) is in
    record { schedule = schedule_is duration ps parts.1; few = leb-true _ _ parts.0 }

pub is_said : (duration : ℕ) (ps : List CompositePeriod) → IsSaidSchedule duration ps → is_said_schedule duration ps ≡ true
is_said duration ps said = and_from _ _ (le-leb _ _ said.few) (is_schedule duration ps said.schedule)
