-- A Take is Behind exactly if its session has seen a newer version.
use Rattle.std.proofs.Common.{◌≡◌, ℕ, ◌<◌, nat_lt, nat_le, ◌==◌, Bool, true, false, cond, length, Option, Some, None, Result, Ok, Err, refl, sym, ap, ◌∙◌, ◌+◌, arith}
use Rattle.std.proofs.lemmas.Bool.Decides.{nat_tests}
use Rattle.ocpp_scalars.specs.declared.refusal.Refusal.{Refusal}
use Rattle.ocpp_scalars.specs.declared.refusal.Refusal.TheVariants.{Behind, Stopped, UnknownConnector, WrongUnit, BadDuration, PastCalendar, TooManyOpen, VersionsExhausted}
use Rattle.ocpp_scalars.specs.Limits.{last_second}
use Rattle.ocpp_scalars.specs.ResultSteps.{◌>>=◌}
use Rattle.profile.specs.declared.unit.Unit.{Unit}
use Rattle.profile.specs.Refusing.{fact_or}
use Rattle.meaning.specs.declared.ask.Ask.{Ask}
use Rattle.meaning.specs.Limits.{max_duration}
use Rattle.meaning.specs.Ask.{ask_of}
use Rattle.site_rules.specs.Site.{place_of}
use Rattle.point_book.specs.Book.{BookState}
use Rattle.site_core.specs.declared.step.Step.TheVariants as steps
use Rattle.site_core.specs.declared.step.Take.{Take}
use Rattle.site_core.specs.Limits.{max_number, max_requests}
use Rattle.site_core.specs.State.{MachineState, book_at}
use Rattle.site_core.specs.Ask.{is_other_unit, ask_at}
use Rattle.site_core.specs.Step.{Made, stepped, no_answer, at_point, found_place, refusal_to_take, taking, unless}
use Rattle.version_store.specs.Passes.{PassState}
use Rattle.version_store.specs.Store.{StoreState}
use Rattle.version_store.specs.Calls.{IsRefusalTo, IsRefusalOf, IsBehind}

-- ---- no `Ask` is refused as Behind

-- a refusal of two steps in turn is that of the first, or of the one after it
refused_in_steps : {A : Type 0} (first : Result A Refusal) (next : A → Result Ask Refusal)
    (refusal : Refusal) → (first ≡ Err refusal → ⊥)
    → ((a : A) → next a ≡ Err refusal → ⊥) → (first >>= next) ≡ Err refusal → ⊥
refused_in_steps (Ok a) next refusal not_first not_later is = not_later a is
refused_in_steps (Err fault) next refusal not_first not_later is =
    let same : fault ≡ refusal = cc is in
    not_first (ap Err same)

fact_refusal : (cause : Refusal) (test : Bool) (refusal : Refusal)
    → fact_or cause test ≡ Err refusal → cause ≡ refusal
fact_refusal cause true refusal is = absurd (cc is)
fact_refusal cause false refusal is = cc is

ask_of_not_behind : (connector start duration seen found : ℕ)
    → ask_of connector start duration ≡ Err (Behind seen found) → ⊥
ask_of_not_behind connector start duration seen found is =
    refused_in_steps (fact_or BadDuration (nat_lt 0 duration)) _ (Behind seen found)
    (λ e. absurd (cc (fact_refusal BadDuration (nat_lt 0 duration) (Behind seen found) e)))
    (λ some. refused_in_steps (fact_or BadDuration (nat_le duration max_duration)) _
    (Behind seen found)
    (λ e. absurd (cc (fact_refusal BadDuration (nat_le duration max_duration) (Behind seen found) e)))
    (λ most. refused_in_steps (fact_or PastCalendar (nat_le (start + duration) (last_second + 1))) _
    (Behind seen found)
    (λ e. absurd (cc (fact_refusal PastCalendar (nat_le (start + duration) (last_second + 1))
    (Behind seen found) e)))
    (λ within e. absurd (cc e))))
    is

ask_not_behind : (unit : Unit) (book : BookState) (take : Take) (seen found : ℕ)
    → ask_at unit book take ≡ Err (Behind seen found) → ⊥
ask_not_behind unit book take seen found is =
    go (nat_lt (length book.ceilings) take.connector) (is_other_unit take.unit unit) is
  where
    go : (outside other : Bool)
        → cond outside (Err UnknownConnector)
        (cond other (Err WrongUnit) (ask_of take.connector take.start take.duration))
        ≡ Err (Behind seen found) → ⊥
    go true other is = absurd (cc is)
    go false true is = absurd (cc is)
    go false false is =
        ask_of_not_behind take.connector take.start take.duration seen found is

-- ---- a Take is

record IsOlder (old : MachineState) (take : Take) (seen found : ℕ) : Type 0 where
  seen_is : seen ≡ take.seen
  found_is : found ≡ old.numbers.version
  older : old.numbers.version < take.seen

refusal_behind : (old : MachineState) (take : Take) (seen found : ℕ)
    → refusal_to_take old take ≡ Some (Behind seen found) → IsOlder old take seen found
refusal_behind old take seen found is =
    go (nat_le max_requests (length old.requests)) (old.numbers.request == max_number)
    (nat_lt old.numbers.version take.seen) refl is
  where
    go : (many last is_behind : Bool) → nat_lt old.numbers.version take.seen ≡ is_behind
        → cond many (Some TooManyOpen) (cond last (Some VersionsExhausted)
        (cond is_behind (Some (Behind take.seen old.numbers.version)) None))
        ≡ Some (Behind seen found) → IsOlder old take seen found
    go true last is_behind older is = absurd (cc is)
    go false true is_behind older is = absurd (cc is)
    go false false true older is =
        record { seen_is = cc is; found_is = cc is; older = grind (arith, nat_tests, older) }
    go false false false older is = absurd (cc is)

-- the result of a Take at a place
abbrev takes_at : MachineState → Take → ℕ → Result Made Refusal
takes_at old take place =
    ask_at old.site.unit (book_at old place) take
    >>= (λ ask. unless (refusal_to_take old take) (taking old place ask))

takes_behind : (old : MachineState) (take : Take) (place seen found : ℕ)
    → takes_at old take place ≡ Err (Behind seen found) → IsOlder old take seen found
takes_behind old take place seen found is =
    go (ask_at old.site.unit (book_at old place) take) refl is
  where
    go : (asked : Result Ask Refusal) → ask_at old.site.unit (book_at old place) take ≡ asked
        → (asked >>= (λ ask. unless (refusal_to_take old take) (taking old place ask)))
        ≡ Err (Behind seen found) → IsOlder old take seen found
    go (Err cause) asks is =
        let same : cause ≡ Behind seen found = cc is in
        absurd (ask_not_behind old.site.unit (book_at old place) take seen found
        (asks ∙ ap Err same))
    go (Ok ask) asks is = unless_behind (refusal_to_take old take) refl is
      where
        unless_behind : (cause : Option Refusal) → refusal_to_take old take ≡ cause
            → unless {X = Made} cause (taking old place ask) ≡ Err (Behind seen found)
            → IsOlder old take seen found
        unless_behind (Some cause) here is =
            let same : cause ≡ Behind seen found = cc is in
            refusal_behind old take seen found (here ∙ ap Some same)
        unless_behind None here is = absurd (cc is)

-- the place that a Take's point has by its name
abbrev named_place : MachineState → Take → Option ℕ → Result ℕ Refusal
named_place old take place =
    found_place old (at_point take.point (λ site numbers point. Err Stopped)).via place

step_behind : (old : MachineState) (take : Take) (seen found : ℕ)
    → stepped no_answer old (steps.Take take) ≡ Err (Behind seen found)
    → IsOlder old take seen found
step_behind old take seen found is = go old.is_stopped (place_of old.site take.point) is
  where
    go : (stopped : Bool) (place : Option ℕ)
        → (cond stopped (Err Stopped) (named_place old take place) >>= takes_at old take)
        ≡ Err (Behind seen found) → IsOlder old take seen found
    go true place is = absurd (cc is)
    go false None is = absurd (cc is)
    go false (Some place) is = takes_behind old take place seen found is

pub behind_shown : (store : StoreState) (was : PassState) (take : Take) (refusal : Refusal)
    → take.seen ≡ was.seen → IsRefusalOf store (steps.Take take) refusal
    → (seen found : ℕ) → refusal ≡ Behind seen found
    → IsBehind store.present.numbers.version was.seen seen found
behind_shown store was take refusal same is seen found behind =
    go (stepped no_answer store.present (steps.Take take)) refl is
  where
    go : (result : Result Made Refusal) → stepped no_answer store.present (steps.Take take) ≡ result
        → IsRefusalTo store (steps.Take take) result refusal
        → IsBehind store.present.numbers.version was.seen seen found
    go (Ok made) steps is = absurd (cc (is.1, behind))
    go (Err cause) steps is =
        let one : cause ≡ Behind seen found = sym is ∙ behind in
        let older = step_behind store.present take seen found (steps ∙ ap Err one) in
        record {
          seen_is = older.seen_is ∙ same;
          found_is = older.found_is;
          older = omega (arith, older.older, same);
        }
