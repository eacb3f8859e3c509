-- Rows on their way: the parts that change when one passes its next place, and those that don't.
use Rattle.std.proofs.Common.{◌≡◌, ℕ, zero, suc, List, [], ◌∷◌, get_or, Option, Some, None, refl, ap, sym, ◌∙◌}
use Rattle.std.specs.List.{slice_set}
use Rattle.std.specs.Option.{MatchOption}
use Rattle.recurrence.specs.declared.place.Place.{Place}
use Rattle.recurrence.specs.Theory.Places.{next_of}
use Rattle.sweep_compiler.specs.ByCases.Running.{Running, IsRun, due, first_due, rate_running, rank_running, passed_by, passed, passed_at}

-- the invariant of a row at its next place
pub run_passed : (run : Running) (limit : Option ℕ) (place : Place) (next : Option Place) (later left : List Place) → IsRun run limit (Some place) later
    → MatchOption next ((later ≡ []) × (left ≡ [])) (λ first. later ≡ first ∷ left)
    → IsRun (passed_by (Some place.instant) run) place.rate next left
run_passed run limit place None later left is gives =
    let facts = next_of run.row.profile run.base run.since run.last place later is.1 in
    (facts.has_rate, sym facts.rest ∙ gives.0, gives.1)
run_passed run limit place (Some next) later left is gives =
    let facts = next_of run.row.profile run.base run.since run.last place later is.1 in
    (facts.has_rate, sym facts.rest ∙ gives)

pub passed_set : (runs : List Running) (i : ℕ) (d : Running) → slice_set runs i (passed (get_or runs i d)) ≡ passed_at i runs
passed_set [] i d = refl
passed_set (run ∷ later) zero d = refl
passed_set (run ∷ later) (suc i) d = ap (λ (runs : List Running). run ∷ runs) (passed_set later i d)

-- the limit at the next place, and the limit if there is none
pub next_rate_some : (run : Running) (limit : Option ℕ) (place : Place) (later : List Place) → IsRun run limit (Some place) later → place.rate ≡ rate_running (passed run)
next_rate_some run limit place later is =
    let facts = next_of run.row.profile run.base run.since run.last place later is.1 in
    facts.has_rate ∙ sym (ap (λ (left : List Place). rate_running (passed_by (first_due left) run)) is.1)

pub rank_passed : (run : Running) → rank_running (passed run) ≡ rank_running run
rank_passed run = go (due run)
  where
    go : (next : Option ℕ) → rank_running (passed_by next run) ≡ rank_running run
    go None = refl
    go (Some next) = refl
