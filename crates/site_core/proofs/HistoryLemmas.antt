-- Histories that are cut and lengthened, those of runs, and counts of Takes.
use Rattle.std.proofs.Common.{◌≡◌, ℕ, zero, suc, ◌+◌, Bool, true, false, cond, List, [], ◌∷◌, ◌++◌, take, slice_get, Some, refl, ap, ◌∙◌, subst, add-zero}
use Rattle.std.proofs.lemmas.List.Sums.{sum_by_push, sum_by-append, sum_by-cons}
use Rattle.site_core.specs.declared.step.Step.{Step}
use Rattle.site_core.specs.declared.outcome.Outcome.{Outcome}
use Rattle.site_core.specs.declared.outcome.Outcome.TheVariants.{Done, Refused}
use Rattle.site_core.specs.State.{MachineState}
use Rattle.site_core.specs.Step.{Steps}
use Rattle.site_core.specs.Run.{HasOutcome, Runs}
use Rattle.site_core.specs.History.{Event, Legal, history_of, is_take_of, takes_of}

-- ---- legal histories

pub legal_push : (old : MachineState) (events : List Event) (middle : MachineState)
    (event : Event) (new : MachineState)
    → Legal old events middle → Steps middle event.step event.reply new
    → Legal old (events ++ event ∷ []) new
legal_push old [] middle event new legal made =
    (new, subst (λ (m : MachineState). Steps m event.step event.reply new) legal made, refl)
legal_push old (first ∷ events) middle event new legal made =
    (legal.0, legal.1, legal_push legal.0 events middle event new legal.2 made)

pub legal_split : (old : MachineState) (earlier : List Event) (event : Event) (later : List Event)
    (new : MachineState) → Legal old (earlier ++ event ∷ later) new
    → (middle : MachineState) ×
    (next : MachineState) × Legal old earlier middle × Steps middle event.step event.reply next ×
    Legal next later new
legal_split old [] event later new legal = (old, legal.0, refl, legal.1, legal.2)
legal_split old (first ∷ earlier) event later new legal =
    let rest = legal_split legal.0 earlier event later new legal.2 in
    (rest.0, rest.1, (legal.0, legal.1, rest.2), rest.3, rest.4)

-- ---- runs

pub runs_legal : (old new : MachineState) (steps : List Step) (outcomes : List Outcome)
    → Runs old steps outcomes new → Legal old (history_of steps outcomes) new
runs_legal old new [] [] runs = runs
runs_legal old new [] (outcome ∷ outcomes) runs = absurd runs
runs_legal old new (step ∷ steps) [] runs = absurd runs
runs_legal old new (step ∷ steps) (Done reply ∷ outcomes) runs =
    (runs.0, runs.1, runs_legal runs.0 new steps outcomes runs.2)
runs_legal old new (step ∷ steps) (Refused refused ∷ outcomes) runs =
    subst (λ (m : MachineState). Legal m (history_of steps outcomes) new) runs.1.unchanged
    (runs_legal runs.0 new steps outcomes runs.2)

pub runs_append : (old middle new : MachineState) (steps more : List Step)
    (outcomes others : List Outcome) → Runs old steps outcomes middle → Runs middle more others new
    → Runs old (steps ++ more) (outcomes ++ others) new
runs_append old middle new [] more [] others runs then_runs =
    subst (λ (m : MachineState). Runs m more others new) runs then_runs
runs_append old middle new [] more (outcome ∷ outcomes) others runs then_runs = absurd runs
runs_append old middle new (step ∷ steps) more [] others runs then_runs = absurd runs
runs_append old middle new (step ∷ steps) more (outcome ∷ outcomes) others runs then_runs =
    (runs.0, runs.1, runs_append runs.0 middle new steps more outcomes others runs.2 then_runs)

-- the step at a place of a run, from where those before it lead
pub run_at : (old new : MachineState) (steps : List Step) (outcomes : List Outcome) (n : ℕ)
    (step : Step) (outcome : Outcome)
    → Runs old steps outcomes new → slice_get steps n ≡ Some step
    → slice_get outcomes n ≡ Some outcome
    → (middle : MachineState) × (next : MachineState) × Runs old (take n steps)
    (take n outcomes) middle × HasOutcome middle step outcome next
run_at old new [] outcomes n step outcome runs here there = cc
run_at old new (first ∷ steps) [] n step outcome runs here there = cc
run_at old new (first ∷ steps) (one ∷ outcomes) zero step outcome runs here there =
    let same : first ≡ step = cc in
    let alike : one ≡ outcome = cc in (
      old,
      runs.0,
      refl,
      subst (λ (s : Step). HasOutcome old s outcome runs.0) same (subst (λ
          (o : Outcome). HasOutcome old first o runs.0) alike runs.1),
    )
run_at old new (first ∷ steps) (one ∷ outcomes) (suc n) step outcome runs here there =
    let rest = run_at runs.0 new steps outcomes n step outcome runs.2 here there in
    (rest.0, rest.1, (runs.0, runs.1, rest.2), rest.3)

-- ---- counts

pub takes_push : (number : ℕ) (events : List Event) (event : Event)
    → is_take_of number event ≡ false → takes_of number
    (events ++ event ∷ []) ≡ takes_of number events
takes_push number events event other =
    sum_by_push (λ (e : Event). cond (is_take_of number e) 1 0) events event
    ∙ (ap (λ (b : Bool). takes_of number events + cond b 1 0) other ∙ add-zero _)

-- a Take among others that are none of its number
pub takes_once : (number : ℕ) (before : List Event) (event : Event) (since : List Event)
    → is_take_of number event ≡ true
    → takes_of number before ≡ 0 → takes_of number since ≡ 0
    → takes_of number (before ++ event ∷ since) ≡ 1
takes_once number before event since is first last =
    let f = λ (e : Event). cond {A = ℕ} (is_take_of number e) 1 0 in
    sum_by-append f before (event ∷ since) ∙ rw (sum_by-cons f event since, first, last, is) refl
