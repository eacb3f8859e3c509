-- The events to come that never fold have their room.
use Rattle.std.proofs.Common.{◌≡◌, ℕ, ◌+◌, ◌*◌, ◌≤◌, ◌==◌, Bool, true, false, cond, List, [], ◌∷◌, Some, is_some, sym, ap, subst, length, arith}
use Rattle.std.specs.List.{sum_by}
use Rattle.std.proofs.lemmas.List.Sums.{sum_by-cons}
use Rattle.site_core.specs.State.{MachineState, Kept, ScheduleAnswer}
use Rattle.site_core.specs.Requests.{request_of, with_answer, answered, without, stopped_request, all_stopped}
use Rattle.site_core.specs.Theory.Requests.{found_number}
use Rattle.version_store.specs.Store.{events_to_come, finish_to_come, still_to_come}

abbrev requests_to_come : List Kept → ℕ
requests_to_come requests = sum_by events_to_come requests

-- at most two of each kept request
two_each : (requests : List Kept) → requests_to_come requests ≤ 2 * length requests
two_each [] = omega arith
two_each (kept ∷ others) = go (is_some kept.answer) (sum_by-cons events_to_come kept others)
    (two_each others)
  where
    go : (has : Bool)
        → requests_to_come (kept ∷ others) ≡ cond has 1 2 + requests_to_come others
        → requests_to_come others ≤ 2 * length others
        → requests_to_come (kept ∷ others) ≤ 2 * length (kept ∷ others)
    go true is rest = omega (arith, is, rest)
    go false is rest = omega (arith, is, rest)

one_of_stopping : (stopped : Bool) → finish_to_come stopped ≤ 1
one_of_stopping true = omega arith
one_of_stopping false = omega arith

pub few_to_come : (state : MachineState) → length state.requests ≤ 64 → still_to_come state ≤ 129
few_to_come state few =
    omega (arith, few, two_each state.requests, one_of_stopping state.is_stopped)

-- ---- compiling: one less

pub one_less_compiled : (number : ℕ) (answer : ScheduleAnswer) (kept : Kept) (requests : List Kept)
    → request_of number requests ≡ Some kept → is_some kept.answer ≡ false
    → requests_to_come (answered number answer requests) + 1 ≡ requests_to_come requests
one_less_compiled number answer kept [] is none = absurd (cc is)
one_less_compiled number answer kept (first ∷ others) is none = go (first.number == number) is
    (λ e. one_less_compiled number answer kept others e none)
  where
    here : Some first ≡ Some kept
        → requests_to_come (with_answer first answer ∷ others) + 1
        ≡ requests_to_come (first ∷ others)
    here same =
        let one : first ≡ kept = cc same in
        let was : is_some first.answer ≡ false = rw one none in
        let two : events_to_come first ≡ 2 = ap (λ (b : Bool). cond b 1 2) was in
        omega (
          arith,
          two,
          sum_by-cons events_to_come (with_answer first answer) others,
          sum_by-cons events_to_come first others,
        )

    go : (is_here : Bool) → cond is_here (Some first) (request_of number others) ≡ Some kept
        → (request_of number others ≡ Some kept
        → requests_to_come (answered number answer others) + 1 ≡ requests_to_come others)
        → requests_to_come (cond is_here (with_answer first answer ∷ others)
        (first ∷ answered number answer others)) + 1
        ≡ requests_to_come (first ∷ others)
    go true found rest = here found
    go false found rest =
        omega (
          arith,
          rest found,
          sum_by-cons events_to_come first (answered number answer others),
          sum_by-cons events_to_come first others,
        )

-- ---- handing out: one less

handed_one_less : (number : ℕ) (kept : Kept) (requests : List Kept)
    → request_of number requests ≡ Some kept → is_some kept.answer ≡ true
    → requests_to_come (without number requests) + 1 ≡ requests_to_come requests
handed_one_less number kept [] is has = absurd (cc is)
handed_one_less number kept (first ∷ others) is has = go (first.number == number) is
    (λ e. handed_one_less number kept others e has)
  where
    go : (is_here : Bool) → cond is_here (Some first) (request_of number others) ≡ Some kept
        → (request_of number others ≡ Some kept
        → requests_to_come (without number others) + 1 ≡ requests_to_come others)
        → requests_to_come (cond is_here others (first ∷ without number others)) + 1
        ≡ requests_to_come (first ∷ others)
    go true found rest =
        let one : first ≡ kept = cc found in
        let had : is_some first.answer ≡ true = rw one has in
        let last : events_to_come first ≡ 1 = ap (λ (b : Bool). cond b 1 2) had in
        omega (arith, last, sum_by-cons events_to_come first others)
    go false found rest =
        omega (
          arith,
          rest found,
          sum_by-cons events_to_come first (without number others),
          sum_by-cons events_to_come first others,
        )

pub one_less_handed : (number : ℕ) (kept : Kept) (requests : List Kept)
    → request_of number requests ≡ Some kept → is_some kept.answer ≡ true
    → requests_to_come (without kept.number requests) + 1 ≡ requests_to_come requests
one_less_handed number kept requests is has =
    let same : number ≡ kept.number = sym (found_number number requests kept is) in
    subst (λ (n : ℕ). requests_to_come (without n requests) + 1 ≡ requests_to_come requests) same
    (handed_one_less number kept requests is has)

-- ---- stopping: one less

no_more_stopped : (requests : List Kept)
    → requests_to_come (all_stopped requests) ≤ requests_to_come requests
no_more_stopped [] = omega arith
no_more_stopped (kept ∷ others) = go (is_some kept.answer)
    (sum_by-cons events_to_come (stopped_request kept) (all_stopped others))
    (sum_by-cons events_to_come kept others) (no_more_stopped others)
  where
    go : (has : Bool)
        → requests_to_come (all_stopped (kept ∷ others)) ≡ 1 + requests_to_come (all_stopped others)
        → requests_to_come (kept ∷ others) ≡ cond has 1 2 + requests_to_come others
        → requests_to_come (all_stopped others) ≤ requests_to_come others
        → requests_to_come (all_stopped (kept ∷ others)) ≤ requests_to_come (kept ∷ others)
    go true new old rest = omega (arith, new, old, rest)
    go false new old rest = omega (arith, new, old, rest)

pub one_less_stopped : (state : MachineState) → state.is_stopped ≡ false
    → still_to_come (record state { requests = all_stopped state.requests; is_stopped = true }) + 1
    ≤ still_to_come state
one_less_stopped state going =
    let one : finish_to_come state.is_stopped ≡ 1 = ap finish_to_come going in
    omega (arith, one, no_more_stopped state.requests)
