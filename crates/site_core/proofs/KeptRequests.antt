-- The changes of the kept requests: none is lost, none is answered twice, and answers stay.
use Rattle.std.proofs.Common.{◌≡◌, ℕ, zero, ◌+◌, ◌<◌, ◌≤◌, ◌==◌, ◌&&◌, Bool, true, false, cond, List, [], ◌∷◌, ◌++◌, append_assoc, append-nil, add-zero, Option, Some, Err, is_some, unwrap_or, zero-le, refl, sym, ap, ◌∙◌, subst, inl, inr, arith}
use Rattle.std.specs.Prelude.{◌⊎◌}
use Rattle.std.specs.List.{AllByRecursion, Contains}
use Rattle.std.proofs.lemmas.Bool.Decides.{nat_tests}
use Rattle.std.proofs.lemmas.List.Elements.{Contains-append_right}
use Rattle.std.proofs.lemmas.List.Sums.{sum_by_push, sum_by-cons}
use Rattle.ocpp_scalars.specs.declared.refusal.Refusal.TheVariants.{Stopped}
use Rattle.site_core.specs.declared.step.Step.{Step}
use Rattle.site_core.specs.declared.step.Step.TheVariants as steps
use Rattle.site_core.specs.State.{MachineState, Kept, ScheduleAnswer}
use Rattle.site_core.specs.Requests.{request_of, with_answer, answered, without, stopped_request, all_stopped}
use Rattle.site_core.specs.Step.{Made, Steps}
use Rattle.site_core.specs.History.{Event, Legal, answered_event, is_take_of, takes_of, is_answer_of, answers_of, kept_of, IsAnswered}
use Rattle.site_core.specs.Headline.{RequestsBalance, AnsweredOnceStopped, StoppedRequestsStayAnswered}
use Rattle.site_core.proofs.StepLemmas.{handing, Does, does, leaves, takes_one, compiles_one, hands_one, finishes_all}
use Rattle.site_core.specs.Theory.Requests.{found_number}
use Rattle.site_core.proofs.TakenRequests.{Holds, holds_step, holds_at_base, none_right, event_of, all_answered, all_without}

-- ---- the number of kept requests with a given number

-- 1 if a test holds
abbrev one_if : Bool → ℕ
one_if test = cond test 1 0

abbrev is_numbered : ℕ → Kept → Bool
is_numbered number kept = kept.number == number

kept_cons : (number : ℕ) (kept : Kept) (requests : List Kept)
    → kept_of number (kept ∷ requests) ≡ one_if (kept.number == number) + kept_of number requests
kept_cons number kept requests = sum_by-cons (λ (k : Kept). one_if
    (is_numbered number k)) kept requests

kept_push : (number : ℕ) (requests : List Kept) (kept : Kept)
    → kept_of number (requests ++ kept ∷ []) ≡ kept_of number requests + one_if
    (kept.number == number)
kept_push number requests kept = sum_by_push (λ (k : Kept). one_if
    (is_numbered number k)) requests kept

kept_answered : (number compiled : ℕ) (answer : ScheduleAnswer) (requests : List Kept)
    → kept_of number (answered compiled answer requests) ≡ kept_of number requests
kept_answered number compiled answer [] = refl
kept_answered number compiled answer (first ∷ requests) = go (first.number == compiled)
    (kept_answered number compiled answer requests)
  where
    go : (here : Bool) → kept_of number
        (answered compiled answer requests) ≡ kept_of number requests
        → kept_of number (cond here (with_answer first answer ∷ requests)
        (first ∷ answered compiled answer requests)) ≡ kept_of number (first ∷ requests)
    go true rest = kept_cons number (with_answer first answer) requests
        ∙ sym (kept_cons number first requests)
    go false rest = kept_cons number first (answered compiled answer requests)
        ∙ (ap (λ (n : ℕ). one_if (first.number == number) + n) rest
        ∙ sym (kept_cons number first requests))

kept_stopped : (number : ℕ) (requests : List Kept)
    → kept_of number (all_stopped requests) ≡ kept_of number requests
kept_stopped number [] = refl
kept_stopped number (first ∷ requests) =
    kept_cons number (stopped_request first) (all_stopped requests)
    ∙ (ap (λ (n : ℕ). one_if (first.number == number) + n) (kept_stopped number requests)
    ∙ sym (kept_cons number first requests))

-- one request less has the number that was found
kept_without : (number found : ℕ) (kept : Kept) (requests : List Kept)
    → request_of found requests ≡ Some kept
    → kept_of number (without found requests) + one_if (found == number) ≡ kept_of number requests
kept_without number found kept [] is = cc
kept_without number found kept (first ∷ requests) is = go (first.number == found) refl is
    (λ e. kept_without number found kept requests e)
  where
    go : (here : Bool) → (first.number == found) ≡ here
        → cond here (Some first) (request_of found requests) ≡ Some kept
        → (request_of found requests ≡ Some kept
        → kept_of number (without found requests) + one_if
        (found == number) ≡ kept_of number requests)
        → kept_of number (cond here requests (first ∷ without found requests)) + one_if
        (found == number) ≡ kept_of number (first ∷ requests)
    go true same is rest =
        let numbered : first.number ≡ found = grind (arith, nat_tests) in
        let ones : one_if (first.number == number) ≡ one_if (found == number) =
        ap (λ (n : ℕ). one_if (n == number)) numbered in
        omega (arith, kept_cons number first requests, ones)
    go false same is rest = omega (
      arith,
      kept_cons number first requests,
      kept_cons number first
          (without found requests),
      rest is,
    )

and_true : (test : Bool) → (test && true) ≡ test
and_true true = refl
and_true false = refl

-- a step keeps one more request if it is a Take, and one less if it hands out an answer
balances : (number : ℕ) (old : MachineState) (step : Step) (made : Made) → Does old step made
    → kept_of number made.after.requests + one_if (is_answer_of number
    (event_of step made)) ≡ kept_of number old.requests + one_if (is_take_of number
    (event_of step made))
balances number old step made (leaves _ _ is) =
    rw (is.requests, is.no_take number, is.no_answer number) refl
balances number old step made (takes_one take place ask point asks going) = add-zero _
    ∙ kept_push number old.requests _
balances number old step made (compiles_one compiled kept answer found unanswered right) =
    ap (λ (n : ℕ). n + 0) (kept_answered number compiled answer old.requests)
balances number old step made (hands_one asked kept answer found has) =
    let same : kept.number ≡ asked = found_number asked old.requests kept found in
    let less : kept_of number (without asked old.requests) + one_if
    (asked == number) ≡ kept_of number old.requests =
    kept_without number asked kept old.requests found in
    let some : one_if ((asked == number) && true) ≡ one_if (asked == number) =
    ap one_if (and_true (asked == number)) in
    let fewer : kept_of number (without kept.number old.requests) ≡ kept_of number
    (without asked old.requests) = ap (λ (n : ℕ). kept_of number (without n old.requests)) same in
    omega (arith, less, some, fewer)
balances number old step made (finishes_all going) =
    ap (λ (n : ℕ). n + 0) (kept_stopped number old.requests)

-- a Take has a number that was not drawn before
takes_new : (number : ℕ) (old : MachineState) (step : Step) (made : Made) → Does old step made
    → is_take_of number (event_of step made) ≡ true → old.numbers.request < number
takes_new number old step made (leaves _ _ is) takes = let none = is.no_take number in cc
takes_new number old step made (takes_one take place ask point asks going) takes =
    grind (arith, nat_tests)
takes_new number old step made (compiles_one compiled kept answer found unanswered right) takes = cc
takes_new number old step made (hands_one asked kept answer found has) takes = cc
takes_new number old step made (finishes_all going) takes = cc

-- ---- over histories

pub record Counts (events : List Event) (state : MachineState) : Type 0 where
  pub once : (number : ℕ) → takes_of number events ≤ 1
  pub kept : (number : ℕ) → takes_of number events ≡ answers_of number events + kept_of number
      state.requests

counts_step : (opening : MachineState) (events : List Event) (old : MachineState) (event : Event)
    (new : MachineState) → Holds opening events old → Counts events old
    → Steps old event.step event.reply new → Counts (events ++ event ∷ []) new
counts_step opening events old event new holds counts made =
    record {
      once = λ number. once number (is_take_of number event) refl;
      kept = λ number. omega (
        arith,
        counts.kept number,
        balances number old event.step done is,
        takes_more number,
        answers_more number,
      );
    }
  where
    done : Made
    done = record { reply = event.reply; after = new }

    is : Does old event.step (record { reply = event.reply; after = new })
    is = does old event.step event.reply new made

    takes_more : (number : ℕ) → takes_of number
        (events ++ event ∷ []) ≡ takes_of number events + one_if (is_take_of number event)
    takes_more number = sum_by_push (λ (e : Event). one_if (is_take_of number e)) events event

    answers_more : (number : ℕ) → answers_of number
        (events ++ event ∷ []) ≡ answers_of number events + one_if (is_answer_of number event)
    answers_more number = sum_by_push (λ (e : Event). one_if (is_answer_of number e)) events event

    once : (number : ℕ) (takes : Bool) → is_take_of number event ≡ takes
        → takes_of number (events ++ event ∷ []) ≤ 1
    once number true takes =
        let drawn = takes_new number old event.step (record {
          reply = event.reply;
          after =
              new;
        }) is takes in
        let none = holds.later number drawn in
        let one : one_if (is_take_of number event) ≡ 1 = ap one_if takes in
        omega (arith, takes_more number, none, one)
    once number false takes =
        let none : one_if (is_take_of number event) ≡ 0 = ap one_if takes in
        omega (arith, takes_more number, none, counts.once number)

counts_after : (opening : MachineState) (events : List Event) (old : MachineState)
    (later : List Event) (new : MachineState) → Holds opening events old → Counts events old
    → Legal old later new → Counts (events ++ later) new
counts_after opening events old [] new holds counts legal =
    subst (λ (es : List Event). Counts es new) (sym (append-nil events)) (subst (Counts events)
    (sym legal) counts)
counts_after opening events old (event ∷ later) new holds counts legal =
    subst (λ (es : List Event). Counts es new) (append_assoc events (event ∷ []) later)
    (counts_after opening (events ++ event ∷ []) legal.0 later new
    (holds_step opening events old event legal.0 holds legal.1)
    (counts_step opening events old event legal.0 holds counts legal.1) legal.2)

pub counts : (opening : MachineState) (events : List Event) (new : MachineState)
    → opening.requests ≡ [] → Legal opening events new → Counts events new
counts opening events new none legal =
    counts_after opening [] opening events new (holds_at_base opening (none_right opening none))
    (record {
      once = λ number. zero-le;
      kept =
          λ number. ap (λ (requests : List Kept). 0 + kept_of number requests) (sym none);
    }) legal

-- from any state, each request that was kept or taken is answered or still kept
balances_along : (old : MachineState) (events : List Event) (new : MachineState)
    → Legal old events new → (number : ℕ)
    → takes_of number events + kept_of number old.requests
    ≡ answers_of number events + kept_of number new.requests
balances_along old [] new legal number = ap (λ (s : MachineState). 0 + kept_of number s.requests)
    (sym legal)
balances_along old (event ∷ events) new legal number =
    let made : Made = record { reply = event.reply; after = legal.0 } in
    let rest = balances_along legal.0 events new legal.2 number in
    let here = balances number old event.step made
    (does old event.step event.reply legal.0 legal.1) in
    omega (
      arith,
      here,
      rest,
      sum_by-cons (λ (e : Event). one_if (is_take_of number e)) event events,
      sum_by-cons (λ (e : Event). one_if (is_answer_of number e)) event events,
    )

pub requests_balance : RequestsBalance
requests_balance old events new legal number = balances_along old events new legal number

-- ---- answers stay

unwrapped : {A : Type 0} {a b : A} → Some a ≡ Some b → a ≡ b
unwrapped is = cc

-- the request of a number, after one more request was added
found_push : (number : ℕ) (requests : List Kept) (kept other : Kept)
    → request_of number requests ≡ Some kept → request_of number
    (requests ++ other ∷ []) ≡ Some kept
found_push number [] kept other is = cc
found_push number (first ∷ requests) kept other is = go (first.number == number) is
    (λ e. found_push number requests kept other e)
  where
    go : (here : Bool) → cond here (Some first) (request_of number requests) ≡ Some kept
        → (request_of number requests ≡ Some kept
        → request_of number (requests ++ other ∷ []) ≡ Some kept)
        → cond here (Some first) (request_of number (requests ++ other ∷ [])) ≡ Some kept
    go true is rest = is
    go false is rest = rest is

-- the request of another number than the answered or handed out one
found_answered : (number compiled : ℕ) (answer : ScheduleAnswer) (requests : List Kept)
    → (compiled == number) ≡ false → request_of number
    (answered compiled answer requests) ≡ request_of number requests
found_answered number compiled answer [] other = refl
found_answered number compiled answer (first ∷ requests) other =
    go (first.number == compiled) refl (found_answered number compiled answer requests other)
  where
    go : (here : Bool) → (first.number == compiled) ≡ here
        → request_of number (answered compiled answer requests) ≡ request_of number requests
        → request_of number (cond here (with_answer first answer ∷ requests)
        (first ∷ answered compiled answer requests)) ≡ request_of number (first ∷ requests)
    go true same rest = let differs : (first.number == number) ≡ false =
        grind (arith, nat_tests) in rw differs refl
    go false same rest = ap (cond (first.number == number) (Some first)) rest

found_without : (number handed : ℕ) (requests : List Kept) → (handed == number) ≡ false
    → request_of number (without handed requests) ≡ request_of number requests
found_without number handed [] other = refl
found_without number handed (first ∷ requests) other = go (first.number == handed) refl
    (found_without number handed requests other)
  where
    go : (here : Bool) → (first.number == handed) ≡ here
        → request_of number (without handed requests) ≡ request_of number requests
        → request_of number (cond here requests
        (first ∷ without handed requests)) ≡ request_of number (first ∷ requests)
    go true same rest = let differs : (first.number == number) ≡ false =
        grind (arith, nat_tests) in rw differs refl
    go false same rest = ap (cond (first.number == number) (Some first)) rest

found_stopped : (number : ℕ) (requests : List Kept) (kept : Kept)
    → request_of number requests ≡ Some kept → request_of number (all_stopped requests) ≡ Some
    (stopped_request kept)
found_stopped number [] kept is = cc
found_stopped number (first ∷ requests) kept is = go (first.number == number) is
    (λ e. found_stopped number requests kept e)
  where
    go : (here : Bool) → cond here (Some first) (request_of number requests) ≡ Some kept
        → (request_of number requests ≡ Some kept
        → request_of number (all_stopped requests) ≡ Some (stopped_request kept))
        → cond here (Some (stopped_request first)) (request_of number
        (all_stopped requests)) ≡ Some (stopped_request kept)
    go true is rest = let same : first ≡ kept = cc in ap (λ (k : Kept). Some
        (stopped_request k)) same
    go false is rest = rest is

-- stopping leaves an answered request as it is
stopped_same : (kept : Kept) (answer : ScheduleAnswer) → kept.answer ≡ Some answer
    → stopped_request kept ≡ kept
stopped_same kept answer has =
    ap (λ (o : Option ScheduleAnswer). with_answer kept (unwrap_or o (Err Stopped))) has
    ∙ ap (λ (o : Option ScheduleAnswer). record kept { answer = o }) (sym has)

-- it is still kept, or this event hands it out
abbrev StaysOr : ℕ → Kept → ScheduleAnswer → Step → Made → Type 0
StaysOr number kept answer step made = (request_of number made.after.requests ≡ Some kept) ⊎
    (event_of step made ≡ answered_event number kept.book kept.ask answer)

stays_step : (old : MachineState) (step : Step) (made : Made) (number : ℕ) (kept : Kept)
    (answer : ScheduleAnswer) → Does old step made → request_of number old.requests ≡ Some kept
    → kept.answer ≡ Some answer → StaysOr number kept answer step made
stays_step old step made number kept answer (leaves _ _ is) found has =
    inl (ap (request_of number) is.requests ∙ found)
stays_step old step made number kept answer (takes_one take place ask point asks going) found has =
    inl (found_push number old.requests kept _ found)
stays_step old step made number kept answer
    (compiles_one compiled other new_answer here unanswered right) found has =
    inl (go (compiled == number) refl)
  where
    go : (same : Bool) → (compiled == number) ≡ same
        → request_of number (answered compiled new_answer old.requests) ≡ Some kept
    go true same =
        let numbered : compiled ≡ number = grind (arith, nat_tests) in
        let one : other ≡ kept = unwrapped (sym here
        ∙ (ap (λ (n : ℕ). request_of n old.requests) numbered ∙ found)) in
        let twice : true ≡ false = sym (ap (λ (o : Option ScheduleAnswer). is_some o) has)
        ∙ (ap (λ (k : Kept). is_some k.answer) (sym one) ∙ unanswered) in
        cc
    go false differs = found_answered number compiled new_answer old.requests differs ∙ found
stays_step old step made number kept answer (hands_one asked other handed here gives) found has =
    go (asked == number) refl
  where
    go : (same : Bool) → (asked == number) ≡ same
        → StaysOr number kept answer (steps.Answer asked) (handing old other handed)
    go true same =
        let numbered : asked ≡ number = grind (arith, nat_tests) in
        let one : other ≡ kept = unwrapped (sym here
        ∙ (ap (λ (n : ℕ). request_of n old.requests) numbered ∙ found)) in
        let answers : handed ≡ answer = unwrapped (sym gives ∙ (ap (λ (k : Kept). k.answer) one
        ∙ has)) in
        inr (λ i. answered_event (numbered i) ((one i).book) ((one i).ask) (answers i))
    go false differs =
        let own : other.number ≡ asked = found_number asked old.requests other here in
        inl (ap (λ (n : ℕ). request_of number (without n old.requests)) own
        ∙ (found_without number asked old.requests differs ∙ found))
stays_step old step made number kept answer (finishes_all going) found has =
    inl (found_stopped number old.requests kept found ∙ ap Some (stopped_same kept answer has))

pub stays : (old new : MachineState) (events : List Event) (number : ℕ) (kept : Kept)
    (answer : ScheduleAnswer) → Legal old events new
    → request_of number old.requests ≡ Some kept → kept.answer ≡ Some answer
    → (request_of number new.requests ≡ Some kept) ⊎ Contains events
    (answered_event number kept.book kept.ask answer)
stays old new [] number kept answer legal found has =
    inl (ap (λ (s : MachineState). request_of number s.requests) legal ∙ found)
stays old new (event ∷ events) number kept answer legal found has =
    go (stays_step old event.step (record {
      reply = event.reply;
      after =
          legal.0;
    }) number kept answer (does old event.step event.reply legal.0 legal.1) found has)
    (λ e. stays legal.0 new events number kept answer legal.2 e has)
  where
    later : (request_of number new.requests ≡ Some kept) ⊎ Contains events
        (answered_event number kept.book kept.ask answer)
        → (request_of number new.requests ≡ Some kept) ⊎ Contains (event ∷ events)
        (answered_event number kept.book kept.ask answer)
    later (inl is) = inl is
    later (inr in_events) = inr (Contains-append_right (event ∷ []) events _ in_events)

    go : StaysOr number kept answer event.step (record { reply = event.reply; after = legal.0 })
        → (request_of number legal.0.requests ≡ Some kept
        → (request_of number new.requests ≡ Some kept) ⊎ Contains events
        (answered_event number kept.book kept.ask answer))
        → (request_of number new.requests ≡ Some kept) ⊎ Contains (event ∷ events)
        (answered_event number kept.book kept.ask answer)
    go (inl is) rest = later (rest is)
    go (inr is) rest = inr (zero, omega arith, is)

-- ---- once the central system is stopped

stopped_answered : (requests : List Kept) → AllByRecursion IsAnswered (all_stopped requests)
stopped_answered [] = tt
stopped_answered (first ∷ requests) = (refl, stopped_answered requests)

all_answered_step : (old : MachineState) (step : Step) (made : Made) → Does old step made
    → AnsweredOnceStopped old → AnsweredOnceStopped made.after
all_answered_step old step made (leaves _ _ is) all stopped = subst (AllByRecursion IsAnswered)
    (sym is.requests) (all (sym is.stopped ∙ stopped))
all_answered_step old step made (takes_one take place ask point asks going) all stopped = cc
all_answered_step old step made
    (compiles_one compiled kept answer found unanswered right) all stopped =
    all_answered IsAnswered compiled answer old.requests (all stopped) (λ kept found is. refl)
all_answered_step old step made (hands_one asked kept answer found has) all stopped =
    all_without IsAnswered kept.number old.requests (all stopped)
all_answered_step old step made (finishes_all going) all stopped = stopped_answered old.requests

pub all_answered_after : StoppedRequestsStayAnswered
all_answered_after old [] new all legal = subst AnsweredOnceStopped (sym legal) all
all_answered_after old (event ∷ events) new all legal =
    all_answered_after legal.0 events new (all_answered_step old event.step (record {
      reply =
          event.reply;
      after = legal.0;
    })
    (does old event.step event.reply legal.0 legal.1) all) legal.2
