-- The effect of a call on the store, from the machine's outlook and its step.
use Rattle.std.proofs.Common.{◌≡◌, ◌<◌, ◌≤◌, nat_le, ◌||◌, ◌&&◌, Bool, true, false, cond, [], ◌∷◌, Result, Ok, Err, refl, sym, ap, ◌∙◌, subst, length, arith}
use Rattle.std.proofs.lemmas.Bool.Decides.{nat_tests}
use Rattle.ocpp_scalars.specs.declared.refusal.Refusal.{Refusal}
use Rattle.ocpp_scalars.specs.declared.refusal.Refusal.TheVariants.{OutOfMemory}
use Rattle.site_core.specs.declared.step.Step.{Step}
use Rattle.site_core.specs.declared.step.Step.TheVariants.{Compile}
use Rattle.site_core.specs.declared.reply.Reply.{Reply}
use Rattle.site_core.specs.Audits.{BringsRight}
use Rattle.site_core.specs.State.{MachineState, IsMachine}
use Rattle.site_core.specs.Step.{Made, Steps, IsRefusalOf, stepped, no_answer, is_event, outlook, outlook_of, counted, wants_memory}
use Rattle.site_core.specs.StoredHistory.{event_of, MayBeGiven}
use Rattle.site_core.specs.Theory.Steps.{CompileOrOther, is_compile, is_other, compile_or_other}
use Rattle.version_store.specs.Limits.{fold_from}
use Rattle.version_store.specs.Passes.{totals_after, no_totals}
use Rattle.version_store.specs.Store.{StoreState, IsStore, with_event, folded, folded_for, may_fold, folds}
use Rattle.version_store.specs.Calls.{Adds, RepliesAlone, IsRefusalTo, event_alone}
use Rattle.version_store.specs.ByCases.Laws.{Laws}
use Rattle.version_store.proofs.HistoryLemmas.{made_with, store_goes_on}

-- ---- the outlook

pub refusal_shown : (store : StoreState) (step : Step) (result : Result Made Refusal)
    (refusal : Refusal)
    → outlook_of store.present result ≡ Err refusal → IsRefusalTo store step result refusal
refusal_shown store step (Ok made) refusal is = absurd (cc is)
refusal_shown store step (Err cause) refusal is = cc is

-- a refusal of the machine is one of the store
pub refusal_of_store : (store : StoreState) (step : Step) (result : Result Made Refusal)
    (refusal : Refusal) → IsRefusalOf result refusal → IsRefusalTo store step result refusal
refusal_of_store store step (Ok made) refusal cause = (
  ap (λ (b : Bool). b || (is_event store.present made.reply && folds store step)) cause.0,
  cause.1,
)
refusal_of_store store step (Err first) refusal cause = cause

-- if an event folds the history, memory may run out
pub refused_fold : (store : StoreState) (step : Step) (result : Result Made Refusal)
    (refusal : Refusal) → outlook_of store.present result ≡ Ok true → may_fold step ≡ true
    → fold_from ≤ length store.events → refusal ≡ OutOfMemory
    → IsRefusalTo store step result refusal
refused_fold store step (Err cause) refusal is can many memory = absurd (cc is)
refused_fold store step (Ok made) refusal is can many memory =
    let event : is_event store.present made.reply ≡ true = cc is in
    let full : nat_le fold_from (length store.events) ≡ true = grind (arith, nat_tests) in (
      by (wants_memory made.reply) (is_event store.present made.reply) (may_fold step)
          (nat_le fold_from (length store.events)) event can full,
      memory,
    )
  where
    by : (wants event can full : Bool) → event ≡ true → can ≡ true → full ≡ true
        → (wants || (event && (can && full))) ≡ true
    by true event can full e c f = refl
    by false true true true e c f = refl
    by false false can full e c f = absurd (cc e)
    by false true false full e c f = absurd (cc c)
    by false true true false e c f = absurd (cc f)

-- a step that would be an event is refused only because memory ran out
pub refused_event : (old : MachineState) (result : Result Made Refusal) (refusal : Refusal)
    → outlook_of old result ≡ Ok true → IsRefusalOf result refusal → refusal ≡ OutOfMemory
refused_event old (Ok made) refusal is cause = cause.1
refused_event old (Err first) refusal is cause = absurd (cc is)

-- a step that would be an answer alone is never refused
pub never_refused : Laws → (old : MachineState) (result : Result Made Refusal) (refusal : Refusal)
    → outlook_of old result ≡ Ok false → IsRefusalOf result refusal → ⊥
never_refused laws old (Ok made) refusal is cause =
    let event : is_event old made.reply ≡ true = laws.memory old made.reply cause.0 in
    absurd (cc (is, event))
never_refused laws old (Err first) refusal is cause = absurd (cc is)

-- the outlook of the old store, if the present one is the same
pub outlook_of_same : (store was : StoreState) (step : Step) (is_one : Bool) → was ≡ store
    → outlook store.present step ≡ Ok is_one → outlook was.present step ≡ Ok is_one
outlook_of_same store was step is_one same outlook_is =
    subst (λ (s : StoreState). outlook s.present step ≡ Ok is_one) (sym same) outlook_is

-- ---- steps that bring no answer

-- the result of such a step
pub made_of_step : (old : MachineState) (step : Step) (reply : Reply) (after : MachineState)
    → may_fold step ≡ true → Steps old step reply after
    → stepped no_answer old step ≡ Ok (made_with reply after)
made_of_step old step reply after can steps = by step (compile_or_other step) can steps
  where
    by : (step : Step) → CompileOrOther step → may_fold step ≡ true → Steps old step reply after
        → stepped no_answer old step ≡ Ok (made_with reply after)
    by step (is_other _ needs_none as_defined as_made) can steps = as_defined old reply after steps
    by step (is_compile number) can steps = absurd (cc can)

-- such a step isn't a Compile
pub not_compiled : (old : MachineState) (step : Step) → may_fold step ≡ true
    → MayBeGiven old (event_alone step)
not_compiled old step can number kept same found =
    let is : may_fold (Compile number) ≡ true =
    subst (λ (s : Step). may_fold s ≡ true) same can in
    absurd (cc is)

event_of_result : (old : MachineState) (result : Result Made Refusal) (is_one : Bool) (reply : Reply)
    (after : MachineState) → outlook_of old result ≡ Ok is_one
    → result ≡ Ok (made_with reply after) → is_event old reply ≡ is_one
event_of_result old (Ok made) is_one reply after is same =
    let one : made ≡ made_with reply after = cc same in
    let event : is_event old made.reply ≡ is_one = cc is in
    ap (λ (m : Made). is_event old m.reply) (sym one) ∙ event
event_of_result old (Err cause) is_one reply after is same = absurd (cc is)

pub event_of_step : (old : MachineState) (step : Step) (is_one : Bool) (reply : Reply)
    (after : MachineState) → outlook old step ≡ Ok is_one
    → stepped no_answer old step ≡ Ok (made_with reply after) → is_event old reply ≡ is_one
event_of_step old step is_one reply after is same =
    event_of_result old (stepped no_answer old step) is_one reply after is same

-- ---- answers without an event

-- such an answer counts nothing
pub nothing_counted : Laws → (old : MachineState) (step : Step) (reply : Reply)
    → Steps old step reply old → no_totals ≡ totals_after no_totals reply
nothing_counted laws old step reply steps =
    let numbers = laws.numbers old (event_of step reply ∷ []) old (old, steps, refl) in
    let changes : (counted reply).changes ≡ 0 = omega (arith, numbers.versions) in
    let answers : (counted reply).answers ≡ 0 = omega (arith, numbers.drawn, numbers.kept) in
    cc (changes, answers)

-- such an answer leaves the state
pub left_alone : Laws → (old : MachineState) (step : Step) (reply : Reply) (after : MachineState)
    → may_fold step ≡ true → outlook old step ≡ Ok false → Steps old step reply after → after ≡ old
left_alone laws old step reply after can is steps =
    let made = made_of_step old step reply after can steps in
    laws.changes old after step reply steps (event_of_step old step false reply after is made)

pub replies_alone : Laws → (old : StoreState) (step : Step) (reply : Reply)
    → may_fold step ≡ true → outlook old.present step ≡ Ok false
    → Steps old.present step reply old.present → RepliesAlone old step reply old
replies_alone laws old step reply can is steps =
    let made = made_of_step old.present step reply old.present can steps in
    record {
      made = made;
      no_event = event_of_step old.present step false reply old.present is made;
      kept = refl;
    }

-- ---- events

pub not_folded : (old : StoreState) (step : Step) → length old.events < fold_from
    → folded_for old step ≡ old
not_folded old step few =
    let no : nat_le fold_from (length old.events) ≡ false = grind (arith, nat_tests) in
    go (may_fold step) (nat_le fold_from (length old.events)) no
  where
    go : (can many : Bool) → many ≡ false → cond (can && many) (folded old) old ≡ old
    go true false is = refl
    go false false is = refl
    go can true is = absurd (cc is)

pub is_folded : (old : StoreState) (step : Step) → may_fold step ≡ true
    → fold_from ≤ length old.events → folded_for old step ≡ folded old
is_folded old step can many =
    let yes : nat_le fold_from (length old.events) ≡ true = grind (arith, nat_tests) in
    go (may_fold step) (nat_le fold_from (length old.events)) can yes
  where
    go : (can many : Bool) → can ≡ true → many ≡ true
        → cond (can && many) (folded old) old ≡ folded old
    go true true can many = refl
    go false many can is = absurd (cc can)
    go true false can is = absurd (cc is)

-- the event is added to a store that is the old one, or its fold
pub adds_alone : (old from : StoreState) (step : Step) (reply : Reply) (after : MachineState)
    → may_fold step ≡ true → outlook old.present step ≡ Ok true
    → Steps old.present step reply after → folded_for old step ≡ from
    → (new : StoreState) → new ≡ with_event from (event_alone step) (made_with reply after)
    → Adds old (event_alone step) reply new
adds_alone old from step reply after can is steps folded new same =
    let made = made_of_step old.present step reply after can steps in
    let present : new.present ≡ after = ap (λ (s : StoreState). s.present) same in
    record {
      made = made ∙ ap (λ (s : MachineState). Ok (made_with reply s)) (sym present);
      event = event_of_step old.present step true reply after is made;
      history =
          same
          ∙ ap (λ (s : StoreState). with_event s (event_alone step) (made_with reply after))
          (sym folded)
          ∙ ap (λ (s : MachineState). with_event (folded_for old step) (event_alone step)
          (made_with reply s)) (sym present);
    }

-- its event is the history's next
pub goes_on_alone : Laws → (old : StoreState) → IsStore old → (step : Step) (reply : Reply)
    (after : MachineState) → may_fold step ≡ true → Steps old.present step reply after
    → BringsRight step → IsMachine after
    → IsStore (with_event old (event_alone step) (made_with reply after))
goes_on_alone laws old is step reply after can steps brought machine =
    store_goes_on laws old is (event_alone step) reply after
    (made_of_step old.present step reply after can steps) (not_compiled old.present step can)
    brought machine
