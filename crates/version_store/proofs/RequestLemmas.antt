-- The steps that never fold: the events to come after them, and the answers that they hand out.
use Rattle.std.proofs.Common.{◌≡◌, ◌≢◌, ℕ, ◌+◌, ◌≤◌, Bool, true, false, cond, Option, Some, None, is_some, Result, Ok, Err, refl, sym, ap, subst, arith}
use Rattle.std.specs.Prelude.{IfSome}
use Rattle.ocpp_scalars.specs.declared.refusal.Refusal.{Refusal}
use Rattle.ocpp_scalars.specs.declared.refusal.Refusal.TheVariants.{AlreadyAnswered}
use Rattle.meaning.specs.declared.ask.Ask.{Ask}
use Rattle.point_book.specs.Book.{BookState}
use Rattle.sweep_compiler.specs.Compiled.{CompiledAnswer}
use Rattle.site_core.specs.declared.reply.Reply.{Reply}
use Rattle.site_core.specs.declared.reply.Reply.TheVariants.{Answered, Compiled, Finished, NotYet}
use Rattle.site_core.specs.State.{MachineState, Kept, ScheduleAnswer}
use Rattle.site_core.specs.Requests.{request_of, answered, without, all_stopped}
use Rattle.site_core.specs.Right.{IsCompiledFor, IsRight}
use Rattle.site_core.specs.Post.{Posts}
use Rattle.site_core.specs.StoredHistory.{MayBeGiven}
use Rattle.site_core.specs.Step.{Made, answers_kept, answers_with, answers, compiles_kept, compiles, finishes, unchanged}
use Rattle.site_core.specs.Headline.{IsKeptRight, KeepsRight}
use Rattle.site_core.specs.Theory.Requests.{found_holds}
use Rattle.version_store.specs.Calls.{compile_event}
use Rattle.version_store.specs.Store.{still_to_come}
use Rattle.version_store.proofs.HistoryLemmas.{made_with}
use Rattle.version_store.proofs.RoomLemmas.{one_less_handed, one_less_compiled, one_less_stopped}

-- ---- handing out

pub record HandedOut (old : MachineState) (book : BookState) (ask : Ask) (answer : ScheduleAnswer)
    (after : MachineState) : Type 0 where
  pub room : still_to_come after + 1 ≡ still_to_come old
  pub right : KeepsRight old → IsRight book ask answer

pub handed_out : (old : MachineState) (number : ℕ) (book : BookState) (ask : Ask)
    (answer : ScheduleAnswer) (after : MachineState)
    → answers old number ≡ Ok (made_with (Answered book ask answer) after)
    → HandedOut old book ask answer after
handed_out old number book ask answer after made = found (request_of number old.requests) refl made
  where
    with_answer : (kept : Kept) → request_of number old.requests ≡ Some kept
        → (given : Option ScheduleAnswer) → kept.answer ≡ given
        → answers_with old kept given ≡ made_with (Answered book ask answer) after
        → HandedOut old book ask answer after
    with_answer kept here None has is = absurd (cc (ap (λ (m : Made). m.reply) is))
    with_answer kept here (Some own) has is =
        let replies : Answered kept.book kept.ask own ≡ Answered book ask answer =
        ap (λ (m : Made). m.reply) is in
        let books : kept.book ≡ book = cc replies in
        let asks : kept.ask ≡ ask = cc replies in
        let answers : own ≡ answer = cc replies in
        let left : record old { requests = without kept.number old.requests } ≡ after =
        ap (λ (m : Made). m.after) is in
        let has_one : is_some kept.answer ≡ true = ap is_some has in
        let fewer = one_less_handed number kept old.requests here has_one in
        record {
          room = subst (λ (s : MachineState). still_to_come s + 1 ≡ still_to_come old) left
              (omega (arith, fewer));
          right = λ keeps.
              let kept_right = (found_holds (IsKeptRight old) number old.requests kept keeps here).right in
              let own_right : IsRight kept.book kept.ask own
              = subst (λ (a : Option ScheduleAnswer). IfSome a (IsRight kept.book kept.ask)) has
              kept_right in
              subst (λ (b : BookState). IsRight b ask answer) books
              (subst (λ (a : Ask). IsRight kept.book a answer) asks
              (subst (IsRight kept.book kept.ask) answers own_right));
        }

    found : (request : Option Kept) → request_of number old.requests ≡ request
        → answers_kept old request ≡ Ok (made_with (Answered book ask answer) after)
        → HandedOut old book ask answer after
    found None here is = absurd (cc is)
    found (Some kept) here is =
        let handed : answers_with old kept kept.answer ≡ made_with (Answered book ask answer) after
        = cc is in
        with_answer kept here kept.answer refl handed

-- what hands out no answer is a reply that there is none yet, and changes nothing
pub not_yet : (old : MachineState) (number : ℕ) (reply : Reply) (after : MachineState)
    → answers old number ≡ Ok (made_with reply after)
    → ((book : BookState) (ask : Ask) (answer : ScheduleAnswer)
    → reply ≢ Answered book ask answer)
    → (reply ≡ NotYet) × (after ≡ old)
not_yet old number reply after made none = found (request_of number old.requests) made
  where
    with_answer : (kept : Kept) (given : Option ScheduleAnswer)
        → answers_with old kept given ≡ made_with reply after
        → (reply ≡ NotYet) × (after ≡ old)
    with_answer kept None is =
        (sym (ap (λ (m : Made). m.reply) is), sym (ap (λ (m : Made). m.after) is))
    with_answer kept (Some own) is =
        absurd (none kept.book kept.ask own (sym (ap (λ (m : Made). m.reply) is)))

    found : (request : Option Kept) → answers_kept old request ≡ Ok (made_with reply after)
        → (reply ≡ NotYet) × (after ≡ old)
    found None is = absurd (cc is)
    found (Some kept) is =
        let handed : answers_with old kept kept.answer ≡ made_with reply after = cc is in
        with_answer kept kept.answer handed

-- ---- compiling

pub room_compiled : (old : MachineState) (number : ℕ) (answer : ScheduleAnswer)
    (after : MachineState) → compiles old number answer ≡ Ok (made_with Compiled after)
    → still_to_come after + 1 ≡ still_to_come old
room_compiled old number answer after made = found (request_of number old.requests) refl made
  where
    unanswered : (kept : Kept) → request_of number old.requests ≡ Some kept
        → (has : Bool) → is_some kept.answer ≡ has
        → cond has (Err AlreadyAnswered)
        (Ok (made_with Compiled (record old { requests = answered number answer old.requests })))
        ≡ Ok (made_with Compiled after)
        → still_to_come after + 1 ≡ still_to_come old
    unanswered kept here true has is = absurd (cc is)
    unanswered kept here false has is =
        let same : made_with Compiled (record old { requests = answered number answer old.requests })
        ≡ made_with Compiled after = cc is in
        let fewer = one_less_compiled number answer kept old.requests here has in
        subst (λ (m : Made). still_to_come m.after + 1 ≡ still_to_come old) same
        (omega (arith, fewer))

    found : (request : Option Kept) → request_of number old.requests ≡ request
        → compiles_kept old number answer request ≡ Ok (made_with Compiled after)
        → still_to_come after + 1 ≡ still_to_come old
    found None here is = absurd (cc is)
    found (Some kept) here is = unanswered kept here (is_some kept.answer) refl is

-- a posted answer may be given
pub posted_may_be_given : (old : MachineState) (number : ℕ) (brought : CompiledAnswer)
    (new : MachineState) → Posts old number brought new
    → MayBeGiven old (compile_event number brought.answer)
posted_may_be_given old number brought new posts other kept same found =
    let numbers : number ≡ other = cc same in
    let one : posts.kept ≡ kept = cc (posts.is_kept, numbers, found) in
    subst (λ (k : Kept). IsCompiledFor k.book k.ask brought.answer) one posts.right

-- ---- finishing

pub room_finished : (old : MachineState) (reply : Reply) (after : MachineState)
    → old.is_stopped ≡ false → ◌≡◌ {A = Result Made Refusal} (Ok (finishes old)) (Ok (made_with reply after))
    → still_to_come after + 1 ≤ still_to_come old
room_finished old reply after going made = go old.is_stopped going (cc made)
  where
    go : (stopped : Bool) → stopped ≡ false
        → cond stopped (unchanged old Finished) (made_with Finished
        (record old { requests = all_stopped old.requests; is_stopped = true }))
        ≡ made_with reply after
        → still_to_come after + 1 ≤ still_to_come old
    go true is same = absurd (cc is)
    go false is same =
        subst (λ (m : Made). still_to_come m.after + 1 ≤ still_to_come old) same
        (one_less_stopped old going)

-- the only reply to it is Finished
pub finished_made : (old : MachineState) (reply : Reply) (after : MachineState)
    → ◌≡◌ {A = Result Made Refusal} (Ok (finishes old)) (Ok (made_with reply after))
    → ◌≡◌ {A = Result Made Refusal} (Ok (finishes old)) (Ok (made_with Finished after))
finished_made old reply after made = go old.is_stopped made
  where
    go : (stopped : Bool)
        → ◌≡◌ {A = Result Made Refusal} (Ok (cond stopped (unchanged old Finished)
        (made_with Finished
        (record old { requests = all_stopped old.requests; is_stopped = true }))))
        (Ok (made_with reply after))
        → ◌≡◌ {A = Result Made Refusal} (Ok (cond stopped (unchanged old Finished)
        (made_with Finished
        (record old { requests = all_stopped old.requests; is_stopped = true }))))
        (Ok (made_with Finished after))
    go true is =
        let same : unchanged old Finished ≡ made_with reply after = cc is in
        ap (λ (s : MachineState). Ok (made_with Finished s)) (ap (λ (m : Made). m.after) same)
    go false is =
        let same : made_with Finished
        (record old { requests = all_stopped old.requests; is_stopped = true })
        ≡ made_with reply after = cc is in
        ap (λ (s : MachineState). Ok (made_with Finished s)) (ap (λ (m : Made). m.after) same)
