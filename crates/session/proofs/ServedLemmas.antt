-- The answer to a request, from the comparison with its job, and to a message whose step can't be
-- noted.
use Rattle.std.proofs.Common.{◌≡◌, ℕ, List, Option, None, Result, Ok, Err, IfOk, IfSome, inl, inr, subst, sym, ap, ◌∙◌}
use Rattle.meaning.specs.declared.ask.Ask.{Ask}
use Rattle.site_core.specs.Right.{IsRight}
use Rattle.site_core.specs.State.{MachineState}
use Rattle.version_store.specs.Answers.{RequestedJob, HandedAnswer}
use Rattle.version_store.specs.Passes.{PassState}
use Rattle.texts.specs.SentText.{Sent, sent}
use Rattle.messages.specs.declared.side.Side.{Side}
use Rattle.site_core.specs.declared.step.Step.{Step}
use Rattle.session.specs.declared.outcome.Outcome.{Outcome}
use Rattle.session.specs.declared.serving.ended.Ended.{Ended}
use Rattle.session.specs.declared.todo.Owed.{Owed}
use Rattle.session.specs.declared.todo.Owed.TheVariants as owed
use Rattle.session.specs.Noting.{AsksFor}
use Rattle.session.specs.Served.{HasOutcome, IsAnswerTo, IsServed, IsUnmade}
use Rattle.session.specs.Session.{SessionState, side_of, sent_by}
use Rattle.session.specs.Todo.{TodoState, IsTodo, IsUnnoted, todo_of, answer_text}
use Rattle.session.proofs.AskedLemmas.{asks_for}

-- the answer that was compared with its request
pub answered : (job : RequestedJob) (handed : HandedAnswer) → handed.number ≡ job.number
    → handed.book ≡ job.book → handed.ask ≡ job.ask
    → IsRight handed.book handed.ask handed.answer → IsAnswerTo job handed
answered job handed number book ask right =
    record {
      number = number;
      book = book;
      ask = ask;
      right = subst (λ b. IsRight b job.ask handed.answer) book
          (subst (λ (a : Ask). IsRight handed.book a handed.answer) ask right);
    }

-- ---- a step that can't be noted

has_no_outcome : (was : PassState) (seen : MachineState → Type 0) (text : Sent) (owes : Owed) (todo : TodoState)
    → IsUnnoted owes todo → HasOutcome was seen text todo.step None
has_no_outcome was seen text owed.Nothing todo is = absurd is
has_no_outcome was seen text (owed.Response id response) todo is = absurd is
has_no_outcome was seen text (owed.Boot id moment) todo is =
    subst (λ (t : TodoState). HasOutcome was seen text t.step None) (sym is) tt
has_no_outcome was seen text (owed.Outcome id kind) todo is =
    subst (λ (t : TodoState). HasOutcome was seen text t.step None) (sym is) tt

is_unnoted : (session : SessionState) (moment : ℕ) (frame : List ℕ) (first todo : TodoState)
    → IsTodo session moment frame first → IsUnnoted first.owed todo
    → IsUnnoted (todo_of session moment frame).owed todo
is_unnoted session moment frame first todo (inl is) unnoted =
    subst (λ (t : TodoState). IsUnnoted t.owed todo) is unnoted
is_unnoted session moment frame first todo (inr short) unnoted =
    absurd (subst (λ (t : TodoState). IsUnnoted t.owed todo) short.todo_is unnoted)

-- the answer to a message whose step can't be noted
pub unmade_served : (session : SessionState) (was : PassState)
    (seen : MachineState → Type 0) (moment : ℕ) (frame : List ℕ)
    (first left : TodoState) (answer : Option (List ℕ))
    → IsTodo session moment frame first → left ≡ record first { step = None }
    → IsUnmade session left.owed answer
    → IsServed session was seen (sent_by session moment frame) answer
unmade_served session was seen moment frame first left answer asked left_is it =
    let unnoted = subst (λ (t : TodoState). IsUnnoted t.owed it.todo) left_is it.unnoted in
    record {
      todo = it.todo;
      outcome = None;
      asked = inr (is_unnoted session moment frame first it.todo asked unnoted);
      made = has_no_outcome was seen (sent_by session moment frame) left.owed it.todo it.unnoted;
      answer_is = it.answer_is;
    }

pub unmade_if : {X : Type 0} (answer_of : X → Option (List ℕ)) (seen_of : X → MachineState → Type 0)
    (session : SessionState) (was : PassState) (moment : ℕ) (frame : List ℕ)
    (first left : TodoState) (result : Result X Ended)
    → IsTodo session moment frame first → left ≡ record first { step = None }
    → IfOk result (λ (x : X). IsUnmade session left.owed (answer_of x))
    → IfOk result (λ (x : X). IsServed session was (seen_of x) (sent_by session moment frame)
    (answer_of x))
unmade_if answer_of seen_of session was moment frame first left (Ok x) asked left_is it =
    unmade_served session was (seen_of x) moment frame first left (answer_of x) asked left_is it
unmade_if answer_of seen_of session was moment frame first left (Err ended) asked left_is it = tt

-- ---- a step that was made, or none

pub same_sent : (session : SessionState) (moment : ℕ) (sender : Side) (point frame : List ℕ)
    (text : Sent) → text ≡ sent moment sender point frame → sender ≡ side_of session.peer
    → point ≡ session.point → text ≡ sent_by session moment frame
same_sent session moment sender point frame text text_is sender_is point_is =
    text_is ∙ (ap (λ (s : Side). sent moment s point frame) sender_is
    ∙ ap (λ p. sent moment (side_of session.peer) p frame) point_is)

-- the step of a message is one that the message asks for
pub asks_taken : (session : SessionState) (moment : ℕ) (sender : Side) (point frame : List ℕ)
    (text : Sent) (first : TodoState) (step : Option Step)
    → IsTodo session moment frame first → step ≡ first.step
    → text ≡ sent moment sender point frame → sender ≡ side_of session.peer
    → point ≡ session.point → IfSome step (AsksFor text)
asks_taken session moment sender point frame text first step asked step_is text_is sender_is
    point_is =
    subst (λ (t : Sent). IfSome step (AsksFor t))
    (sym (same_sent session moment sender point frame text text_is sender_is point_is))
    (subst (λ (s : Option Step). IfSome s (AsksFor (sent_by session moment frame))) (sym step_is)
    (asks_for session moment frame first asked))

-- the answer to a message whose step has its outcome
pub text_served : (session : SessionState) (was : PassState)
    (seen : MachineState → Type 0) (moment : ℕ) (sender : Side)
    (point frame : List ℕ) (text : Sent) (first left : TodoState) (step : Option Step)
    (outcome : Option Outcome) (answer : Option (List ℕ))
    → IsTodo session moment frame first → left ≡ record first { step = None }
    → step ≡ first.step → text ≡ sent moment sender point frame → sender ≡ side_of session.peer
    → point ≡ session.point → HasOutcome was seen text step outcome
    → answer ≡ answer_text session left outcome
    → IsServed session was seen (sent_by session moment frame) answer
text_served session was seen moment sender point frame text first left step outcome answer asked left_is
    step_is text_is sender_is point_is made answer_is =
    let same = same_sent session moment sender point frame text text_is sender_is point_is in
    record {
      todo = first;
      outcome = outcome;
      asked = inl asked;
      made = subst (λ (o : Option Step). HasOutcome was seen (sent_by session moment frame) o outcome) step_is
          (subst (λ (t : Sent). HasOutcome was seen t step outcome) same made);
      answer_is = subst (λ (t : TodoState). answer ≡ answer_text session t outcome) left_is answer_is;
    }
