-- Each message that leaves is an answer, or a call that was sent.
use Rattle.std.proofs.Common.{◌≡◌, ℕ, Bool, List, Some, Option, Result, Ok, IfOk, IfSome, sym, subst}
use Rattle.ocpp_scalars.specs.declared.refusal.Refusal.{Refusal}
use Rattle.messages.specs.declared.call.Call.{Call}
use Rattle.messages.specs.CallText.{call_text}
use Rattle.site_core.specs.declared.step.Step.TheVariants as steps
use Rattle.site_core.specs.declared.reply.Reply.TheVariants as replies
use Rattle.site_core.specs.State.{MachineState}
use Rattle.version_store.specs.Calls.{Makes, sending}
use Rattle.version_store.specs.Passes.{PassState}
use Rattle.version_store.specs.Recording.{IsAt}
use Rattle.version_store.specs.Store.{StoreState, IsStore}
use Rattle.texts.specs.SentText.{Sent}
use Rattle.session.specs.Leaving.{IsAnswerOrCall, IsSentCall, of_answer, of_call}
use Rattle.session.specs.Served.{IsServed, seen_at}
use Rattle.session.specs.Session.{SessionState}

-- a call that the book sent
pub call_sent : (is_recorded : Bool) (point there : List ℕ) (link : ℕ)
    (result : Result (Option Call) Refusal) (call : Call) (seen : List MachineState)
    (locked old new : StoreState) → there ≡ point → IsStore locked → old ≡ locked
    → IfOk result (λ (c : Option Call). Makes old (steps.Send there link) (sending c) new)
    → result ≡ Ok (Some call) → IsAt is_recorded seen new.present
    → IsSentCall is_recorded point link call seen
call_sent is_recorded point there link result call seen locked old new same store locked_is makes
    result_is seen_is = record {
      old = old;
      new = new;
      store = subst IsStore (sym locked_is) store;
      makes = subst (λ (p : List ℕ). Makes old (steps.Send p link) (replies.Sent call) new) same
          (subst (λ (r : Result (Option Call) Refusal). IfOk r (λ (c : Option Call).
          Makes old (steps.Send there link) (sending c) new)) result_is makes);
      is_seen = seen_is;
    }

-- the text of a call that was sent
pub call_leaves : (is_recorded : Bool) (point : List ℕ) (link : ℕ) (call : Call)
    (seen : List MachineState) (text : List ℕ) (found : Option (List MachineState))
    → IsSentCall is_recorded point link call seen → text ≡ call_text call → found ≡ Some seen
    → IsAnswerOrCall is_recorded text found
call_leaves is_recorded point link call seen text found sent text_is found_is =
    subst (λ (t : List ℕ). IsAnswerOrCall is_recorded t found) (sym text_is)
    (subst (λ (f : Option (List MachineState)). IsAnswerOrCall is_recorded (call_text call) f)
    (sym found_is) (of_call is_recorded point link call seen sent))

-- the answer of a message that was served
pub answer_leaves : (is_recorded : Bool) (session : SessionState) (was : PassState) (text : Sent)
    (served : Option (List ℕ)) (answer : List ℕ) (seen : Option (List MachineState))
    → IsServed session was (seen_at is_recorded seen) text served → served ≡ Some answer
    → IsAnswerOrCall is_recorded answer seen
answer_leaves is_recorded session was text served answer seen it is =
    of_answer is_recorded session was text answer seen
    (subst (λ (a : Option (List ℕ)). IsServed session was (seen_at is_recorded seen) text a) is it)

-- a property of an optional value holds of the value
pub of_some : {X : Type 0} (P : X → Type 0) (found : Option X) (x : X) → IfSome found P
    → found ≡ Some x → P x
of_some {X} P found x holds is = subst (λ (f : Option X). IfSome f P) is holds
