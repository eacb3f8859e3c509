-- The output of a point's message, from the outputs of its parts.
use Rattle.std.proofs.Common.{◌≡◌, ℕ, List, ◌++◌, Option, sym, ap, ◌∙◌, append_assoc}
use Rattle.messages.specs.declared.call.Call.{Call}
use Rattle.replay.specs.declared.player.held.Held.{Held}
use Rattle.texts.specs.SentText.{Sent}
use Rattle.texts.specs.Asked.{asked_of}
use Rattle.replay.specs.Player.{PlayerState, with_machine}
use Rattle.replay.specs.MachineSteps.{Sending, attached_once, sent_first}
use Rattle.replay.specs.ByCases.Player.{Sends}
use Rattle.replay.specs.PrintedLine.{PrintedLine}
use Rattle.replay.specs.declared.script.played_line.LineOutcome.{LineOutcome}
use Rattle.replay.specs.Play.{Handled, call_lines, asked_handled, call_handled, with_call, point_handled, IsHandled}

-- five texts, one after another
pub five : (old a b c d e one two three four new : List ℕ) → one ≡ old ++ a → two ≡ one ++ b → three ≡ two ++ c → four ≡ three ++ d → new ≡ four ++ e
    → new ≡ old ++ (a ++ (b ++ (c ++ (d ++ e))))
five old a b c d e one two three four new first second third fourth last =
    last ∙ rw (fourth, third, second, first) (append_assoc (old ++ a ++ b ++ c) d e ∙ append_assoc (old ++ a ++ b) c (d ++ e)
    ∙ append_assoc (old ++ a) b (c ++ (d ++ e)) ∙ append_assoc old a (b ++ (c ++ (d ++ e))))

-- a link, the answer, and a call
pub point_made : (old linked answered new : PlayerState) (text : Sent)
    (first second third : List ℕ) (outcome whole : LineOutcome) (call : Option Call)
    → first ≡ text.point → second ≡ text.point → third ≡ text.point
    → linked ≡ with_machine old (attached_once old.machine first)
    → IsHandled (asked_handled linked text (asked_of text)) outcome answered
    → Sends answered (sent_first answered.machine second) call new
    → whole.printed.items ≡ outcome.printed.items ++ call_lines third call
    → whole.is_fault ≡ outcome.is_fault → whole.change ≡ outcome.change
    → IsHandled (point_handled old text) whole new
point_made old linked answered new text first second third outcome whole call one two three attach
    answer send push fault change =
    let start : linked ≡ with_machine old (attached_once old.machine text.point) =
    attach ∙ ap (λ p. with_machine old (attached_once old.machine p)) one in
    let handled : Handled = asked_handled linked text (asked_of text) in
    let sending : Sending = record { call = call; after = new.machine } in
    let step : sent_first handled.after.machine text.point ≡ sending =
    ap (λ (p : PlayerState). sent_first p.machine text.point) answer.led.after
    ∙ (ap (sent_first answered.machine) (sym two) ∙ send.0) in
    let same : point_handled old text ≡ call_handled handled text.point sending =
    ap (λ (p : PlayerState). with_call text.point (asked_handled p text (asked_of text))) (sym start)
    ∙ ap (call_handled handled text.point) step in
    let lines : handled.printed ++ call_lines text.point call ≡ whole.printed.items =
    ap (λ (l : List PrintedLine). l ++ call_lines text.point call) answer.printed
    ∙ (ap (λ p. outcome.printed.items ++ call_lines p call) (sym three) ∙ sym push) in
    let kept : with_machine handled.after new.machine ≡ new =
    ap (λ (p : PlayerState). with_machine p new.machine) answer.led.after
    ∙ ap (λ (h : List Held). record { machine = new.machine; held = h }) (sym send.1) in
    record {
      printed = ap (λ (h : Handled). h.printed) same ∙ lines;
      led = record {
        is_fault = answer.led.is_fault ∙ sym fault;
        change = ap (λ (h : Handled). h.change) same ∙ (answer.led.change ∙ sym change);
        after = ap (λ (h : Handled). h.after) same ∙ kept;
      };
    }
