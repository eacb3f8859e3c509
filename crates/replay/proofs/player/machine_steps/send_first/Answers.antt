-- A Send is made over the point's present link, and none is missed if there is no call to send.
use Rattle.std.proofs.Common.{◌≡◌, ◌∙◌, ap, sym, List, ℕ, Option, Some}
use Rattle.messages.specs.declared.call.Call.{Call}
use Rattle.site_core.specs.declared.step.Step.TheVariants as steps
use Rattle.site_core.specs.State.{link_of}
use Rattle.replay.specs.MachineSteps.{stepped_exactly, sending_of, sent_over}
use Rattle.replay.proofs.MachineLemmas.{skipped}
use Rattle.replay.proofs.player.machine_steps.send_first.Goals as goal

pub returns-in_ok-outcome-in-Some : goal.returns-in_ok-outcome-in-Some
returns-in_ok-outcome-in-Some c =
    let old = c.args.machine.now in
    let point = c.args.point.now in
    let link = c.in-Some.link in
    let present : link_of old point ≡ Some link = c.skipped_sends_send_nothing.ensures.present old point link (sym c.link_to_send.ensures ∙ c.in-Some.is) in
    ap (λ (p : Option ℕ). sent_over p old point) present
    ∙ ap (λ (p : List ℕ). sending_of (stepped_exactly old (steps.Send p link))) (sym c.in_ok-point-in-Some.ensures)
    ∙ ap sending_of c.in_ok-outcome-in-Some.ensures
    ∙ ap (λ (call : Option Call). record { call = call; after = c.step_exactly.new.machine }) (sym c.call_sent.ensures)

pub returns-in-None : goal.returns-in-None
returns-in-None c =
    let old = c.args.machine.now in
    let point = c.args.point.now in
    skipped old point (link_of old point) (λ link. c.skipped_sends_send_nothing.ensures.nothing old point link (sym c.link_to_send.ensures ∙ c.in-None.is))
