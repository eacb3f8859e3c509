-- The last recorded state is the one that the step led to.
use Rattle.std.proofs.Common.{◌≡◌, List, sym, subst, ◌∙◌}
use Rattle.site_core.specs.State.{MachineState}
use Rattle.version_store.specs.Recording.{IsAt}
use Rattle.version_store.proofs.RecorderLemmas.{makes_request, makes_no_event}
use Rattle.version_store.proofs.recorder.make_recorded.Goals.{then-not-is_request+then-is_event, else-not-is_request, else-not-is_request-via-then-not-is_request+else-is_event, else-not-is_request-via-else-not-is_request}
use Rattle.version_store.proofs.recorder.make_recorded.Goals as goal

pub returns-clause-recorded : goal.returns-clause-recorded
returns-clause-recorded g c =
    let new = c.make.new.self in
    let old = c.args.history.now in
    let makes = c.in_ok-reply.ensures.makes in
    let stopped = subst (λ (s : MachineState). s.is_stopped ≡ c.is_stopped-was_stopped.result)
    c.present.ensures (sym c.is_stopped-was_stopped.ensures) in
    elim c.if-not-is_request.branch [
      | then-not-is_request+then-is_event w ↦
          subst (λ (r : List MachineState). IsAt g.N.ListName.is_recorded r new.present) (sym w.recorder-is)
          (subst (λ (s : MachineState). IsAt g.N.ListName.is_recorded w.record.new.self s)
          w.present-then-is_event.ensures w.record.ensures)
      | else-not-is_request w ↦
          subst (λ (r : List MachineState). IsAt g.N.ListName.is_recorded r new.present) (sym w.recorder-is)
          (elim w.else-not-is_request.branch [
            | else-not-is_request-via-then-not-is_request+else-is_event w' ↦
                makes_no_event g.N.ListName.is_recorded c.args.recorder.now old c.args.step c.in_ok-reply.reply new makes
                (sym (w'.is_event.ensures old.present stopped) ∙ w'.if-is_event.false)
                c.requires.recorded
            | else-not-is_request-via-else-not-is_request w' ↦
                makes_request g.N.ListName.is_recorded c.args.recorder.now old c.args.step c.in_ok-reply.reply new makes
                (sym c.is_of_request-is_request.ensures ∙ w'.if-not-is_request.false)
                c.requires.recorded
          ])
    ]
