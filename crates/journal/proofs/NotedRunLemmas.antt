-- A line leads to the same state if requests are forgotten, and so do the lines of a run.
use Rattle.std.proofs.Common.{◌≡◌, ℕ, Bool, true, false, cond, List, [], ◌∷◌, ◌++◌, Option, Some, None, Result, Ok, Err, refl, sym, ap, ◌∙◌, subst}
use Rattle.ocpp_scalars.specs.ResultSteps.{◌>>=◌}
use Rattle.ocpp_scalars.specs.declared.refusal.Refusal.{Refusal}
use Rattle.meaning.specs.declared.said.Said.{Said}
use Rattle.sweep_compiler.specs.Verdict.{AuditRequest}
use Rattle.site_rules.specs.Site.{place_of}
use Rattle.texts.specs.declared.asked.Asked.{Asked}
use Rattle.texts.specs.declared.asked.Asked.TheVariants as asked
use Rattle.texts.specs.Asked.{asked_of}
use Rattle.texts.specs.Said.{said_of}
use Rattle.texts.specs.SentText as texts
use Rattle.site_core.specs.declared.step.Step.{Step}
use Rattle.site_core.specs.declared.step.Step.TheVariants as steps
use Rattle.site_core.specs.declared.reply.Reply.{Reply}
use Rattle.site_core.specs.Requests.{request_of}
use Rattle.site_core.specs.State.{MachineState, audit_job, audit_job_at}
use Rattle.site_core.specs.Step.{Made, PointStep, Work, AtPoint, work, worked, Steps, stepped, no_answer}
use Rattle.site_core.specs.Theory.Steps.{StepKind, kind_of, names_point, takes_one, compiles_one, answers_one, finishes_all}
use Rattle.journal.specs.declared.restore_fault.RestoreFault.{RestoreFault}
use Rattle.journal.specs.declared.restore_fault.RestoreFault.TheVariants.{OtherStep}
use Rattle.version_store.specs.Recording.{forget, is_of_request}
use Rattle.journal.specs.Line.{NotedState, LineState, number_written, side_of_sender}
use Rattle.journal.specs.Line as noted_as
use Rattle.journal.specs.NotedRun.{begins, notes, passes, NotedRunsAreRestored}
use Rattle.journal.specs.Restore.{is_change, change_asked, confirm_asked, judge_asked, judged_exactly, reply_on, step_noted, number_drawn, number_fault, unless_fault, made_or_refused, made_with, restored, restored_lines}
use Rattle.version_store.specs.Theory.Forgetting.{led, taken_forgotten, compiled_forgotten, answered_forgotten, not_of_request}
use Rattle.journal.proofs.ForgettingLemmas.{there_same}

abbrev made_so : Reply → MachineState → Made
made_so reply after = record { reply = reply; after = after }

-- ---- the step of a line is at a point

data IsAtPoint : Step → Type 0 where
  is_at : (step : Step) (at : PointStep) → work step ≡ AtPoint at → IsAtPoint step

change_at : (step : Step) → is_change step ≡ true → IsAtPoint step
change_at (steps.Install point row) is = is_at _ _ refl
change_at (steps.Clear point criteria) is = is_at _ _ refl
change_at (steps.Start point connector begin) is = is_at _ _ refl
change_at (steps.Stop point number) is = is_at _ _ refl
change_at (steps.Audit point connector duration) is = is_at _ _ refl
change_at (steps.RemoteStart point connector id_tag profile) is = is_at _ _ refl
change_at (steps.Boot point moment) is = is_at _ _ refl
change_at step is = absurd (cc is)

abbrev ok_step : Step → Result Step RestoreFault
ok_step step = Ok step

same_step : (one step : Step) → IsAtPoint one → ok_step one ≡ Ok step → IsAtPoint step
same_step one step at is =
    let same : one ≡ step = cc is in
    subst IsAtPoint same at

asked_at : (message : Asked) (step : Step) → change_asked message ≡ Ok step → IsAtPoint step
asked_at (asked.Step id kind one) step is = go (is_change one) refl is
  where
    go : (change : Bool) → is_change one ≡ change
        → cond change (ok_step one) (Err OtherStep) ≡ Ok step → IsAtPoint step
    go true change is = same_step one step (change_at one change) is
    go false change is = absurd (cc is)
asked_at (asked.Boot id point moment) step is =
    same_step (steps.Boot point moment) step (is_at _ _ refl) is
asked_at message step is = absurd (cc is)

confirm_at : (link : ℕ) (message : Asked) (step : Step) → confirm_asked link message ≡ Ok step
    → IsAtPoint step
confirm_at link (asked.Confirm point call accepted) step is =
    same_step (steps.Confirm point link call accepted) step (is_at _ _ refl) is
confirm_at link message step is = absurd (cc is)

judged_at : (point : List ℕ) (call : ℕ) (said : Said) (job : Option AuditRequest) (step : Step)
    → judge_asked point call said job ≡ Ok step → IsAtPoint step
judged_at point call said None step is = absurd (cc is)
judged_at point call said (Some job) step is =
    same_step (steps.Judge point call (judged_exactly job said)) step (is_at _ _ refl) is

noted_at : (state : MachineState) (line : LineState) (noted : NotedState) (step : Step)
    → step_noted state line noted ≡ Ok step → IsAtPoint step
noted_at state line (noted_as.message sender number frame) step is =
    asked_at (asked_of (texts.sent line.moment (side_of_sender sender) line.point frame)) step is
noted_at state line (noted_as.reply link frame) step is =
    confirm_at link (asked_of (reply_on line frame)) step is
noted_at state line (noted_as.verdict call frame) step is =
    judged_at line.point call (said_of (reply_on line frame)) (audit_job state line.point call) step is
noted_at state line (noted_as.attached link) step is =
    same_step (steps.Attach line.point) step (is_at _ _ refl) is
noted_at state line (noted_as.sent link call) step is =
    same_step (steps.Send line.point link) step (is_at _ _ refl) is
noted_at state line (noted_as.lost link) step is =
    same_step (steps.Lost line.point link) step (is_at _ _ refl) is

-- ---- and doesn't depend on requests

job_same : (old : MachineState) (found : Option ℕ) (call : ℕ)
    → audit_job_at (forget old) found call ≡ audit_job_at old found call
job_same old None call = refl
job_same old (Some place) call = refl

noted_same : (old : MachineState) (line : LineState) (noted : NotedState)
    → step_noted (forget old) line noted ≡ step_noted old line noted
noted_same old line (noted_as.verdict call frame) =
    ap (judge_asked line.point call (said_of (reply_on line frame)))
    (job_same old (place_of old.site line.point) call)
noted_same old line noted = refl

-- ---- a line

made_ok : (result : Result Made Refusal) (made : Made) → made_or_refused result ≡ Ok made
    → result ≡ Ok made
made_ok (Ok one) made is =
    let same : one ≡ made = cc is in
    ap (λ (m : Made). Ok m) same
made_ok (Err refusal) made is = absurd (cc is)

kept_whole : (fault : Option RestoreFault) (state new : MachineState)
    → unless_fault fault state ≡ Ok new → unless_fault fault (forget state) ≡ Ok (forget new)
kept_whole None state new is =
    let same : state ≡ new = cc is in
    ap (λ (s : MachineState). Ok (forget s)) same
kept_whole (Some fault) state new is = absurd (cc is)

abbrev compared : Option ℕ → Made → Result MachineState RestoreFault
compared written made =
    unless_fault (number_fault written (number_drawn made.reply made.after.numbers.version)) made.after

step_forgets : (old : MachineState) (written : Option ℕ) (step : Step) (new : MachineState)
    → IsAtPoint step → made_with old written step ≡ Ok new
    → made_with (forget old) written step ≡ Ok (forget new)
step_forgets old written step new (is_at _ at is) made =
    let found = led (made_or_refused (stepped no_answer old step)) (compared written) new made in
    let one = made_ok (stepped no_answer old step) found.a found.is in
    let there = subst (λ (w : Work). worked no_answer old step w ≡ Ok found.a) is one in
    let again = subst (λ (w : Work). worked no_answer (forget old) step w ≡ Ok (made_so found.a.reply (forget found.a.after)))
    (sym is) (there_same old step at is found.a.reply found.a.after there) in
    ap (λ (r : Result Made Refusal). made_or_refused r >>= compared written) again
    ∙ kept_whole (number_fault written (number_drawn found.a.reply found.a.after.numbers.version))
    found.a.after new found.then

line_forgets : (old new : MachineState) (line : LineState) → restored old line ≡ Ok new
    → restored (forget old) line ≡ Ok (forget new)
unfolding restored
line_forgets old new line is =
    let written = number_written line.noted in
    let found = led (step_noted old line line.noted) (made_with old written) new is in
    ap (λ (r : Result Step RestoreFault). r >>= made_with (forget old) written)
    (noted_same old line line.noted ∙ found.is)
    ∙ step_forgets old written found.a new (noted_at old line line.noted found.a found.is) found.then

-- ---- a run

line_behind : (old middle new : MachineState) (lines : List LineState) (line : LineState)
    → restored_lines old lines ≡ Ok middle → restored middle line ≡ Ok new
    → restored_lines old (lines ++ line ∷ []) ≡ Ok new
line_behind old middle new [] line is last =
    let same : old ≡ middle = cc is in
    ap (λ (s : MachineState). restored s line >>= (λ (next : MachineState). Ok next)) same
    ∙ ap (λ (r : Result MachineState RestoreFault). r >>= (λ (next : MachineState). Ok next)) last
line_behind old middle new (first ∷ rest) line is last =
    let found = led (restored old first) (λ (next : MachineState). restored_lines next rest) middle is in
    ap (λ (r : Result MachineState RestoreFault).
    r >>= (λ (next : MachineState). restored_lines next (rest ++ line ∷ []))) found.is
    ∙ line_behind found.a middle new rest line found.then last

request_forgotten : (old new : MachineState) (step : Step) (reply : Reply) → StepKind step
    → is_of_request step ≡ true → Steps old step reply new → forget new ≡ forget old
request_forgotten old new step reply (names_point _ at is) request made =
    absurd (cc (request, not_of_request step at is))
request_forgotten old new _ reply (takes_one take) request made =
    taken_forgotten old take (made_so reply new) made
request_forgotten old new _ reply (compiles_one number) request made =
    compiled_forgotten old number made.answer (request_of number old.requests) (made_so reply new)
    made.made
request_forgotten old new _ reply (answers_one number) request made =
    answered_forgotten old (request_of number old.requests) (made_so reply new) made
request_forgotten old new _ reply finishes_all request made = absurd (cc request)

pub runs : NotedRunsAreRestored
runs _ _ _ (begins old) = refl
runs _ _ _ (notes old state new lines line run leads) =
    line_behind (forget old) (forget state) (forget new) lines line (runs old state lines run)
    (line_forgets state new line leads)
runs _ _ _ (passes old state new lines step reply run request made) =
    runs old state lines run
    ∙ ap (λ (s : MachineState). Ok s)
    (sym (request_forgotten state new step reply (kind_of step) request made))
