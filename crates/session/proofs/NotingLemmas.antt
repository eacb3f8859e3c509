-- The line of a step that was made leads where the step led.
use Rattle.std.proofs.Common.{◌≡◌, ℕ, List, Bool, true, false, cond, Some, None, Option, Result, Ok, Err, IfSome, IfOk, option_map, inl, inr, refl, sym, ap, ◌∙◌, subst}
use Rattle.ocpp_scalars.specs.declared.refusal.Refusal.{Refusal}
use Rattle.meaning.specs.declared.said.Said.{Said}
use Rattle.messages.specs.declared.call.Call.{Call}
use Rattle.messages.specs.declared.action_kind.ActionKind.{ActionKind}
use Rattle.messages.specs.declared.side.Side.TheVariants.{Point}
use Rattle.sweep_compiler.specs.Judged.{Judgement}
use Rattle.sweep_compiler.specs.Verdict.{IsVerdict}
use Rattle.site_core.specs.declared.step.Step.{Step}
use Rattle.site_core.specs.declared.step.Step.TheVariants as steps
use Rattle.site_core.specs.declared.reply.Reply.{Reply}
use Rattle.site_core.specs.declared.reply.Reply.TheVariants as replies
use Rattle.site_core.specs.Equal.{AreOne, same_request}
use Rattle.site_core.specs.State.{MachineState}
use Rattle.site_core.specs.Step.{Made}
use Rattle.version_store.specs.Passes.{PassState}
use Rattle.version_store.specs.Store.{StoreState, IsStore}
use Rattle.version_store.specs.Calls.{Calls, Makes, sending}
use Rattle.journal.specs.Entry.{EntryState, IsEntryOf}
use Rattle.journal.specs.Line.{SenderState, NotedState, noted_state, side_of_sender}
use Rattle.journal.specs.Line as kinds
use Rattle.journal.specs.declared.line.Noted.{Noted}
use Rattle.journal.specs.MadeStep.{IsOfMadeStep}
use Rattle.journal.specs.NotedStep.{ChangesAreRestored, ConfirmsAreRestored, VerdictsAreRestored, LinksAreRestored, SendsAreRestored, LossesAreRestored, IsStep, LeadsTo, line_at, noted_by}
use Rattle.journal.specs.declared.restore_fault.RestoreFault.TheVariants.{OtherStep}
use Rattle.journal.specs.Restore.{is_change, change_asked, number_drawn}
use Rattle.texts.specs.declared.asked.Asked.TheVariants as asked
use Rattle.texts.specs.Asked.{asked_of}
use Rattle.texts.specs.Said.{said_of}
use Rattle.texts.specs.SentText.{Sent, sent}
use Rattle.journal.specs.declared.journal.JournalFault.{JournalFault}
use Rattle.session.specs.declared.outcome.Outcome.TheVariants as outcomes
use Rattle.session.specs.declared.outcome.Performed.{Performed}
use Rattle.session.specs.declared.outcome.Performed.TheVariants.{Outcome}
use Rattle.session.specs.Audit.{IsVerdictNoted, reply_noted}
use Rattle.session.specs.Noting.{IsEntryAt, IsEntryFor, IsEntryToNote, AsksFor, IsNotable, is_confirm}
use Rattle.session.specs.Perform.{Performs}
use Rattle.session.proofs.UnreadReply.{is_unread}
use Rattle.session.proofs.VerdictLemmas.{AreComputed, verdict_leads}

-- ---- a call on the book is the machine's step

abbrev after : Reply → StoreState → Made
after told new = record { reply = told; after = new.present }

made_step : (old new : StoreState) (step : Step) (told : Reply) → Makes old step told new
    → IsStep old.present step (after told new)
made_step old new step told (inl adds) = adds.made
made_step old new step told (inr alone) =
    subst (λ (s : StoreState). IsStep old.present step (after told s)) (sym alone.kept) alone.made

-- ---- links

attached_made : (earlier later : MachineState → Type 0)
    (point : List ℕ) (entry : EntryState) (link : ℕ) (old new : StoreState)
    → LinksAreRestored → IsEntryAt point (kinds.attached 0) entry → IsStore old
    → Makes old (steps.Attach point) (replies.Attached link) new → earlier old.present → later new.present
    → IsOfMadeStep entry link earlier later
attached_made earlier later point entry link old new law at store makes earlier_is later_is = record {
  line = line_at at.0 point (kinds.attached 0);
  entry_is = at.1;
  old = old;
  new = new;
  step = steps.Attach point;
  told = replies.Attached link;
  store = store;
  makes = makes;
  leads = law old.present at.0 point link (after (replies.Attached link) new)
      (made_step old new (steps.Attach point) (replies.Attached link) makes) refl;
  was_before = earlier_is;
  is_after = later_is;
}

-- a link that a point got, in the form that the code has
pub attached_noted : (earlier later : MachineState → Type 0)
    (point there : List ℕ) (maybe : Option EntryState) (entry : EntryState)
    (link : ℕ) (result : Result ℕ Refusal) (locked old new : StoreState) (was pass : PassState)
    → LinksAreRestored → IfSome maybe (IsEntryAt there (kinds.attached 0)) → maybe ≡ Some entry
    → there ≡ point → IsStore locked → old ≡ locked
    → IfOk result (λ (l : ℕ). Calls old was (steps.Attach point) (replies.Attached l) new pass)
    → result ≡ Ok link → earlier old.present → later new.present
    → IsOfMadeStep entry link earlier later
attached_noted earlier later point there maybe entry link result locked old new was pass law at entry_is same store
    locked_is calls result_is earlier_is later_is =
    let made = subst (λ (r : Result ℕ Refusal). IfOk r (λ (l : ℕ).
    Calls old was (steps.Attach point) (replies.Attached l) new pass)) result_is calls in
    attached_made earlier later point entry link old new law
    (subst (λ p. IsEntryAt p (kinds.attached 0) entry) same
    (subst (λ (e : Option EntryState). IfSome e (IsEntryAt there (kinds.attached 0))) entry_is at))
    (subst IsStore (sym locked_is) store) made.makes earlier_is later_is

sent_made : (earlier later : MachineState → Type 0)
    (moment : ℕ) (point : List ℕ) (link : ℕ) (entry : EntryState) (call : Call)
    (old new : StoreState)
    → SendsAreRestored → IsEntryOf entry (line_at moment point (kinds.sent link 0)) → IsStore old
    → Makes old (steps.Send point link) (replies.Sent call) new
    → earlier old.present → later new.present
    → IsOfMadeStep entry call.number earlier later
sent_made earlier later moment point link entry call old new law entry_is store makes earlier_is later_is = record {
  line = line_at moment point (kinds.sent link 0);
  entry_is = entry_is;
  old = old;
  new = new;
  step = steps.Send point link;
  told = replies.Sent call;
  store = store;
  makes = makes;
  leads = law old.present moment point link call (after (replies.Sent call) new)
      (made_step old new (steps.Send point link) (replies.Sent call) makes) refl;
  was_before = earlier_is;
  is_after = later_is;
}

-- a call that went out
pub sent_noted : (earlier later : MachineState → Type 0)
    (moment : ℕ) (point there : List ℕ) (link : ℕ) (maybe : Option EntryState)
    (entry : EntryState) (call : Call) (result : Result (Option Call) Refusal)
    (locked old new : StoreState)
    → SendsAreRestored
    → IfSome maybe (λ (e : EntryState). IsEntryOf e (line_at moment there (kinds.sent link 0)))
    → maybe ≡ Some entry → there ≡ point → IsStore locked → old ≡ locked
    → IfOk result (λ (c : Option Call). Makes old (steps.Send point link) (sending c) new)
    → result ≡ Ok (Some call) → earlier old.present → later new.present
    → IsOfMadeStep entry call.number earlier later
sent_noted earlier later moment point there link maybe entry call result locked old new law at entry_is same store
    locked_is makes result_is earlier_is later_is =
    sent_made earlier later moment point link entry call old new law
    (subst (λ p. IsEntryOf entry (line_at moment p (kinds.sent link 0))) same
    (subst (λ (m : Option EntryState). IfSome m (λ (e : EntryState).
    IsEntryOf e (line_at moment there (kinds.sent link 0)))) entry_is at))
    (subst IsStore (sym locked_is) store)
    (subst (λ (r : Result (Option Call) Refusal). IfOk r (λ (c : Option Call).
    Makes old (steps.Send point link) (sending c) new)) result_is makes)
    earlier_is later_is

lost_made : (earlier later : MachineState → Type 0)
    (point : List ℕ) (link : ℕ) (entry : EntryState) (old new : StoreState)
    → LossesAreRestored → IsEntryAt point (kinds.lost link) entry → IsStore old
    → Makes old (steps.Lost point link) replies.LinkLost new → earlier old.present → later new.present
    → IsOfMadeStep entry 0 earlier later
lost_made earlier later point link entry old new law at store makes earlier_is later_is = record {
  line = line_at at.0 point (kinds.lost link);
  entry_is = at.1;
  old = old;
  new = new;
  step = steps.Lost point link;
  told = replies.LinkLost;
  store = store;
  makes = makes;
  leads = law old.present at.0 point link (after replies.LinkLost new)
      (made_step old new (steps.Lost point link) replies.LinkLost makes);
  was_before = earlier_is;
  is_after = later_is;
}

-- a link that was lost
pub lost_noted : (earlier later : MachineState → Type 0)
    (point there : List ℕ) (link : ℕ) (maybe : Option EntryState)
    (entry : EntryState) (result : Result (Unit {0}) Refusal) (done : Unit {0})
    (locked old new : StoreState)
    → LossesAreRestored → IfSome maybe (IsEntryAt there (kinds.lost link)) → maybe ≡ Some entry
    → there ≡ point → IsStore locked → old ≡ locked
    → IfOk result (λ (d : Unit {0}). Makes old (steps.Lost point link) replies.LinkLost new)
    → result ≡ Ok done → earlier old.present → later new.present
    → IsOfMadeStep entry 0 earlier later
lost_noted earlier later point there link maybe entry result done locked old new law at entry_is same store
    locked_is makes result_is earlier_is later_is =
    lost_made earlier later point link entry old new law
    (subst (λ p. IsEntryAt p (kinds.lost link) entry) same
    (subst (λ (e : Option EntryState). IfSome e (IsEntryAt there (kinds.lost link))) entry_is at))
    (subst IsStore (sym locked_is) store)
    (subst (λ (r : Result (Unit {0}) Refusal). IfOk r (λ (d : Unit {0}).
    Makes old (steps.Lost point link) replies.LinkLost new)) result_is makes)
    earlier_is later_is

-- the verdict is the one on the reply that is noted
on_noted : (text : Sent) (moment : ℕ) (point : List ℕ) (judged : Judgement) (short : Bool)
    → IsVerdictNoted text judged short
    → IsVerdict judged.audit (said_of (sent moment Point point (reply_noted short text.frame)))
    judged.verdict
on_noted text moment point judged true right =
    subst (λ (said : Said). IsVerdict judged.audit said judged.verdict)
    (sym (is_unread moment point)) right
on_noted text moment point judged false right = right

-- the line of a verdict, with the reply that was judged or, if memory ran out, one that reads as no
-- schedule
verdict_line : (old : StoreState) (moment : ℕ) (point : List ℕ) (call : ℕ) (frame : List ℕ)
    (text : Sent) (judged : Judgement) (made : Made) (short : Bool)
    → VerdictsAreRestored → AreOne same_request → AreComputed
    → frame ≡ reply_noted short text.frame → IsVerdictNoted text judged short
    → IsStep old.present (steps.Judge point call judged) made
    → LeadsTo old.present (line_at moment point (kinds.verdict call frame)) made
verdict_line old moment point call frame text judged made short law one computed frame_is right
    step =
    verdict_leads old.present (sent moment Point point frame) call judged made law one computed refl
    (subst (λ f. IsVerdict judged.audit (said_of (sent moment Point point f)) judged.verdict)
    (sym frame_is) (on_noted text moment point judged short right))
    step

-- a verdict that was kept
pub verdict_noted : (earlier later : MachineState → Type 0)
    (text : Sent) (short : Bool) (moment : ℕ) (there point : List ℕ) (call : ℕ)
    (frame : List ℕ) (judged : Judgement) (maybe : Option EntryState) (entry : EntryState)
    (locked old new : StoreState)
    → VerdictsAreRestored → AreOne same_request → AreComputed
    → frame ≡ reply_noted short text.frame → IsVerdictNoted text judged short
    → IfSome maybe (λ (e : EntryState). IsEntryOf e (line_at moment there (kinds.verdict call frame)))
    → maybe ≡ Some entry → there ≡ point → IsStore locked → old ≡ locked
    → Makes old (steps.Judge point call judged) replies.VerdictKept new → earlier old.present → later new.present
    → IsOfMadeStep entry call earlier later
verdict_noted earlier later text short moment there point call frame judged maybe entry locked old new law one
    computed frame_is right at entry_is same store locked_is makes earlier_is later_is = record {
      line = line_at moment there (kinds.verdict call frame);
      entry_is = subst (λ (m : Option EntryState). IfSome m (λ (e : EntryState).
          IsEntryOf e (line_at moment there (kinds.verdict call frame)))) entry_is at;
      old = old;
      new = new;
      step = steps.Judge point call judged;
      told = replies.VerdictKept;
      store = subst IsStore (sym locked_is) store;
      makes = makes;
      leads = subst (λ p. LeadsTo old.present (line_at moment p (kinds.verdict call frame))
          (after replies.VerdictKept new)) (sym same)
          (verdict_line old moment point call frame text judged (after replies.VerdictKept new)
          short law one computed frame_is right
          (made_step old new (steps.Judge point call judged) replies.VerdictKept makes));
      was_before = earlier_is;
      is_after = later_is;
    }

-- ---- messages

to_note : (text : Sent) (sender : SenderState) (step : Step) (noted : Noted) (entry : EntryState)
    → side_of_sender sender ≡ text.sender
    → AsksFor text step → Some (noted_state noted) ≡ noted_by step sender text.frame
    → IsEntryOf entry (line_at text.moment text.point (noted_state noted))
    → IsEntryToNote step entry
to_note text sender step noted entry side asks by entry_is = record {
  text = text;
  asks = asks;
  sender = sender;
  side = side;
  noted = noted_state noted;
  noted_is = sym by;
  entry_is = entry_is;
}

for_some : (text : Sent) (sender : SenderState) (step : Step) (noted : Noted)
    (result : Result (Option EntryState) JournalFault)
    → side_of_sender sender ≡ text.sender
    → AsksFor text step → Some (noted_state noted) ≡ noted_by step sender text.frame
    → IfOk result (λ (entry : Option EntryState). IfSome entry (λ (e : EntryState).
    IsEntryOf e (line_at text.moment text.point (noted_state noted))))
    → IfOk result (IsEntryFor (Some step))
for_some text sender step noted (Ok None) side asks by entry_is = tt
for_some text sender step noted (Ok (Some entry)) side asks by entry_is =
    to_note text sender step noted entry side asks by entry_is
for_some text sender step noted (Err fault) side asks by entry_is = tt

-- the entry of a message that asks for a step
pub prepared : (text : Sent) (sender : SenderState) (maybe : Option Step) (step : Step)
    (found : Option Noted) (noted : Noted) (moment : ℕ) (point : List ℕ)
    (result : Result (Option EntryState) JournalFault)
    → side_of_sender sender ≡ text.sender
    → IfSome maybe (AsksFor text) → maybe ≡ Some step
    → option_map noted_state found ≡ noted_by step sender text.frame → found ≡ Some noted
    → moment ≡ text.moment → point ≡ text.point
    → IfOk result (λ (entry : Option EntryState). IfSome entry (λ (e : EntryState).
    IsEntryOf e (line_at moment point (noted_state noted))))
    → IfOk result (IsEntryFor maybe)
prepared text sender maybe step found noted moment point result side asks step_is by found_is
    moment_is point_is entry_is =
    subst (λ (m : Option Step). IfOk result (IsEntryFor m)) (sym step_is)
    (for_some text sender step noted result side
    (subst (λ (m : Option Step). IfSome m (AsksFor text)) step_is asks)
    (subst (λ (f : Option Noted). option_map noted_state f
    ≡ noted_by step sender text.frame) found_is by)
    (subst (λ m. IfOk result (λ (entry : Option EntryState). IfSome entry (λ (e : EntryState).
    IsEntryOf e (line_at m text.point (noted_state noted))))) moment_is
    (subst (λ p. IfOk result (λ (entry : Option EntryState). IfSome entry (λ (e : EntryState).
    IsEntryOf e (line_at moment p (noted_state noted))))) point_is entry_is)))

-- a change is performed as itself, and noted with its message
performs_makes : (old : StoreState) (was : PassState) (step : Step) (told : Reply)
    (new : StoreState) (pass : PassState) → is_change step ≡ true
    → Performs old was step (Outcome (outcomes.Made told)) new pass → Makes old step told new
performs_makes old was (steps.Take take) told new pass change performs = absurd performs
performs_makes old was (steps.Confirm point link call accepted) told new pass change performs =
    absurd (cc)
performs_makes old was step told new pass change performs = performs.makes

noted_message : (step : Step) (sender : SenderState) (frame : List ℕ) (noted : NotedState)
    → is_confirm step ≡ false → noted_by step sender frame ≡ Some noted
    → (is_change step ≡ true) × (kinds.message sender 0 frame ≡ noted)
noted_message (steps.Install point row) sender frame noted is by = (refl, cc)
noted_message (steps.Clear point criteria) sender frame noted is by = (refl, cc)
noted_message (steps.Start point connector begin) sender frame noted is by = (refl, cc)
noted_message (steps.Stop point number) sender frame noted is by = (refl, cc)
noted_message (steps.Audit point connector duration) sender frame noted is by = (refl, cc)
noted_message (steps.RemoteStart point connector id_tag profile) sender frame noted is by =
    (refl, cc)
noted_message (steps.Boot point moment) sender frame noted is by = (refl, cc)
noted_message step sender frame noted is by = absurd (cc)

-- a message that asks for a change asks for it as a line of a journal does
asks_by_step : (text : Sent) (id : List ℕ) (kind : ActionKind) (step : Step)
    → asked_of text ≡ asked.Step id kind step → is_change step ≡ true
    → change_asked (asked_of text) ≡ Ok step
asks_by_step text id kind step asks change =
    ap change_asked asks
    ∙ ap (λ (b : Bool). cond b (Ok step) (Err OtherStep)) change

asks_for_change : (text : Sent) (step : Step) → is_confirm step ≡ false → is_change step ≡ true
    → AsksFor text step → change_asked (asked_of text) ≡ Ok step
asks_for_change text (steps.Confirm point link call accepted) is change asks = absurd (cc)
asks_for_change text (steps.Boot point moment) is change asks = ap change_asked asks.1
asks_for_change text step is change asks = asks_by_step text asks.0 asks.1 step asks.2 change

change_made : (earlier later : MachineState → Type 0)
    (entry : EntryState) (told : Reply) (new : StoreState) (number : ℕ)
    → ChangesAreRestored → IsNotable entry false (Outcome (outcomes.Made told)) earlier new
    → number_drawn told new.present.numbers.version ≡ Some number → later new.present
    → IsOfMadeStep entry number earlier later
change_made earlier later entry told new number law notable drawn later_is =
    let it = notable.entry_is in
    let no_confirm = sym notable.confirms_is in
    let noted = noted_message notable.step it.sender it.text.frame it.noted no_confirm it.noted_is in
    let asks = asks_for_change it.text notable.step no_confirm noted.0 it.asks in
    let makes = performs_makes notable.old notable.was notable.step told new notable.pass noted.0 notable.performs in
    record {
      line = line_at it.text.moment it.text.point (kinds.message it.sender 0 it.text.frame);
      entry_is = subst (λ n. IsEntryOf entry (line_at it.text.moment it.text.point n)) (sym noted.1) it.entry_is;
      old = notable.old;
      new = new;
      step = notable.step;
      told = told;
      store = notable.store;
      makes = makes;
      leads = law notable.old.present it.text it.sender notable.step (after told new) number it.side asks
          (made_step notable.old new notable.step told makes) drawn;
      was_before = notable.was_before;
      is_after = later_is;
    }

-- the steps that were performed and are noted, in the form that the code has
abbrev AreNotable : Option EntryState → Bool → Performed → (MachineState → Type 0) → StoreState
    → Type 0
AreNotable maybe confirms performed earlier new =
    IfSome maybe (λ (e : EntryState). IsNotable e confirms performed earlier new)

pub change_noted : (earlier later : MachineState → Type 0)
    (maybe : Option EntryState) (entry : EntryState) (confirms : Bool)
    (performed : Performed) (told : Reply) (new : StoreState) (number : ℕ)
    → ChangesAreRestored → AreNotable maybe confirms performed earlier new
    → maybe ≡ Some entry → confirms ≡ false → performed ≡ Outcome (outcomes.Made told)
    → number_drawn told new.present.numbers.version ≡ Some number → later new.present
    → IsOfMadeStep entry number earlier later
change_noted earlier later maybe entry confirms performed told new number law notable entry_is
    confirms_is performed_is drawn later_is =
    change_made earlier later entry told new number law
    (subst (λ (p : Performed). IsNotable entry false p earlier new) performed_is
    (subst (λ b. IsNotable entry b performed earlier new) confirms_is
    (subst (λ (m : Option EntryState). AreNotable m confirms performed earlier new) entry_is
    notable)))
    drawn later_is

-- a Confirm is performed as itself, and noted with its reply
confirm_made : (earlier later : MachineState → Type 0)
    (step : Step) (entry : EntryState) (told : Reply) (old new : StoreState)
    (was pass : PassState) → ConfirmsAreRestored → IsEntryToNote step entry
    → is_confirm step ≡ true → IsStore old
    → Performs old was step (Outcome (outcomes.Made told)) new pass → earlier old.present → later new.present
    → IsOfMadeStep entry 0 earlier later
confirm_made earlier later (steps.Confirm point link call accepted) entry told old new was pass law it
    is store performs earlier_is later_is =
    let own = it.asks.1 in
    let same : it.noted ≡ kinds.reply link it.text.frame = cc (it.noted_is) in
    record {
      line = line_at it.text.moment it.text.point (kinds.reply link it.text.frame);
      entry_is = subst (λ n. IsEntryOf entry (line_at it.text.moment it.text.point n)) same it.entry_is;
      old = old;
      new = new;
      step = steps.Confirm point link call accepted;
      told = told;
      store = store;
      makes = performs.0;
      leads = law old.present it.text link call accepted (after told new) it.asks.0
          (subst (λ p. asked_of it.text ≡ asked.Confirm p call accepted) own it.asks.2)
          (subst (λ p. IsStep old.present (steps.Confirm p link call accepted) (after told new)) own
          (made_step old new (steps.Confirm point link call accepted) told performs.0));
      was_before = earlier_is;
      is_after = later_is;
    }
confirm_made earlier later step entry told old new was pass law it is store performs earlier_is
    later_is = absurd (cc)

pub confirm_noted : (earlier later : MachineState → Type 0)
    (maybe : Option EntryState) (entry : EntryState) (confirms : Bool)
    (performed : Performed) (told : Reply) (new : StoreState)
    → ConfirmsAreRestored → AreNotable maybe confirms performed earlier new
    → maybe ≡ Some entry → confirms ≡ true → performed ≡ Outcome (outcomes.Made told)
    → later new.present
    → IsOfMadeStep entry 0 earlier later
confirm_noted earlier later maybe entry confirms performed told new law notable entry_is confirms_is
    performed_is later_is =
    let it = subst (λ (p : Performed). IsNotable entry true p earlier new) performed_is
    (subst (λ b. IsNotable entry b performed earlier new) confirms_is
    (subst (λ (m : Option EntryState). AreNotable m confirms performed earlier new) entry_is
    notable)) in
    confirm_made earlier later it.step entry told it.old new it.was it.pass law it.entry_is
    (sym it.confirms_is) it.store it.performs it.was_before later_is
