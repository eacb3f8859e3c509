-- A request that is handed out leaves the room for its event.
use Rattle.std.proofs.Common.{◌≡◌, ◌≤◌, ℕ, Ok, inr, sym, ap, subst, arith}
use Rattle.std.proofs.lemmas.List.{length_push}
use Rattle.site_core.specs.declared.step.Step.TheVariants.{Answer}
use Rattle.site_core.specs.declared.reply.Reply.{Reply}
use Rattle.site_core.specs.declared.reply.Reply.TheVariants.{NotYet}
use Rattle.site_core.specs.State.{MachineState}
use Rattle.site_core.specs.Step.{answers, is_event, is_reply_to}
use Rattle.std.specs.Vec.{vec_capacity}
use Rattle.version_store.specs.Limits.{room}
use Rattle.version_store.specs.Passes.{totals_after}
use Rattle.version_store.specs.contracts.history.History.{the_view}
use Rattle.version_store.specs.Store.{StoreState, IsStore, HasRoom, with_event}
use Rattle.version_store.specs.Calls.{Makes, RepliesAlone, event_alone}
use Rattle.version_store.proofs.HistoryLemmas.{made_with, nothing_more, store_goes_on}
use Rattle.version_store.proofs.RequestLemmas.{handed_out, not_yet}
use Rattle.version_store.proofs.history.History.hand_out.Goals as goal

-- an Answer of a number leads from one state to another, with this reply
abbrev Replies : MachineState → MachineState → Reply → (number : ℕ) → Type 0
Replies old new reply number = answers old number ≡ Ok (made_with reply new)

pub push_reserved-requires : goal.push_reserved-requires
push_reserved-requires c =
    let made = subst
    (λ (r : Reply). Replies c.self.inside.present c.step.new.self r c.args.number)
    c.in-Answered.is c.in-Ok.ensures.made in
    let out = handed_out c.self.inside.present c.args.number c.in-Answered.book c.in-Answered.ask
    c.in-Answered.answer c.step.new.self made in
    omega (arith, out.room, c.self.invariant.1, c.self.invariant.2, c.self.inside.events.ok)

abbrev new : (c : goal.After-push_reserved) → StoreState
new c = the_view (record c.self.inside {
  events = c.push_reserved.new.self;
  present = c.step.new.self;
  made = c.after-self-inside.result;
})

abbrev then : (c : goal.After-push_reserved) → StoreState
then c = with_event (the_view c.self.inside) (event_alone (Answer c.args.number))
    (made_with c.in-Ok.reply c.step.new.self)

pub invariant_of-self-2 : goal.invariant_of-self-2
invariant_of-self-2 c =
    let event = event_alone (Answer c.args.number) in
    let is = store_goes_on c.machine_laws.ensures _ c.self.invariant.0 event c.in-Ok.reply
    c.step.new.self c.in-Ok.ensures.made (λ number kept same found. absurd (cc same)) tt
    c.open_requests.ensures.machine in
    let made = subst
    (λ (r : Reply). Replies c.self.inside.present c.step.new.self r c.args.number)
    c.in-Answered.is c.in-Ok.ensures.made in
    let out = handed_out c.self.inside.present c.args.number c.in-Answered.book c.in-Answered.ask
    c.in-Answered.answer c.step.new.self made in
    let longer = length_push c.self.inside.events.items event in
    let room : HasRoom (then c) = omega (arith, longer, out.room, c.self.invariant.1) in
    let same : then c ≡ new c =
    cc (c.push_reserved.ensures.items, c.alone.ensures, c.after-self-inside.ensures) in (
      subst IsStore same is,
      subst HasRoom same room,
      omega (arith, c.push_reserved.ensures.capacity, c.self.invariant.2),
    )

pub returns-clause-right : goal.returns-clause-right
returns-clause-right c = λ book ask answer is.
    let made = subst
    (λ (r : Reply). Replies c.self.inside.present c.step.new.self r c.args.number) is
    c.in-Ok.ensures.made in
    let out = handed_out c.self.inside.present c.args.number book ask answer c.step.new.self made
    in
    out.right c.self.invariant.0.right

-- ---- no answer yet: the machine is as it was

pub invariant_of-self-in_default : goal.invariant_of-self-in_default
invariant_of-self-in_default c =
    let same = not_yet c.self.inside.present c.args.number c.in-Ok.reply c.step.new.self
    c.in-Ok.ensures.made c.in_default.not-Answered in
    subst (λ (s : MachineState). IsStore (the_view (record c.self.inside { present = s }))
    × HasRoom (the_view (record c.self.inside { present = s }))
    × (room ≤ vec_capacity c.self.inside.events)) (sym same.1) c.self.invariant

pub returns-in_default-clause-makes : goal.returns-in_default-clause-makes
returns-in_default-clause-makes c =
    let same = not_yet c.self.inside.present c.args.number c.in-Ok.reply c.step.new.self
    c.in-Ok.ensures.made c.in_default.not-Answered in
    let new : StoreState = the_view (record c.self.inside { present = c.step.new.self }) in
    let alone : RepliesAlone (the_view c.self.inside) (Answer c.args.number) c.in-Ok.reply new =
    record {
      made = subst (λ (s : MachineState). answers c.self.inside.present c.args.number
          ≡ Ok (made_with c.in-Ok.reply s)) same.1 c.in-Ok.ensures.made;
      no_event = ap (λ (r : Reply). is_event c.self.inside.present r) same.0;
      kept = ap (λ (s : MachineState). the_view (record c.self.inside { present = s })) same.1;
    } in
    subst (λ (s : StoreState). Makes s (Answer c.args.number) c.in-Ok.reply new) c.self.view_is
    (inr alone)

pub returns-in_default-clause-own : goal.returns-in_default-clause-own
returns-in_default-clause-own c =
    let same = not_yet c.self.inside.present c.args.number c.in-Ok.reply c.step.new.self
    c.in-Ok.ensures.made c.in_default.not-Answered in
    ap (λ (r : Reply). is_reply_to (Answer c.args.number) r) same.0

pub returns-in_default-clause-right : goal.returns-in_default-clause-right
returns-in_default-clause-right c = λ book ask answer is.
    absurd (c.in_default.not-Answered book ask answer is)

pub returns-in_default-clause-counts : goal.returns-in_default-clause-counts
returns-in_default-clause-counts c =
    let same = not_yet c.self.inside.present c.args.number c.in-Ok.reply c.step.new.self
    c.in-Ok.ensures.made c.in_default.not-Answered in
    subst (λ (s : StoreState). c.self.inside.made ≡ totals_after s.made c.in-Ok.reply)
    c.self.view_is
    (subst (λ (r : Reply). c.self.inside.made ≡ totals_after c.self.inside.made r) (sym same.0)
    (sym (nothing_more c.self.inside.made)))
