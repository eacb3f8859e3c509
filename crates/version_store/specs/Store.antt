-- A stored history: the state that it begins with, the events since, and the present state, to
-- which they lead. A long history is folded: it begins again with the present state.
use Rattle.std.specs.Prelude.{ℕ, ◌+◌, ◌≡◌, ◌≤◌, ◌⊎◌, nat_le, ◌&&◌, Bool, true, false, List, [], ◌∷◌, ◌++◌, length, Some, is_some, if◌then◌else◌}
use Rattle.std.specs.List.{AllByRecursion, sum_by}
use Rattle.site_rules.specs.Site.{SiteState}
use Rattle.site_core.specs.declared.step.Step.{Step}
use Rattle.site_core.specs.Audit.{AuditState}
use Rattle.site_core.specs.Audits.{AreAuditsRight, IsBegunIn, IsAuditBefore}
use Rattle.site_core.specs.State.{MachineState, Kept, IsMachine, opening, audit_at}
use Rattle.site_core.specs.Step.{Made, Work, AtPoint, Takes, Compiling, Answering, Finishing, work}
use Rattle.site_core.specs.History.{Event, Legal}
use Rattle.site_core.specs.StoredHistory.{StoredEvent, IsStoredAs}
use Rattle.site_core.specs.Counts.{changes_in, answers_in}
use Rattle.site_core.specs.Headline.{KeepsRight, HasItsBook, AnsweredOnceStopped}
use Rattle.version_store.specs.declared.totals.Totals.{Totals}
use Rattle.version_store.specs.Limits.{fold_from, room}
use Rattle.version_store.specs.Passes.{no_totals, totals_after}

pub record StoreState : Type 0 where
  -- the state that the stored history begins with, and the changes and answers until then
  pub base : MachineState
  pub based : Totals
  -- the events since
  pub events : List StoredEvent
  -- the state now, and the changes and answers until now
  pub present : MachineState
  pub made : Totals

abbrev pub opening_store : SiteState → StoreState
opening_store site = record {
  base = opening site;
  based = no_totals;
  events = [];
  present = opening site;
  made = no_totals;
}

-- ---- one more event

-- the history with one more event, and the state and totals after it
abbrev pub with_event : StoreState → StoredEvent → Made → StoreState
with_event old event made = record old {
  events = old.events ++ event ∷ [];
  present = made.after;
  made = totals_after old.made made.reply;
}

-- the history that begins again with the present state
abbrev pub folded : StoreState → StoreState
folded old = record old { base = old.present; based = old.made; events = [] }

-- Compiling, answering and finishing take no memory, so they never fold.
abbrev pub may_fold_for : Work → Bool
may_fold_for (AtPoint at) = true
may_fold_for (Takes take) = true
may_fold_for (Compiling number) = false
may_fold_for (Answering number) = false
may_fold_for Finishing = false

abbrev pub may_fold : Step → Bool
may_fold step = may_fold_for (work step)

-- whether the history is folded before the event of this step
abbrev pub folds : StoreState → Step → Bool
folds old step = may_fold step && nat_le fold_from (length old.events)

abbrev pub folded_for : StoreState → Step → StoreState
folded_for old step = if folds old step then folded old else old

-- ---- the invariant

-- each audit has the book that its point had when it was begun in these events, or it was begun
-- before them
abbrev pub AuditsHaveBooks : MachineState → List Event → MachineState → Type 0
AuditsHaveBooks old events new =
    (place : ℕ) (audit : AuditState) → audit_at new place ≡ Some audit
    → IsBegunIn old events place audit ⊎ IsAuditBefore old place audit

-- The present state is the replay of the base and the stored events, and both are a machine's. The
-- replayed history is legal, and so is the one from the opening state to the base. Each kept
-- request has the book that its Take, or the base, gave it, and each answer is right for its book
-- and its `Ask`. Once the central system is stopped, each has one. Each point's audit has the book
-- that the point had when it was begun, and each verdict is right. The changes and answers are
-- those of these histories.
pub record IsStore (store : StoreState) : Type 0 where
  -- until the base
  pub site : SiteState
  pub earlier : List Event
  pub reached : Legal (opening site) earlier store.base
  pub base_machine : IsMachine store.base
  pub based_changes : store.based.changes ≡ changes_in earlier
  pub based_answers : store.based.answers ≡ answers_in earlier
  -- and since
  pub played : List Event
  pub replays : IsStoredAs store.base played store.present store.events
  pub legal : Legal store.base played store.present
  pub changes : store.made.changes ≡ store.based.changes + changes_in played
  pub answers : store.made.answers ≡ store.based.answers + answers_in played
  -- now
  pub machine : IsMachine store.present
  pub books : AllByRecursion (HasItsBook store.base played) store.present.requests
  pub right : KeepsRight store.present
  pub answered : AnsweredOnceStopped store.present
  pub audited : AuditsHaveBooks store.base played store.present
  pub verdicts : AreAuditsRight store.present

-- the events to come of a kept request: its Compile, unless it has an answer, and its Answer
abbrev pub events_to_come : Kept → ℕ
events_to_come kept = if is_some kept.answer then 1 else 2

-- the Finish to come, unless the central system is stopped
abbrev pub finish_to_come : Bool → ℕ
finish_to_come is_stopped = if is_stopped then 0 else 1

-- the most events to come that never fold
abbrev pub still_to_come : MachineState → ℕ
still_to_come state =
    sum_by events_to_come state.requests + finish_to_come state.is_stopped

-- there is room for these events
abbrev pub HasRoom : StoreState → Type 0
HasRoom store = length store.events + still_to_come store.present ≤ room
