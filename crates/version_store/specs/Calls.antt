-- The effect of a call on the store: one more event, or a reply alone, or nothing.
use Rattle.std.specs.Prelude.{ℕ, ℤ, unsigned_abs, ◌≡◌, ◌<◌, ◌⊎◌, ◌||◌, ◌&&◌, Bool, true, false, List, Option, Some, None, Result, Ok, Err}
use Rattle.ocpp_scalars.specs.declared.instant.Instant.{Instant}
use Rattle.ocpp_scalars.specs.declared.refusal.Refusal.{Refusal}
use Rattle.ocpp_scalars.specs.declared.refusal.Refusal.TheVariants.{OutOfMemory}
use Rattle.profile.specs.declared.charging_profile.Profile.{Profile}
use Rattle.profile.specs.declared.row.Row.{Row}
use Rattle.profile.specs.declared.unit.Unit.{Unit}
use Rattle.messages.specs.declared.call.Call.{Call}
use Rattle.sweep_compiler.specs.Compiled.{CompiledAnswer}
use Rattle.site_core.specs.declared.step.Step.{Step}
use Rattle.site_core.specs.declared.step.Step.TheVariants as steps
use Rattle.site_core.specs.declared.step.Take.{Take}
use Rattle.site_core.specs.declared.reply.Reply.{Reply}
use Rattle.site_core.specs.declared.reply.Reply.TheVariants.{Accepted, Unknown, Started, Repeated, Ended, NoSuch, Compiled, Sent, Nothing}
use Rattle.site_core.specs.State.{ScheduleAnswer}
use Rattle.site_core.specs.Step.{Made, stepped, no_answer, is_event, unchanged, wants_memory}
use Rattle.site_core.specs.StoredHistory.{StoredEvent, made_of}
use Rattle.site_core.specs.Post.{Posts}
use Rattle.version_store.specs.Passes.{PassState, pass_after}
use Rattle.version_store.specs.Store.{StoreState, with_event, folded_for, folds}

-- One event is added, after a fold if one was due; the state and the reply are the machine's for
-- this event.
pub record Adds (old : StoreState) (stored : StoredEvent) (reply : Reply) (new : StoreState)
    : Type 0 where
  pub made : made_of old.present stored ≡ Ok (record { reply = reply; after = new.present })
  pub event : is_event old.present reply ≡ true
  pub history : new ≡ with_event (folded_for old stored.step) stored
      (record { reply = reply; after = new.present })

-- the machine's reply alone, which is no event
pub record RepliesAlone (old : StoreState) (step : Step) (reply : Reply) (new : StoreState)
    : Type 0 where
  pub made : stepped no_answer old.present step ≡ Ok (unchanged old.present reply)
  pub no_event : is_event old.present reply ≡ false
  pub kept : new ≡ old

-- the event of a step that brings no answer
abbrev pub event_alone : Step → StoredEvent
event_alone step = record { step = step; answer = no_answer }

-- the event of a Compile, with the answer that it brought
abbrev pub compile_event : ℕ → ScheduleAnswer → StoredEvent
compile_event number answer = record { step = steps.Compile number; answer = answer }

abbrev pub Makes : StoreState → Step → Reply → StoreState → Type 0
Makes old step reply new = Adds old (event_alone step) reply new ⊎ RepliesAlone old step reply new

-- whether a step with this reply may need memory: for itself, or for the fold before its event
abbrev pub may_want_memory : StoreState → Step → Reply → Bool
may_want_memory old step reply =
    wants_memory reply || (is_event old.present reply && folds old step)

-- Nothing is made, for the machine's first cause, or because memory ran out, if the step may need
-- some.
abbrev pub IsRefusalTo : StoreState → Step → Result Made Refusal → Refusal → Type 0
IsRefusalTo old step (Err cause) refusal = refusal ≡ cause
IsRefusalTo old step (Ok made) refusal =
    (may_want_memory old step made.reply ≡ true) × (refusal ≡ OutOfMemory)

abbrev pub IsRefusalOf : StoreState → Step → Refusal → Type 0
IsRefusalOf old step refusal = IsRefusalTo old step (stepped no_answer old.present step) refusal

-- a call of a session: its effect, and the counts of its pass after it
pub record Calls (old : StoreState) (was : PassState) (step : Step) (reply : Reply)
    (new : StoreState) (pass : PassState) : Type 0 where
  pub makes : Makes old step reply new
  pub counts : pass ≡ pass_after was reply new.present.numbers.version

-- an answer is posted, and is stored in the event
pub record PostsTo (old : StoreState) (number : ℕ) (brought : CompiledAnswer) (new : StoreState)
    : Type 0 where
  pub posts : Posts old.present number brought new.present
  pub adds : Adds old (compile_event number brought.answer) Compiled new

-- ---- the results of the calls of sessions

-- the row that a profile becomes at a connector, installed at a moment
abbrev pub row_of : ℕ → Instant → Profile → Row
row_of connector moment profile =
    record { connector = connector; moment = moment; profile = profile }

-- the reply to a clear: whether a profile matched
abbrev pub clearing : Bool → Reply
clearing true = Accepted
clearing false = Unknown

-- the reply to the end of a transaction: whether it was active
abbrev pub ending : Bool → Reply
ending true = Ended
ending false = NoSuch

-- A start returns the number of the transaction that began, or of the one that is retransmitted.
-- This system draws them from 1 on.
pub record StartsAs (old : StoreState) (was : PassState) (step : Step) (given : ℕ)
    (new : StoreState) (pass : PassState) : Type 0 where
  pub id : ℤ
  pub number : given ≡ unsigned_abs id
  pub calls : Calls old was step (Started id) new pass ⊎ Calls old was step (Repeated id) new pass

-- a Take with the version that its session has seen
abbrev pub take_of : List ℕ → ℕ → Instant → ℕ → Option Unit → PassState → Take
take_of point connector start duration unit was = record {
  point = point;
  connector = connector;
  start = start;
  duration = duration;
  unit = unit;
  seen = was.seen;
}

-- A Take is behind if its session has seen a newer version than the store's: a session never goes
-- back from a later store to an older one.
pub record IsBehind (version newest : ℕ) (seen found : ℕ) : Type 0 where
  pub seen_is : seen ≡ newest
  pub found_is : found ≡ version
  pub older : version < newest

-- the reply to a sending: the call, or Nothing
abbrev pub sending : Option Call → Reply
sending None = Nothing
sending (Some call) = Sent call
