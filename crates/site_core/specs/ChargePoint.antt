-- The state that the central system keeps of a charge point, and the effect of a step there. A step
-- of a point can't see other points or requests. `record old { .. }` is the point with these fields
-- changed and all others unchanged.
use Rattle.std.specs.Prelude.{ℕ, ℤ, ◌-◌, Bool, false, List, [], Option, Some, None, slice_set}
use Rattle.profile.specs.declared.charging_profile.Profile.{Profile}
use Rattle.profile.specs.declared.row.Row.{Row}
use Rattle.profile.specs.declared.criteria.Criteria.{Criteria}
use Rattle.profile.specs.declared.unit.Unit.{Unit}
use Rattle.profile.specs.Changes.{installed, cleared, without_transaction_profiles}
use Rattle.transactions.specs.declared.begin.Begin.{Begin}
use Rattle.transactions.specs.declared.transaction.Transaction.{Transaction}
use Rattle.messages.specs.declared.call.CallBody.{CallBody}
use Rattle.messages.specs.declared.call.CallBody.TheVariants as bodies
use Rattle.site_rules.specs.Site.{PointEntry}
use Rattle.point_book.specs.Book.{BookState, empty_book}
use Rattle.point_book.specs.Changes.{rows_started}
use Rattle.sweep_compiler.specs.declared.verdict.Verdict.{Verdict}
use Rattle.site_core.specs.Audit.{AuditState, begun_audit, judged_audit}
use Rattle.site_core.specs.Outbox.{OutboxState, opening_outbox, first_unconfirmed, Traffic, Attach, Lose, Add, Send, Confirm, after}
use Rattle.site_core.specs.declared.waiting_starts.WaitingStart.{WaitingStart}
use Rattle.site_core.specs.WaitingStart.{with_waiting, after_reply, ended_start, without_ended}
use Rattle.site_core.specs.declared.deliveries.Delivery.{Delivery}
use Rattle.site_core.specs.Delivery.{with_delivery, deliveries_after_reply, lost_after_audit}

pub record ChargePointState : Type 0 where
  -- its ceilings, profiles and transactions
  pub book : BookState
  -- the link to it, and its unconfirmed calls
  pub outbox : OutboxState
  -- its audit, once it was audited
  pub audit : Option AuditState
  -- the starts that were requested from it, and that no transaction has ended
  pub waiting : List WaitingStart
  -- the calls that bring its profiles to it
  pub deliveries : List Delivery
  -- when it last booted
  pub booted : Option ℕ
  -- it may have lost the profiles that came by calls before this one
  pub lost_before : ℕ

-- a point with nothing installed, no active transaction and no link, to which call 0 is to be sent
abbrev pub opening_point : PointEntry → ChargePointState
opening_point point =
    record {
      book = empty_book point.ceiling point.ceilings;
      outbox = opening_outbox;
      audit = None;
      waiting = [];
      deliveries = [];
      booted = None;
      lost_before = 0;
    }

-- ---- the effect of a step at a point

-- A deed determines everything about the effect of a step at its point: the point after it, the
-- call to the point, and the laws over histories.
pub data Deed : Type 0 where
  -- a profile is installed, and the point is called to install it (OCPP 1.6, 5.16)
  Installs : (row : Row) → Deed
  -- the matching profiles are cleared, and the point is called to clear them (OCPP 1.6, 5.5)
  Clears : (criteria : Criteria) → Deed
  -- a transaction of a number begins at a connector (OCPP 1.6, 4.8), and takes the place of the one
  -- before it, which ends with its TxProfiles (3.13); it may begin with a profile (5.11)
  Starts : (connector : ℕ) (begin : Begin) (number : ℤ) (profile : Option Profile) → Deed
  -- the transaction at a connector ends (OCPP 1.6, 4.10) with its TxProfiles (3.13)
  Stops : (connector : ℕ) → Deed
  -- the point has a new link
  Attaches : (link : ℕ) → Deed
  -- the point loses its link
  Loses : Deed
  -- the first call goes out
  Sends : Deed
  -- the point has replied to the call of a number, and says whether it accepts
  Confirms : (number : ℕ) (accepted : Bool) → Deed
  -- the point is called for its schedule of a connector over `duration` seconds (OCPP 1.6, 5.7),
  -- and its present book is kept
  Audits : (connector duration : ℕ) (unit : Unit) → Deed
  -- its reply to that call gets this verdict
  Judges : (verdict : Verdict) → Deed
  -- the point is called to start a transaction of an idTag at a connector, with a profile if one is
  -- given (OCPP 1.6, 5.11), and that start waits
  RemoteStarts : (connector : ℕ) (id_tag : List ℕ) (profile : Option Profile) → Deed
  -- the point has booted at a moment (OCPP 1.6, 4.2), and may have lost its profiles
  Boots : (moment : ℕ) → Deed

-- the point's profiles after a deed
abbrev pub rows_after : List Row → Deed → List Row
rows_after rows (Installs row) = installed rows row
rows_after rows (Clears criteria) = cleared rows criteria
rows_after rows (Starts connector begin number profile) =
    rows_started rows connector begin number profile
rows_after rows (Stops connector) = without_transaction_profiles rows connector
rows_after rows (Attaches link) = rows
rows_after rows Loses = rows
rows_after rows Sends = rows
rows_after rows (Confirms number accepted) = rows
rows_after rows (Audits connector duration unit) = rows
rows_after rows (Judges verdict) = rows
rows_after rows (RemoteStarts connector id_tag profile) = rows
rows_after rows (Boots moment) = rows

-- its transactions after a deed
abbrev pub transactions_after : List (Option Transaction) → Deed → List (Option Transaction)
transactions_after active (Starts connector begin number profile) =
    slice_set active (connector - 1) (Some (record { id = number; begin = begin }))
transactions_after active (Stops connector) = slice_set active (connector - 1) None
transactions_after active (Installs row) = active
transactions_after active (Clears criteria) = active
transactions_after active (Attaches link) = active
transactions_after active Loses = active
transactions_after active Sends = active
transactions_after active (Confirms number accepted) = active
transactions_after active (Audits connector duration unit) = active
transactions_after active (Judges verdict) = active
transactions_after active (RemoteStarts connector id_tag profile) = active
transactions_after active (Boots moment) = active

-- The traffic of its outbox: a call that is added, or a change of its link or of the first call.
-- The point itself knows that a transaction begins or ends, and that it has booted.
abbrev pub traffic_of : Deed → Option Traffic
traffic_of (Installs row) = Some (Add (bodies.Set row.connector row.profile))
traffic_of (Clears criteria) = Some (Add (bodies.Clear criteria))
traffic_of (Starts connector begin number profile) = None
traffic_of (Stops connector) = None
traffic_of (Attaches link) = Some (Attach link)
traffic_of Loses = Some Lose
traffic_of Sends = Some Send
traffic_of (Confirms number accepted) = Some (Confirm number)
traffic_of (Audits connector duration unit) = Some (Add (bodies.Audit connector duration unit))
traffic_of (Judges verdict) = None
traffic_of (RemoteStarts connector id_tag profile) =
    Some (Add (bodies.RemoteStart connector id_tag profile))
traffic_of (Boots moment) = None

-- the call that brings it to the point, if there is one
abbrev pub call_in : Option Traffic → Option CallBody
call_in (Some (Add body)) = Some body
call_in other = None

abbrev pub call_of : Deed → Option CallBody
call_of deed = call_in (traffic_of deed)

-- the profiles of a point after it obeys a call at a moment
abbrev pub rows_by_call : ℕ → CallBody → List Row → List Row
rows_by_call moment (bodies.Set connector profile) rows =
    installed rows (record { connector = connector; moment = moment; profile = profile })
rows_by_call moment (bodies.Clear criteria) rows = cleared rows criteria
rows_by_call moment (bodies.Audit connector duration unit) rows = rows
rows_by_call moment (bodies.RemoteStart connector id_tag profile) rows = rows

-- its audit after a deed: an audit replaces the one before it
abbrev pub audit_after : ChargePointState → Deed → Option AuditState
audit_after old (Audits connector duration unit) =
    Some (begun_audit old.outbox.next old.book connector duration unit)
audit_after old (Judges verdict) = judged_audit old.book.transactions verdict old.audit
audit_after old (Installs row) = old.audit
audit_after old (Clears criteria) = old.audit
audit_after old (Starts connector begin number profile) = old.audit
audit_after old (Stops connector) = old.audit
audit_after old (Attaches link) = old.audit
audit_after old Loses = old.audit
audit_after old Sends = old.audit
audit_after old (Confirms number accepted) = old.audit
audit_after old (RemoteStarts connector id_tag profile) = old.audit
audit_after old (Boots moment) = old.audit

-- the starts that wait after a deed
abbrev pub waiting_after : ChargePointState → Deed → List WaitingStart
waiting_after old (RemoteStarts connector id_tag profile) = with_waiting old.waiting (record {
  connector = connector;
  call = old.outbox.next;
  id_tag = id_tag;
  profile = profile;
})
waiting_after old (Starts connector begin number profile) =
    without_ended (ended_start old.outbox old.waiting connector) old.waiting
waiting_after old (Confirms number accepted) = after_reply number accepted old.waiting
waiting_after old (Installs row) = old.waiting
waiting_after old (Clears criteria) = old.waiting
waiting_after old (Stops connector) = old.waiting
waiting_after old (Attaches link) = old.waiting
waiting_after old Loses = old.waiting
waiting_after old Sends = old.waiting
waiting_after old (Audits connector duration unit) = old.waiting
waiting_after old (Judges verdict) = old.waiting
waiting_after old (Boots moment) = old.waiting

-- a profile comes to the point by a call; a transaction's own came with the start that it ends
abbrev pub brought_by : ChargePointState → Profile → ℕ → List Delivery
brought_by old profile call = with_delivery old.book.rows old.deliveries (record {
  profile = profile.id;
  call = call;
  is_rejected = false;
})

abbrev pub brought_at_start : ChargePointState → Option Profile → Option WaitingStart
    → List Delivery
brought_at_start old (Some profile) (Some start) = brought_by old profile start.call
brought_at_start old profile start = old.deliveries

-- its deliveries after a deed
abbrev pub deliveries_after : ChargePointState → Deed → List Delivery
deliveries_after old (Installs row) = brought_by old row.profile old.outbox.next
deliveries_after old (Starts connector begin number profile) =
    brought_at_start old profile (ended_start old.outbox old.waiting connector)
deliveries_after old (Confirms number accepted) =
    deliveries_after_reply number accepted old.deliveries
deliveries_after old (Clears criteria) = old.deliveries
deliveries_after old (Stops connector) = old.deliveries
deliveries_after old (Attaches link) = old.deliveries
deliveries_after old Loses = old.deliveries
deliveries_after old Sends = old.deliveries
deliveries_after old (Audits connector duration unit) = old.deliveries
deliveries_after old (Judges verdict) = old.deliveries
deliveries_after old (RemoteStarts connector id_tag profile) = old.deliveries
deliveries_after old (Boots moment) = old.deliveries

-- the moment of its last boot after a deed
abbrev pub booted_after : Option ℕ → Deed → Option ℕ
booted_after old (Boots moment) = Some moment
booted_after old (Installs row) = old
booted_after old (Clears criteria) = old
booted_after old (Starts connector begin number profile) = old
booted_after old (Stops connector) = old
booted_after old (Attaches link) = old
booted_after old Loses = old
booted_after old Sends = old
booted_after old (Confirms number accepted) = old
booted_after old (Audits connector duration unit) = old
booted_after old (Judges verdict) = old
booted_after old (RemoteStarts connector id_tag profile) = old

-- The first call whose profile it can't have lost, after a deed. A point that boots may have lost
-- all that came by a call which it had confirmed.
abbrev pub lost_before_after : ChargePointState → Deed → ℕ
lost_before_after old (Boots moment) = first_unconfirmed old.outbox
lost_before_after old (Judges verdict) =
    lost_after_audit (judged_audit old.book.transactions verdict old.audit) old.lost_before
lost_before_after old (Installs row) = old.lost_before
lost_before_after old (Clears criteria) = old.lost_before
lost_before_after old (Starts connector begin number profile) = old.lost_before
lost_before_after old (Stops connector) = old.lost_before
lost_before_after old (Attaches link) = old.lost_before
lost_before_after old Loses = old.lost_before
lost_before_after old Sends = old.lost_before
lost_before_after old (Confirms number accepted) = old.lost_before
lost_before_after old (Audits connector duration unit) = old.lost_before
lost_before_after old (RemoteStarts connector id_tag profile) = old.lost_before

-- ---- the point after a deed

abbrev pub book_after : BookState → Deed → BookState
book_after book deed = record book {
  rows = rows_after book.rows deed;
  transactions = transactions_after book.transactions deed;
}

abbrev pub outbox_with : Option Traffic → OutboxState → OutboxState
outbox_with None outbox = outbox
outbox_with (Some traffic) outbox = after outbox traffic

abbrev pub point_after : ChargePointState → Deed → ChargePointState
point_after old deed = record old {
  book = book_after old.book deed;
  outbox = outbox_with (traffic_of deed) old.outbox;
  audit = audit_after old deed;
  waiting = waiting_after old deed;
  deliveries = deliveries_after old deed;
  booted = booted_after old.booted deed;
  lost_before = lost_before_after old deed;
}

-- the point after a step with a deed there, or without one
abbrev pub point_with : Option Deed → ChargePointState → ChargePointState
point_with None old = old
point_with (Some deed) old = point_after old deed
