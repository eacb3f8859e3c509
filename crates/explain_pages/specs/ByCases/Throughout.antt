-- Of private clauses: how long a reason continues to hold for a row at a connector.
use Rattle.std.specs.Prelude.{◌≡◌, ℕ, ◌+◌, ◌<◌, ◌≤◌, true, Option, Some, None}
use Rattle.meaning.specs.View.{point_state}
use Rattle.meaning.specs.Cause.{RowLimit, level_of}
use Rattle.meaning.specs.declared.cause.WhyNot.{WhyNot}
use Rattle.explain_pages.specs.declared.explained_request.NotCountedReason.{NotCountedReason}
use Rattle.explain_pages.specs.declared.explained_request.NotCountedReason.TheVariants.{NotLeast, BehindOthers}
use Rattle.explain_pages.specs.declared.row_at_connector.RowInRequest.{RowInRequest}
use Rattle.explain_pages.specs.declared.row_at_connector.RowAtConnector.{RowAtConnector}
use Rattle.explain_pages.specs.NotCounted.{holds_for, SaysAt, LooksAt, PrevailsOnce}

-- a fact about each number from one up to another, which is excluded
pub record IsSoUntil (fact : ℕ → Type 0) (from until : ℕ) : Type 0 where
  pub later : from < until
  pub each : (k : ℕ) → from ≤ k → k < until → fact k

-- a reason why a row doesn't prevail holds
abbrev pub Holds : WhyNot → RowAtConnector → ℕ → Type 0
Holds why checked second =
    holds_for why (point_state checked.view) checked.at checked.ask.start second checked.row.now
    ≡ true

-- a row of a purpose prevails, and has at least this stack level
pub record Reaches (least : ℕ) (given : Option RowLimit) : Type 0 where
  pub best : RowLimit
  pub is : given ≡ Some best
  pub high : least ≤ level_of best

-- a reason holds for a row at the connector for which it is checked
abbrev pub Says : NotCountedReason → RowAtConnector → ℕ → Type 0
Says reason checked second =
    SaysAt reason (point_state checked.view) checked.connector checked.ask.start second
    checked.row.now

-- a reason may fail at an instant: if it is BehindOthers, the row prevails then; nothing is claimed
-- of other reasons
abbrev pub Fails : NotCountedReason → RowAtConnector → ℕ → Type 0
Fails reason checked second = reason ≡ BehindOthers → Says NotLeast checked second

-- a second of a request at which a reason may fail, or the fact that it holds at each
pub record IsFailing (reason : NotCountedReason) (checked : RowAtConnector) (second : ℕ)
    : Type 0 where
  pub from : checked.ask.start ≤ second
  pub before : second < checked.ask.start + checked.ask.duration
  pub fails : Fails reason checked second

abbrev pub FirstFailing : NotCountedReason → RowAtConnector → Option ℕ → Type 0
FirstFailing reason checked None =
    (second : ℕ) → checked.ask.start ≤ second
    → second < checked.ask.start + checked.ask.duration
    → Says reason checked second
FirstFailing reason checked (Some second) = IsFailing reason checked second

-- ---- over the connectors for which a row is checked

-- a reason holds for a row at a connector
abbrev pub SaysOf : NotCountedReason → RowInRequest → ℕ → ℕ → Type 0
SaysOf reason row connector second =
    SaysAt reason (point_state row.view) connector row.ask.start second row.row.now

-- the row as it is checked for a connector: a reason that holds for it holds at that connector
pub record IsOf (asked : RowInRequest) (number : ℕ) (checked : RowAtConnector) : Type 0 where
  pub ask : checked.ask ≡ asked.ask
  pub says :
      (reason : NotCountedReason) (second : ℕ) → Says reason checked second
      → SaysOf reason asked number second

-- a connector for which a row is checked
abbrev pub IsLookedAt : RowInRequest → ℕ → Type 0
IsLookedAt row connector = LooksAt (point_state row.view) row.ask.connector row.row.now connector

-- one of them, or the fact that there is none
abbrev pub FoundConnector : RowInRequest → Option ℕ → Type 0
FoundConnector row None = (connector : ℕ) → ¬ (IsLookedAt row connector)
FoundConnector row (Some connector) = IsLookedAt row connector

-- a connector for which a reason may fail at a second
pub record FailsOnce (reason : NotCountedReason) (row : RowInRequest) (second : ℕ) : Type 0 where
  pub connector : ℕ
  pub looked_at : IsLookedAt row connector
  pub from : row.ask.start ≤ second
  pub before : second < row.ask.start + row.ask.duration
  pub fails : reason ≡ BehindOthers → SaysOf NotLeast row connector second

-- a reason holds at each second for each connector for which the row is checked
abbrev pub IsThroughout : NotCountedReason → RowInRequest → Type 0
IsThroughout reason row =
    (connector second : ℕ) → IsLookedAt row connector
    → row.ask.start ≤ second → second < row.ask.start + row.ask.duration
    → SaysOf reason row connector second

-- a reason may fail at some second: if it is BehindOthers, the row prevails there
abbrev pub FailsSomewhere : NotCountedReason → RowInRequest → Type 0
FailsSomewhere reason row =
    reason ≡ BehindOthers → PrevailsOnce (point_state row.view) row.ask row.row.now

-- a connector and a second at which a reason may fail, or the fact that it holds throughout
abbrev pub FoundFailing : NotCountedReason → RowInRequest → Option ℕ → Type 0
FoundFailing reason row None = IsThroughout reason row
FoundFailing reason row (Some second) = FailsOnce reason row second
