-- The states that the lines of a journal account for: each line leads from one recorded state to
-- the next.
use Rattle.std.specs.Prelude.{ℕ, ◌≡◌, ◌⊎◌, Bool, true, false, List, [], ◌∷◌, ◌++◌, flat_map, Option, Some, None, Ok}
use Rattle.std.specs.List.{AllByRecursion}
use Rattle.append_log.specs.Contents.{Contents, IsFirstPart, MayLeave, file_of}
use Rattle.append_log.specs.History.{AtEachMoment, History}
use Rattle.site_core.specs.State.{MachineState}
use Rattle.journal.specs.Entry.{IsEntryOf, entry_text, numbered}
use Rattle.journal.specs.Line.{LineState, line_text}
use Rattle.journal.specs.Restore.{restored, restored_lines}
use Rattle.version_store.specs.Recording.{EndsAt, HasState, IsNextOf, forget}
use Rattle.journal.specs.declared.numbered_entry.NumberedEntry.{NumberedEntry}

-- the lines of entries
abbrev pub texts_of : List NumberedEntry → List ℕ
texts_of entries = flat_map (λ (e : NumberedEntry). entry_text e.entry e.number) entries

-- An entry is a line that leads from the last recorded state to the next one.
pub record LeadsOn (entry : NumberedEntry) (states later : List MachineState) : Type 0 where
  pub line : LineState
  pub entry_is : IsEntryOf entry.entry line
  pub old : MachineState
  pub new : MachineState
  pub was : EndsAt states old
  pub is : EndsAt later new
  pub is_next : IsNextOf states later
  pub leads : restored old (numbered line entry.number) ≡ Ok new

-- Entries lead, one after another, from the last of the states recorded first to the last of the
-- later ones.
pub data AccountsFor : List MachineState → List NumberedEntry → List MachineState → Type 0 where
  nothing : (states : List MachineState) → AccountsFor states [] states
  more : (first states later : List MachineState) (entries : List NumberedEntry)
      (entry : NumberedEntry)
      → AccountsFor first entries states → LeadsOn entry states later
      → AccountsFor first (entries ++ entry ∷ []) later

-- steps that were noted, and not written yet
pub record NotedState : Type 0 where
  -- the states recorded before the first of them
  pub first : List MachineState
  pub entries : List NumberedEntry
  -- the states recorded with the last one
  pub last : List MachineState

abbrev pub IsNoted : NotedState → Type 0
IsNoted noted = AccountsFor noted.first noted.entries noted.last

-- ---- the contents of a file

-- the bytes of a file, and the states recorded by its last line
pub record FileState : Type 0 where
  pub bytes : List ℕ
  pub states : List MachineState

-- The bytes of a file at the start are followed by the lines of entries, which lead on from the
-- states recorded then.
pub record GoesOn (start later : FileState) : Type 0 where
  pub entries : List NumberedEntry
  pub bytes_are : later.bytes ≡ start.bytes ++ texts_of entries
  pub accounts : AccountsFor start.states entries later.states

-- the contents that a receipt shows: those of a file at the start, and those on its disk at a sync
pub record ReceiptState : Type 0 where
  pub start : FileState
  pub synced : FileState

-- the contents for a book whose states aren't recorded
abbrev pub nothing_at : List MachineState → FileState
nothing_at states = record { bytes = []; states = states }

-- If states are recorded, the last of some is among those of a receipt.
abbrev pub Covers : Bool → ReceiptState → List MachineState → Type 0
Covers is_recorded receipt states =
    (state : MachineState) → is_recorded ≡ true → EndsAt states state
    → HasState receipt.synced.states state

-- ---- the meaning of entries

-- Entries are lines that a restart restores: they lead from the one state to the other, except for
-- requests, which no line keeps.
pub record AreRestored (entries : List NumberedEntry) (old new : MachineState) : Type 0 where
  pub lines : List LineState
  pub texts_are : texts_of entries ≡ flat_map line_text lines
  pub leads : restored_lines (forget old) lines ≡ Ok (forget new)

abbrev pub EntriesAreRestored : Type 0
EntriesAreRestored =
    (first last : List MachineState) (entries : List NumberedEntry) (old new : MachineState)
    → AccountsFor first entries last → EndsAt first old → EndsAt last new
    → AreRestored entries old new

-- The bytes that are left of a file begin with its bytes at the start. Then come lines that lead
-- from the state of the start to this one. Or the state was recorded before the start.
pub record Survives (start : FileState) (old : MachineState) (left : List ℕ) (state : MachineState)
    : Type 0 where
  pub lines : List LineState
  pub left_are : IsFirstPart (start.bytes ++ flat_map line_text lines) left
  pub leads : HasState start.states state
      ⊎ (restored_lines (forget old) lines ≡ Ok (forget state))

-- A file has on its disk the contents that a receipt shows. Whatever a crash leaves of it, each
-- state that the receipt shows survives.
abbrev pub AnsweredSurvives : Type 0
AnsweredSurvives =
    (receipt : ReceiptState) (contents : Contents) (left : List ℕ) (old state : MachineState)
    → GoesOn receipt.start receipt.synced → IsFirstPart receipt.synced.bytes contents.synced
    → MayLeave contents left → EndsAt receipt.start.states old
    → HasState receipt.synced.states state → Survives receipt.start old left state

-- The same at each moment of a call, if the bytes left at each moment may be left of such a file.
abbrev pub AnsweredSurvivesCalls : Type 0
AnsweredSurvivesCalls =
    (receipt : ReceiptState) (contents : Contents) (before after : History)
    (old state : MachineState)
    → GoesOn receipt.start receipt.synced → IsFirstPart receipt.synced.bytes contents.synced
    → AtEachMoment (MayLeave contents) before after → EndsAt receipt.start.states old
    → HasState receipt.synced.states state
    → AtEachMoment (λ left. Survives receipt.start old left state) before after

-- ---- the file

-- a file's lines, and the steps that were taken to be written to it
pub record WrittenState : Type 0 where
  -- the contents of the file at the start
  pub start : FileState
  pub contents : Contents
  -- the contents of the file at each moment so far
  pub history : History
  -- the states recorded by its last line
  pub states : List MachineState
  pub taken : NotedState

-- the contents of a file at a sync: they go on from the start, and have been on the disk since
pub record StandsSince (start : FileState) (bytes : List ℕ) (synced : FileState) : Type 0 where
  pub goes_on : GoesOn start synced
  pub stands : IsFirstPart synced.bytes bytes

-- The invariant: the lines lead to the states, the taken steps lead on from there, and the contents
-- at each sync are still on the disk.
pub record IsWritten (written : WrittenState) (files : List FileState) : Type 0 where
  pub lines : GoesOn written.start
      (record { bytes = file_of written.contents; states = written.states })
  pub next : written.taken.first ≡ written.states
  pub syncs : List FileState
  pub files_are : files ≡ written.start ∷ syncs
  pub stand : AllByRecursion (StandsSince written.start written.contents.synced) syncs

-- ---- the code's view: the contents of a file at the start, and then at each sync

abbrev pub first_of : FileState → List FileState → FileState
first_of none [] = none
first_of none (file ∷ files) = file

abbrev pub last_of : FileState → List FileState → FileState
last_of none [] = none
last_of none (file ∷ files) = last_of file files

abbrev pub written_of : Contents → History → List MachineState → NotedState → List FileState
    → WrittenState
written_of contents history states taken files = record {
  start = first_of (nothing_at states) files;
  contents = contents;
  history = history;
  states = states;
  taken = taken;
}

abbrev pub receipt_of : List MachineState → Option (List FileState) → ReceiptState
receipt_of states None =
    record { start = nothing_at states; synced = nothing_at states }
receipt_of states (Some files) = record {
  start = first_of (nothing_at states) files;
  synced = last_of (nothing_at states) files;
}

-- the last of a file's syncs was with these states
pub record HasSync (files : List FileState) (states : List MachineState) : Type 0 where
  pub start : FileState
  pub before : List FileState
  pub synced : FileState
  pub files_are : files ≡ start ∷ (before ++ synced ∷ [])
  pub states_are : synced.states ≡ states
  pub goes_on : GoesOn start synced

-- a receipt was given at one of a file's syncs
pub record IsAmong (receipt : ReceiptState) (files : List FileState) : Type 0 where
  pub before : List FileState
  pub behind : List FileState
  pub files_are : files ≡ receipt.start ∷ (before ++ receipt.synced ∷ behind)

-- the invariant of a receipt
abbrev pub IsGiven : Bool → List MachineState → Option (List FileState) → Type 0
IsGiven is_recorded states None = is_recorded ≡ false
IsGiven is_recorded states (Some files) = HasSync files states
