-- The contents of a file at its syncs are still there.
use Rattle.std.proofs.Common.{◌≡◌, ℕ, List, [], ◌∷◌, ◌++◌, refl, sym, ap, ◌∙◌, subst, append_assoc}
use Rattle.std.specs.Prelude.{Bool, Option, Some, None}
use Rattle.std.specs.List.{AllByRecursion}
use mathlib.Core.List.{IsPrefix}
use Rattle.append_log.specs.Contents.{Contents, IsFirstPart, file_of, only_synced, with_added}
use Rattle.append_log.specs.History.{History}
use Rattle.site_core.specs.State.{MachineState}
use Rattle.version_store.specs.Recording.{forget}
use Rattle.journal.specs.Account.{Covers, FileState, GoesOn, HasSync, IsAmong, IsGiven, IsNoted, IsWritten, NotedState, ReceiptState, StandsSince, WrittenState, first_of, last_of, nothing_at, receipt_of, texts_of, written_of}
use Rattle.journal.proofs.AccountLemmas.{append_nil, from_itself, lines_added}

-- ---- more bytes

longer : (part bytes more : List ℕ) → IsFirstPart part bytes → IsFirstPart part (bytes ++ more)
longer part bytes more is =
    (is.0 ++ more, ap (λ t. t ++ more) is.1 ∙ append_assoc part is.0 more)

-- the contents at each sync are still there with more bytes after them
stand_on : (start : FileState) (bytes more : List ℕ) (syncs : List FileState)
    → AllByRecursion (StandsSince start bytes) syncs
    → AllByRecursion (StandsSince start (bytes ++ more)) syncs
stand_on start bytes more [] all = all
stand_on start bytes more (file ∷ files) all = (
  record { goes_on = all.0.goes_on; stands = longer file.bytes bytes more all.0.stands },
  stand_on start bytes more files all.1,
)

all_and_one : {A : Type 0} (P : A → Type 0) (xs : List A) (x : A) → AllByRecursion P xs → P x
    → AllByRecursion P (xs ++ x ∷ [])
all_and_one P [] x all one = (one, all)
all_and_one P (y ∷ xs) x all one = (all.0, all_and_one P xs x all.1 one)

all_at : {A : Type 0} (P : A → Type 0) (before : List A) (x : A) (behind : List A)
    → AllByRecursion P (before ++ x ∷ behind) → P x
all_at P [] x behind all = all.0
all_at P (y ∷ before) x behind all = all_at P before x behind all.1

-- ---- a sync

-- the contents of the file on its disk after a sync
abbrev pub synced_now : (written : WrittenState) → FileState
synced_now written = record { bytes = file_of written.contents; states = written.states }

pub is_synced : (written : WrittenState) (files : List FileState) → IsWritten written files
    → IsWritten (record written { contents = only_synced (file_of written.contents) })
    (files ++ synced_now written ∷ [])
is_synced written files is =
    let now = file_of written.contents in record {
      lines = subst (λ (bytes : List ℕ). GoesOn written.start
          (record { bytes = bytes; states = written.states })) (sym (append_nil now)) is.lines;
      next = is.next;
      syncs = is.syncs ++ synced_now written ∷ [];
      files_are = ap (λ (fs : List FileState). fs ++ synced_now written ∷ []) is.files_are;
      stand = all_and_one (StandsSince written.start now) is.syncs (synced_now written)
          (stand_on written.start written.contents.synced written.contents.appended is.syncs is.stand)
          (record { goes_on = is.lines; stands = ([], sym (append_nil now)) });
    }

-- ---- the code's view

pub last_is : (none file : FileState) (before : List FileState) → last_of none (before ++ file ∷ [])
    ≡ file
last_is none file [] = refl
last_is none file (one ∷ before) = last_is one file before

pub first_is : (none start : FileState) (files others : List FileState) → files ≡ start ∷ others
    → first_of none files ≡ start
first_is none start files others are = ap (λ (fs : List FileState). first_of none fs) are

-- the contents that a receipt of a sync shows
pub receipt_is : (recorded : List MachineState) (files : List FileState)
    (sync : HasSync files recorded)
    → receipt_of recorded (Some files) ≡ record { start = sync.start; synced = sync.synced }
receipt_is recorded files sync =
    ap (λ (fs : List FileState). receipt_of recorded (Some fs)) sync.files_are
    ∙ ap (λ (file : FileState). record { start = sync.start; synced = file })
    (last_is sync.start sync.synced sync.before)

-- ---- receipts

pub states_of : (named : Bool) (recorded : List MachineState) (files : Option (List FileState))
    → IsGiven named recorded files → (receipt_of recorded files).synced.states ≡ recorded
states_of named recorded None given = refl
states_of named recorded (Some files) sync =
    ap (λ (r : ReceiptState). r.synced.states) (receipt_is recorded files sync) ∙ sync.states_are

-- the same for a beginning of a file's syncs
pub is_among : (recorded : List MachineState) (known files : List FileState)
    → HasSync known recorded → IsPrefix known files → IsAmong (receipt_of recorded (Some known)) files
is_among recorded known files sync begins =
    subst (λ (r : ReceiptState). IsAmong r files) (sym (receipt_is recorded known sync)) (record {
      before = sync.before;
      behind = begins.0;
      files_are =
          sym begins.1
          ∙ ap (λ (fs : List FileState). fs ++ begins.0) sync.files_are
          ∙ ap (λ (fs : List FileState). sync.start ∷ fs)
          (append_assoc sync.before (sync.synced ∷ []) begins.0);
    })

-- the contents that a receipt was given for have been there since
pub stands_since : (written : WrittenState) (files : List FileState) (receipt : ReceiptState)
    → IsWritten written files → IsAmong receipt files
    → (receipt.start ≡ written.start) × StandsSince written.start written.contents.synced receipt.synced
stands_since written files receipt is among =
    let same : receipt.start ∷ (among.before ++ receipt.synced ∷ among.behind)
    ≡ written.start ∷ is.syncs = sym among.files_are ∙ is.files_are in
    let first : receipt.start ≡ written.start = cc same in
    let rest : among.before ++ receipt.synced ∷ among.behind ≡ is.syncs = cc same in (
      first,
      all_at (StandsSince written.start written.contents.synced) among.before receipt.synced
          among.behind (subst (λ (fs : List FileState). AllByRecursion
          (StandsSince written.start written.contents.synced) fs) (sym rest) is.stand),
    )

-- a receipt covers each beginning of the states that it shows
pub covers : (named : Bool) (recorded others : List MachineState)
    (files : Option (List FileState)) (receipt : ReceiptState)
    → receipt_of recorded files ≡ receipt → IsGiven named recorded files
    → IsPrefix others recorded → Covers named receipt others
covers named recorded others files receipt view given begins = λ state kept ends. (
  ends.0,
  begins.0,
  ap (λ (r : ReceiptState). r.synced.states) (sym view)
      ∙ states_of named recorded files given
      ∙ sym begins.1
      ∙ ap (λ (s : List MachineState). s ++ begins.0) ends.1
      ∙ append_assoc ends.0 (forget state ∷ []) begins.0,
)

pub known_among : (named : Bool) (recorded : List MachineState) (files : Option (List FileState))
    (receipt : ReceiptState) (known all : List FileState) → receipt_of recorded files ≡ receipt
    → IsGiven named recorded files → files ≡ Some known → IsPrefix known all → IsAmong receipt all
known_among named recorded files receipt known all view given is begins =
    let seen : receipt ≡ receipt_of recorded (Some known) =
    sym view ∙ ap (λ (f : Option (List FileState)). receipt_of recorded f) is in
    subst (λ (r : ReceiptState). IsAmong r all) (sym seen)
    (is_among recorded known all
    (subst (λ (f : Option (List FileState)). IsGiven named recorded f) is given) begins)

-- ---- a file's calls

-- a file begins with its contents at the start
pub begun_so : (contents : Contents) (history : History) (states : List MachineState)
    (taken : NotedState) (files : List FileState)
    → files ≡ (record { bytes = file_of contents; states = states }) ∷ [] → taken.first ≡ states
    → IsWritten (written_of contents history states taken files) files
begun_so contents history states taken files are next =
    let start : FileState = record { bytes = file_of contents; states = states } in
    subst (λ (fs : List FileState). IsWritten (written_of contents history states taken fs) fs) (sym are)
    (record {
      lines = from_itself start;
      next = next;
      syncs = [];
      files_are = refl;
      stand = tt;
    })

-- lines are added
pub added_so : (old new : Contents) (before after : History) (states copied : List MachineState)
    (taken cleared : NotedState) (files : List FileState) (lines : List ℕ)
    → IsWritten (written_of old before states taken files) files
    → IsNoted taken → lines ≡ texts_of taken.entries → new ≡ with_added old lines
    → copied ≡ taken.last → cleared.first ≡ taken.last
    → IsWritten (written_of new after copied cleared files) files
added_so old new before after states copied taken cleared files lines is noted lines_are added
    last first =
    let start = first_of (nothing_at states) files in
    let same : first_of (nothing_at copied) files ≡ start =
    ap (λ (fs : List FileState). first_of (nothing_at copied) fs) is.files_are in
    let synced : new.synced ≡ old.synced = ap (λ (c : Contents). c.synced) added in
    subst (λ (s : FileState). IsWritten
    (record { start = s; contents = new; history = after; states = copied; taken = cleared }) files)
    (sym same)
    (record {
      lines = subst (λ (r : List MachineState). GoesOn start
          (record { bytes = file_of new; states = r })) (sym last)
          (lines_added start old new states taken lines is.lines is.next noted lines_are added);
      next = first ∙ sym last;
      syncs = is.syncs;
      files_are = is.files_are;
      stand = subst (λ (b : List ℕ). AllByRecursion (StandsSince start b) is.syncs) (sym synced)
          is.stand;
    })

-- the invariant doesn't mention the history
moved : (contents : Contents) (before after : History) (states : List MachineState)
    (taken : NotedState) (files : List FileState)
    → IsWritten (written_of contents before states taken files) files
    → IsWritten (written_of contents after states taken files) files
moved contents before after states taken files is = record {
  lines = is.lines;
  next = is.next;
  syncs = is.syncs;
  files_are = is.files_are;
  stand = is.stand;
}

-- all is synced
pub synced_so : (old new : Contents) (before after : History) (states : List MachineState)
    (taken : NotedState) (files others : List FileState)
    → IsWritten (written_of old before states taken files) files
    → new ≡ only_synced (file_of old)
    → others ≡ files ++ (record { bytes = file_of new; states = states }) ∷ []
    → IsWritten (written_of new after states taken others) others
synced_so old new before after states taken files others is made added =
    let written = written_of old after states taken files in
    let now = synced_now written in
    let bytes : file_of new ≡ file_of old =
    ap (λ (c : Contents). file_of c) made ∙ append_nil (file_of old) in
    let others_are : others ≡ files ++ now ∷ [] =
    added ∙ ap (λ (b : List ℕ). files ++ (record { bytes = b; states = states }) ∷ []) bytes in
    let start : first_of (nothing_at states) (files ++ now ∷ []) ≡ written.start =
    ap (λ (fs : List FileState). first_of (nothing_at states) (fs ++ now ∷ [])) is.files_are in
    subst (λ (fs : List FileState). IsWritten (written_of new after states taken fs) fs) (sym others_are)
    (subst (λ (s : FileState). IsWritten
    (record { start = s; contents = new; history = after; states = states; taken = taken })
    (files ++ now ∷ [])) (sym start)
    (subst (λ (c : Contents). IsWritten
    (record {
      start = written.start;
      contents = c;
      history = after;
      states = states;
      taken = taken;
    })
    (files ++ now ∷ [])) (sym made) (is_synced written files (moved old before after states taken files is))))

-- and the receipt shows just these contents
pub receipt_so : (old new : Contents) (states copied : List MachineState)
    (files others front : List FileState) (receipt : ReceiptState)
    → new ≡ only_synced (file_of old)
    → others ≡ files ++ (record { bytes = file_of new; states = states }) ∷ []
    → copied ≡ states → front ≡ others → receipt ≡ receipt_of copied (Some front)
    → receipt ≡ record {
      start = first_of (nothing_at states) others;
      synced = record { bytes = new.synced; states = states };
    }
receipt_so old new states copied files others front receipt made added same known given =
    let file : FileState = record { bytes = file_of new; states = states } in
    let bytes : file_of new ≡ new.synced =
    ap (λ (c : Contents). file_of c) made ∙ append_nil (file_of old)
    ∙ sym (ap (λ (c : Contents). c.synced) made) in
    given
    ∙ ap (λ (r : List MachineState). receipt_of r (Some front)) same
    ∙ ap (λ (fs : List FileState). receipt_of states (Some fs)) known
    ∙ ap (λ (f : FileState). record { start = first_of (nothing_at states) others; synced = f })
    (ap (λ (fs : List FileState). last_of (nothing_at states) fs) added
    ∙ last_is (nothing_at states) file files
    ∙ ap (λ (b : List ℕ). record { bytes = b; states = states }) bytes)
