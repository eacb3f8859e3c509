-- The contents of a file, now and before, so that a clause can speak of a crash at any moment.
use Rattle.std.specs.Prelude.{ℕ, ◌≡◌, ◌+◌, List, [], ◌∷◌, ◌++◌}
use Rattle.std.specs.List.{AllByRecursion}
use Rattle.append_log.specs.Contents.{Contents, MayLeave}

pub record History : Type 0 where
  pub now : Contents
  -- the earlier contents, the newest first
  pub past : List Contents
  -- how often the device was full
  pub refusals : ℕ

-- after one more change
abbrev pub changed : History → Contents → History
changed history next = record history { now = next; past = history.now ∷ history.past }

-- after one more write that found a full device
abbrev pub refused : History → History
refused history = record (changed history history.now) { refusals = history.refusals + 1 }

-- all bytes that a crash may leave of these contents have P
abbrev pub LeavesOnly : (List ℕ → Type 0) → Contents → Type 0
LeavesOnly P contents = (left : List ℕ) → MayLeave contents left → P left

-- A crash at any moment from the old history to the new one leaves only bytes that have P.
pub record AtEachMoment (P : List ℕ → Type 0) (old new : History) : Type 0 where
  pub between : List Contents
  pub goes_on : new.now ∷ new.past ≡ between ++ old.now ∷ old.past
  pub each : AllByRecursion (LeavesOnly P) (between ++ old.now ∷ [])
