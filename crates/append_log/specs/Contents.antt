-- The contents of a file that is only appended to, and the bytes that a crash leaves of it.
use Rattle.std.specs.Prelude.{ℕ, ◌≡◌, Bool, true, false, List, [], ◌++◌}

pub record Contents : Type 0 where
  -- the bytes on disk
  pub synced : List ℕ
  -- the bytes appended behind them since
  pub appended : List ℕ
  -- whether a call failed since: then only the bytes on disk are known
  pub has_failed : Bool

-- a first part of these bytes: none of them, some, or all
abbrev pub IsFirstPart : List ℕ → List ℕ → Type 0
IsFirstPart part bytes = (rest : List ℕ) × (bytes ≡ part ++ rest)

-- A crash leaves the bytes on disk, followed by a first part of those appended since. Once a call
-- failed, any bytes may follow.
pub record MayLeave (contents : Contents) (left : List ℕ) : Type 0 where
  pub behind : List ℕ
  pub is : left ≡ contents.synced ++ behind
  pub first_part : contents.has_failed ≡ false → IsFirstPart behind contents.appended

-- the bytes that a read returns, as long as no call failed
abbrev pub file_of : Contents → List ℕ
file_of contents = contents.synced ++ contents.appended

-- these bytes, all on disk
abbrev pub only_synced : List ℕ → Contents
only_synced bytes = record { synced = bytes; appended = []; has_failed = false }

-- with more bytes behind the present ones
abbrev pub with_added : Contents → List ℕ → Contents
with_added contents bytes = record contents { appended = contents.appended ++ bytes }

-- after a call that failed
abbrev pub failed : Contents → Contents
failed contents = record contents { has_failed = true }
