-- The effect of the calls of an appended file on its contents.
use Rattle.std.specs.Prelude.{ℕ, ◌<◌, ◌≤◌, Bool, true, false, List, [], length, take, drop, Result, Ok, Err}
use Rattle.append_log.specs.Contents.{Contents, failed, file_of, only_synced, with_added}
use Rattle.append_log.specs.History.{History, changed, refused}
use Rattle.append_log.specs.declared.write_fault.WriteFault.{WriteFault}
use Rattle.append_log.specs.declared.write_fault.WriteFault.TheVariants.{Full, Failed}

-- A write takes a first part of the bytes, and none if the device is full. If it fails otherwise,
-- it is unknown which bytes it took.
abbrev pub after_append : History → List ℕ → Result ℕ WriteFault → History
after_append history bytes (Ok count) = changed history (with_added history.now (take count bytes))
after_append history bytes (Err (Full _)) = refused history
after_append history bytes (Err (Failed _)) = changed history (failed history.now)

-- the number of bytes that a write takes: at least one, if there are any
abbrev pub TakesSome : List ℕ → ℕ → Type 0
TakesSome bytes count = (count ≤ length bytes) × (0 < length bytes → 0 < count)

-- after a sync, and whether it succeeded
abbrev pub after_sync : History → Bool → History
after_sync history true = changed history (only_synced (file_of history.now))
after_sync history false = changed history (failed history.now)

-- during a cut to a length, before it is synced: the bytes cut off may still be there, or a part of
-- them
abbrev pub being_cut : ℕ → Contents → Contents
being_cut end contents = record { synced = take end (file_of contents); appended = drop end (file_of contents); has_failed = false }

-- after a cut that failed
abbrev pub uncut : ℕ → Contents → Contents
uncut end contents = record { synced = take end contents.synced; appended = []; has_failed = true }

-- after a cut to a length and its sync, and whether both succeeded
abbrev pub after_cut : History → ℕ → Bool → History
after_cut history end true = changed (changed history (being_cut end history.now)) (only_synced (take end (file_of history.now)))
after_cut history end false = changed (changed history (being_cut end history.now)) (uncut end history.now)
