-- The contents of a log: acknowledged bytes and pending ones.
use Rattle.std.specs.Prelude.{Result, Ok, Err}
use Rattle.append_log.specs.Contents.{Contents, failed, file_of, only_synced}
use Rattle.append_log.specs.History.{History}
use Rattle.append_log.specs.declared.appended_file.AppendedFile as files
use Rattle.append_log.specs.declared.log.Log.{Log}
use Rattle.append_log.specs.declared.log_fault.LogFault.{LogFault}
use Rattle.append_log.specs.declared.log_fault.LogFault.TheVariants.{Full, Failed, FailedBefore}

module _ {F : Type 0} {g : files.Ghosts F} where
  -- the history of its file
  abbrev pub history : Log F g → History
  history log = g.history log.file

  -- The contents as if all pending bytes were appended. The acknowledged bytes are those on disk.
  abbrev pub contents : Log F g → Contents
  contents log = record (g.history log.file).now { appended = log.pending.items }

-- Either all bytes are acknowledged or none. After a full device another try may follow, as if none
-- had been made. After another fault none does.
abbrev pub after_trial : {T : Type 0} → Contents → Result T LogFault → Contents
after_trial contents (Ok _) = only_synced (file_of contents)
after_trial contents (Err (Full _)) = contents
after_trial contents (Err (Failed _)) = failed contents
after_trial contents (Err FailedBefore) = contents

abbrev pub IsFull : {T : Type 0} → Result T LogFault → Type 0
IsFull (Ok _) = ⊥
IsFull (Err (Full _)) = Unit {0}
IsFull (Err (Failed _)) = ⊥
IsFull (Err FailedBefore) = ⊥
