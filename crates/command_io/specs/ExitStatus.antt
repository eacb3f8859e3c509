-- The program's exit statuses: 0 done; 1 the site file or a journal has a fault; 2 the script has
-- one; 3 a device or a socket failed or memory ran out; 4 no such command line, or another process
-- runs on the folder. A file of keys or of a login has faults as a site file has.
use Rattle.std.specs.Prelude.{ℕ, ◌==◌, if◌then◌else◌}
use Rattle.replay.specs.declared.script.run.ReplayFault.{ReplayFault}
use Rattle.replay.specs.declared.script.run.ReplayFault.TheVariants as replay_fault
use Rattle.replay.specs.declared.script.run.Summary.{Summary}
use Rattle.journal.specs.declared.restore_fault.RestoreFault.{RestoreFault}
use Rattle.journal.specs.declared.restore_fault.RestoreFault.TheVariants as restore_fault
use Rattle.journal_file.specs.declared.folder_fault.FolderFault.{FolderFault}
use Rattle.journal_file.specs.declared.folder_fault.FolderFault.TheVariants as folder_fault
use Rattle.client_lines.specs.declared.fault.ClientFault.{ClientFault}
use Rattle.client_lines.specs.declared.fault.ClientFault.TheVariants as client_fault
use Rattle.command_io.specs.declared.program_fault.ProgramFault.{ProgramFault}
use Rattle.command_io.specs.declared.program_fault.ProgramFault.TheVariants.{Words, Site, SiteFile, Write, Replay, Socket, Folder, Client, File, NoSuchPoint, NoSuchConnector, NoInstant, NoDuration, NoScriptEnd, NoNumber, AllWithoutSite, AllWithoutCalls, AllElsewhere, UndoWithoutData, WaitWithoutData, NoUndoLine, UndoElsewhere, PastCalendar, NoPicture, NoZone, ZoneElsewhere, ZonePastCalendar, NoPort, AfterBoot, NoKeys, StatusOpen, StatusUrl, NoStatus, Keys, Login, KeyName, Clock, Random, OutOfMemory}

abbrev pub replay_status : ReplayFault → ℕ
replay_status replay_fault.Read = 3
replay_status replay_fault.ScriptTooLong = 2
replay_status replay_fault.Write = 3
replay_status replay_fault.OutOfMemory = 3

-- a URL that can't be one is a fault of the command line
abbrev pub client_status : ClientFault → ℕ
client_status client_fault.Url = 4
client_status client_fault.NotOperator = 4
client_status _ = 3

-- a failed allocation is no fault of the journal
abbrev pub restore_status : RestoreFault → ℕ
restore_status restore_fault.OutOfMemory = 3
restore_status _ = 1

abbrev pub folder_status : FolderFault → ℕ
folder_status folder_fault.InUse = 4
folder_status folder_fault.Read = 3
folder_status folder_fault.Write = 3
folder_status folder_fault.Print = 3
folder_status folder_fault.Clock = 3
folder_status (folder_fault.Header line fault) = 1
folder_status (folder_fault.Unrestored unrestored) = restore_status unrestored.fault
folder_status folder_fault.LineTooLong = 1
folder_status folder_fault.ScriptTooLong = 2
folder_status folder_fault.OutOfMemory = 3

abbrev pub fault_status : ProgramFault → ℕ
fault_status Words = 4
fault_status (Site fault) = 1
fault_status SiteFile = 3
fault_status Write = 3
fault_status (Replay fault) = replay_status fault
fault_status Socket = 3
fault_status (Folder fault) = folder_status fault
fault_status (Client fault) = client_status fault
fault_status File = 3
fault_status NoSuchPoint = 4
fault_status NoSuchConnector = 4
fault_status NoInstant = 4
fault_status NoDuration = 4
fault_status NoScriptEnd = 4
fault_status NoNumber = 4
fault_status AllWithoutSite = 4
fault_status AllElsewhere = 4
fault_status AllWithoutCalls = 4
fault_status UndoWithoutData = 4
fault_status WaitWithoutData = 4
fault_status NoUndoLine = 4
fault_status UndoElsewhere = 4
fault_status PastCalendar = 4
fault_status NoPicture = 4
fault_status NoZone = 4
fault_status ZoneElsewhere = 4
fault_status ZonePastCalendar = 4
fault_status NoPort = 4
fault_status AfterBoot = 4
fault_status NoKeys = 4
fault_status StatusOpen = 4
fault_status StatusUrl = 4
fault_status NoStatus = 3
fault_status (Keys fault) = 1
fault_status Login = 1
fault_status KeyName = 4
fault_status Clock = 3
fault_status Random = 3
fault_status OutOfMemory = 3

abbrev pub summary_status : Summary → ℕ
summary_status summary = if summary.script_faults == 0 then 0 else 2
