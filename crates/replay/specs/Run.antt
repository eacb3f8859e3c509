-- The output of a script, and the faults of a replay that come before its first output.
use Rattle.std.specs.Prelude.{ℕ, ◌+◌, ◌++◌, List, [], if◌then◌else◌}
use Rattle.std.specs.List.{fold}
use Rattle.replay.specs.declared.script.input.InputFault.{InputFault}
use Rattle.replay.specs.declared.script.input.InputFault.TheVariants as input
use Rattle.replay.specs.declared.script.run.ReplayFault.{ReplayFault}
use Rattle.replay.specs.declared.script.run.ReplayFault.TheVariants.{Read, ScriptTooLong, Write, OutOfMemory}
use Rattle.replay.specs.Lines.{script_lines}
use Rattle.site_rules.specs.Site.{SiteState}
use Rattle.replay.specs.Player.{PlayerState, first_state}
use Rattle.replay.specs.PrintedLine.{PrintedLine, printed_texts}
use Rattle.replay.specs.Play.{LineStep, line_played}

-- the part of a script that was played
pub record Played : Type 0 where
  -- the number of the next line
  pub number : ℕ
  -- how many lines had a fault
  pub faults : ℕ
  -- their output
  pub lines : List PrintedLine
  -- the player's state
  pub state : PlayerState

abbrev pub first_played : SiteState → Played
first_played site = record { number = 1; faults = 0; lines = []; state = first_state site }

abbrev pub with_line : Played → LineStep → Played
with_line before line = record {
  number = before.number + 1;
  faults = before.faults + (if line.is_fault then 1 else 0);
  lines = before.lines ++ line.printed;
  state = line.after;
}

-- one line more is played
abbrev pub played_more : Played → List ℕ → Played
played_more before line = with_line before (line_played before.state before.number line)

-- the whole script on a site
unfoldable pub played : SiteState → List ℕ → Played
played site script = fold played_more (first_played site) (script_lines script)

-- the output of a script, line by line
abbrev pub lines_of : SiteState → List ℕ → List PrintedLine
lines_of site script = (played site script).lines

-- the bytes of these lines
abbrev pub output_of : SiteState → List ℕ → List ℕ
output_of site script = printed_texts (lines_of site script)

-- how many lines of a script have a fault
abbrev pub fault_count : SiteState → List ℕ → ℕ
fault_count site script = (played site script).faults

-- the fault of a replay whose script isn't read
abbrev pub replay_fault : InputFault → ReplayFault
replay_fault input.Read = Read
replay_fault input.TooLong = ScriptTooLong
replay_fault input.OutOfMemory = OutOfMemory

-- the script wasn't read whole
abbrev pub IsReading : ReplayFault → Type 0
IsReading Read = Unit {0}
IsReading ScriptTooLong = Unit {0}
IsReading Write = ⊥
IsReading OutOfMemory = ⊥

-- the script was read whole
abbrev pub IsWriting : ReplayFault → Type 0
IsWriting Read = ⊥
IsWriting ScriptTooLong = ⊥
IsWriting Write = Unit {0}
IsWriting OutOfMemory = Unit {0}
