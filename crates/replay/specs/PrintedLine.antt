-- The text of a line that a script prints.
use Rattle.std.specs.Prelude.{ℕ, List, ◌++◌, codes}
use Rattle.std.specs.Fmt.{decimal}
use Rattle.std.specs.List.{flat_map}
use Rattle.messages.specs.declared.call.Call.{Call}
use Rattle.messages.specs.declared.response.Response.{Response}
use Rattle.messages.specs.CallText.{call_text}
use Rattle.messages.specs.ResponseText.{response_text}
use Rattle.replay.specs.declared.script.line.ScriptLineFault.{ScriptLineFault}
pub use Rattle.replay.specs.declared.script.printed_line.PrintedLine.{PrintedLine}
use Rattle.replay.specs.declared.script.printed_line.PrintedLine.TheVariants as lines
use Rattle.replay.specs.Line.{fault_name}

-- `> ANSWER`
abbrev pub response_line : List ℕ → Response → List ℕ
response_line id response = codes "> " ++ (response_text id response ++ codes "\n")

-- `* ID FRAME`
abbrev pub sent_line : List ℕ → Call → List ℕ
sent_line point sent = codes "* " ++ (point ++ (codes " " ++ (call_text sent ++ codes "\n")))

-- `held N`
abbrev pub held_line : ℕ → List ℕ
held_line number = codes "held " ++ (decimal number ++ codes "\n")

-- `! LINE NAME`
abbrev pub fault_line : ℕ → ScriptLineFault → List ℕ
fault_line number why =
    codes "! " ++ (decimal number ++ (codes " " ++ (fault_name why ++ codes "\n")))

-- the text of a line
abbrev pub printed_text : PrintedLine → List ℕ
printed_text (lines.Answer id response) = response_line id response
printed_text (lines.Call point sent) = sent_line point sent
printed_text (lines.Held number) = held_line number
printed_text (lines.Fault number why) = fault_line number why

-- the texts of lines, one after another
abbrev pub printed_texts : List PrintedLine → List ℕ
printed_texts printed = flat_map printed_text printed
