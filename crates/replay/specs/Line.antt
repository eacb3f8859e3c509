-- The contents of a line of a script, or its first fault.
use Rattle.std.specs.Prelude.{ℕ, Bool, false, not, is_none, nat_lt, if◌then◌else◌, List, length, codes, Option, Some, None, Result, Ok, Err}
use Rattle.std.specs.Str.{is_utf8}
use Rattle.ocpp_scalars.specs.ByCases.InstantText.{instant_of}
use Rattle.ocpp_scalars.specs.declared.instant_text.InstantFault.{InstantFault}
use Rattle.messages.specs.declared.side.Side.TheVariants as sides
use Rattle.site_rules.specs.Site.{SiteState, place_of}
use Rattle.replay.specs.declared.script.form.ScriptWord.{ScriptWord}
use Rattle.replay.specs.declared.script.form.ScriptWord.TheVariants.{Operator, Point, Hold}
use Rattle.replay.specs.declared.script.line.ScriptLine.{ScriptLine}
use Rattle.replay.specs.declared.script.line.ScriptLine.TheVariants as lines
use Rattle.replay.specs.declared.script.line.ScriptLineFault.{ScriptLineFault}
use Rattle.replay.specs.declared.script.line.ScriptLineFault.TheVariants.{TooLong, BadText, BadLine, BadInstant, UnknownPoint, NotComposite, UnknownRequest}
use Rattle.replay.specs.Limits.{max_line_bytes}
use Rattle.texts.specs.SentText.{sent}
use Rattle.replay.specs.Form.{Form, text_line, release_line}
use Rattle.replay.specs.ByCases.Form.{form_of}

-- A point's own message names a point of the site. For an operator's message, the central system
-- checks this.
abbrev pub is_stranger : SiteState → ScriptWord → List ℕ → Bool
is_stranger site Operator point = false
is_stranger site Point point = is_none (place_of site point)
is_stranger site Hold point = false

-- a held request is an operator's
abbrev pub text_of : ℕ → ScriptWord → List ℕ → List ℕ → ScriptLine
text_of moment Operator point frame = lines.Text (sent moment sides.Operator point frame)
text_of moment Point point frame = lines.Text (sent moment sides.Point point frame)
text_of moment Hold point frame = lines.Hold (sent moment sides.Operator point frame)

-- the first word
abbrev pub instant_in : Form → List ℕ
instant_in (text_line instant word point frame) = instant
instant_in (release_line instant number) = instant

-- the contents of a line with this moment, which a release ignores
abbrev pub said_at : SiteState → ℕ → Form → Result ScriptLine ScriptLineFault
said_at site moment (text_line instant word point frame) =
    if is_stranger site word point then Err UnknownPoint else Ok (text_of moment word point frame)
said_at site moment (release_line instant number) = Ok (lines.Release number)

abbrev pub said_if : SiteState → Form → Result ℕ InstantFault → Result ScriptLine ScriptLineFault
said_if site form (Err fault) = Err BadInstant
said_if site form (Ok moment) = said_at site moment form

-- the contents of a line, by its form
abbrev pub line_of_form : SiteState → Option Form → Result ScriptLine ScriptLineFault
line_of_form site None = Err BadLine
line_of_form site (Some form) = said_if site form (instant_of (instant_in form))

-- the contents of a line on a site
unfoldable pub line_of : SiteState → List ℕ → Result ScriptLine ScriptLineFault
line_of site line =
    if nat_lt max_line_bytes (length line) then Err TooLong
    else if not (is_utf8 line) then Err BadText
    else line_of_form site (form_of line)

-- a fault as the output names it
abbrev pub fault_name : ScriptLineFault → List ℕ
fault_name TooLong = codes "TooLong"
fault_name BadText = codes "BadText"
fault_name BadLine = codes "BadLine"
fault_name BadInstant = codes "BadInstant"
fault_name UnknownPoint = codes "UnknownPoint"
fault_name NotComposite = codes "NotComposite"
fault_name UnknownRequest = codes "UnknownRequest"
