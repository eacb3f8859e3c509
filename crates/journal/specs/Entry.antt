-- A line that is built before the step that draws its number is made.
use Rattle.std.specs.Prelude.{ℕ, ◌≡◌, List, [], ◌++◌, codes, Bool, true, false, Option, Some, None, is_some}
use Rattle.std.specs.Fmt.{decimal}
use Rattle.ocpp_scalars.specs.Writing.{instant_text}
use Rattle.journal.specs.Line.{NotedState, LineState, message, attached, sent, word_of, number_written, noted_text, on_one_line, line_text}

-- the parts before the number and after it
pub record EntryState : Type 0 where
  pub before : List ℕ
  -- whether the step draws a number
  pub is_numbered : Bool
  pub behind : List ℕ

-- the line with the number that its step drew; a reply, a verdict and a loss draw none
abbrev pub with_number : NotedState → ℕ → NotedState
with_number (message sender _ frame) number = message sender number frame
with_number (attached _) number = attached number
with_number (sent link _) number = sent link number
with_number noted number = noted

abbrev pub numbered : LineState → ℕ → LineState
numbered line number = record line { noted = with_number line.noted number }

abbrev pub number_text : Bool → ℕ → List ℕ
number_text true number = decimal number
number_text false number = []

-- an entry as a line
abbrev pub entry_text : EntryState → ℕ → List ℕ
entry_text entry number =
    entry.before ++ number_text entry.is_numbered number ++ entry.behind

-- with any drawn number, the entry becomes the line with that number
abbrev pub IsEntryOf : EntryState → LineState → Type 0
IsEntryOf entry line = (number : ℕ) → entry_text entry number ≡ line_text (numbered line number)

-- ---- its parts

-- the number that a step draws, if it draws one
abbrev pub drawn_text : Option ℕ → List ℕ
drawn_text None = []
drawn_text (Some number) = decimal number

-- whether the step of such a line draws a number
abbrev pub draws_number : NotedState → Bool
draws_number noted = is_some (number_written noted)

-- the part between the point and the drawn number, or up to the line's end
abbrev pub noted_before : NotedState → List ℕ
noted_before (message sender number frame) = []
noted_before (attached link) = []
noted_before (sent link call) = decimal link ++ codes " "
noted_before noted = noted_text noted

-- the part after the drawn number
abbrev pub noted_behind : NotedState → List ℕ
noted_behind (message sender number frame) = codes " " ++ on_one_line frame
noted_behind noted = []

abbrev pub before_number : LineState → List ℕ
before_number line =
    instant_text line.moment ++ codes " " ++ word_of line.noted ++ codes " " ++ line.point
    ++ codes " " ++ noted_before line.noted

abbrev pub behind_number : LineState → List ℕ
behind_number line = noted_behind line.noted ++ codes "\n"
