-- The form of a line, word by word. By the law of `read_line` it is the form of `IsOfForm`.
use Rattle.std.specs.Prelude.{ℕ, ◌==◌, ◌&&◌, Bool, nat_lt, if◌then◌else◌, List, length, codes, Option, Some, None}
use Rattle.std.specs.List.{position_or_len, before_first, after_first}
use Rattle.std.specs.Str.{bytes_eq}
use Rattle.ocpp_scalars.specs.Ascii.{space}
use Rattle.ocpp_scalars.specs.OptionSteps.{◌>>=◌}
use Rattle.replay.specs.declared.script.form.ScriptWord.{ScriptWord}
use Rattle.replay.specs.declared.script.form.ScriptWord.TheVariants.{Operator, Point, Hold}
use Rattle.replay.specs.declared.script.form.ScriptLineWords.{ScriptLineWords}
use Rattle.replay.specs.declared.script.form.ScriptLineWords.TheVariants.{Text, Release}
use Rattle.replay.specs.Form.{Form, text_line, release_line}
use Rattle.texts.specs.ByCases.Number.{number_of}

abbrev pub is_space : ℕ → Bool
is_space b = b == space

-- the first word of a text, of at least one byte, and the text after the one space behind it
abbrev pub word_at : List ℕ → Option (List ℕ × List ℕ)
word_at text =
    if nat_lt 0 (position_or_len is_space text)
    && nat_lt (position_or_len is_space text) (length text)
    then Some (before_first is_space text, after_first is_space text)
    else None

-- the kind of a line with a message that has this second word
abbrev pub word_named : List ℕ → Option ScriptWord
word_named word =
    if bytes_eq word (codes "operator") then Some Operator
    else if bytes_eq word (codes "point") then Some Point
    else if bytes_eq word (codes "hold") then Some Hold
    else None

abbrev pub release_form : List ℕ → List ℕ → Option Form
release_form instant rest = do
  number ← number_of rest
  Some (release_line instant number)

abbrev pub text_form : List ℕ → List ℕ → List ℕ → Option Form
text_form instant second rest = do
  word ← word_named second
  point ← word_at rest
  Some (text_line instant word point.0 point.1)

-- the form by the second word and the text after it
abbrev pub second_form : List ℕ → List ℕ → List ℕ → Option Form
second_form instant second rest =
    if bytes_eq second (codes "release") then release_form instant rest
    else text_form instant second rest

unfoldable pub form_of : List ℕ → Option Form
form_of line = do
  instant ← word_at line
  second ← word_at instant.1
  second_form instant.0 second.0 second.1

-- the words of the code, as a form
abbrev pub words_view : ScriptLineWords → Form
words_view (Text instant word point frame) = text_line instant.now word point.now frame.now
words_view (Release instant number) = release_line instant.now number
