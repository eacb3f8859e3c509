-- The contents of a line, word by word. By the law `lines_read_back` they are those that were
-- written.
use Rattle.std.specs.Prelude.{ℕ, ◌==◌, ◌&&◌, Bool, nat_lt, if◌then◌else◌, List, map, length, codes, Option, Some, None, option_copied, option_map, Result, Ok, Err}
use Rattle.std.specs.List.{position_or_len, before_first, after_first}
use Rattle.std.specs.Str.{bytes_eq, is_utf8}
use Rattle.ocpp_scalars.specs.Ascii.{space, colon}
use Rattle.ocpp_scalars.specs.ByCases.InstantText.{instant_of}
use Rattle.ocpp_scalars.specs.declared.instant_text.InstantFault.{InstantFault}
use Rattle.ocpp_scalars.specs.ResultSteps.{◌>>=◌}
use Rattle.texts.specs.ByCases.Number.{number_of}
use Rattle.journal.specs.declared.line_word.LineWord.{LineWord}
use Rattle.journal.specs.declared.line_word.LineWord.TheVariants.{Operator, Point, Reply, Verdict, Attached, Sent, Lost}
use Rattle.journal.specs.declared.reading.Kind.{Kind}
use Rattle.journal.specs.declared.reading.Words.{Words}
use Rattle.journal.specs.declared.line_fault.LineFault.{LineFault}
use Rattle.journal.specs.declared.line_fault.LineFault.TheVariants.{NotUtf8, Form, Moment, Number}
use Rattle.journal.specs.Line.{SenderState, NotedState, LineState, by_point, by_operator, message, reply, verdict, attached, sent, lost, carriage_return, tab}

-- ---- messages

-- the same for a text without line feeds
abbrev pub without_returns : List ℕ → List ℕ
without_returns text = map (λ byte. if byte == carriage_return then tab else byte) text

-- ---- words

abbrev pub is_space : ℕ → Bool
is_space b = b == space

-- the first word of a text, of at least one byte, and the text after the one space behind it
abbrev pub word_at : List ℕ → Result (List ℕ × List ℕ) LineFault
word_at text =
    if nat_lt 0 (position_or_len is_space text)
    && nat_lt (position_or_len is_space text) (length text)
    then Ok (before_first is_space text, after_first is_space text)
    else Err Form

abbrev pub some_or_fault : {A : Type 0} → LineFault → Option A → Result A LineFault
some_or_fault fault None = Err fault
some_or_fault fault (Some value) = Ok value

abbrev pub word_named : List ℕ → Option LineWord
word_named word =
    if bytes_eq word (codes "operator") then Some Operator
    else if bytes_eq word (codes "point") then Some Point
    else if bytes_eq word (codes "reply") then Some Reply
    else if bytes_eq word (codes "verdict") then Some Verdict
    else if bytes_eq word (codes "attached") then Some Attached
    else if bytes_eq word (codes "sent") then Some Sent
    else if bytes_eq word (codes "lost") then Some Lost
    else None

abbrev pub is_colon : ℕ → Bool
is_colon b = b == colon

-- the kind of a line, by its second word
pub record LineKind : Type 0 where
  pub word : LineWord
  -- the name of an operator's key, behind a colon
  pub name : Option (List ℕ)

abbrev pub kind_view : Kind → LineKind
kind_view kind = record { word = kind.word; name = option_copied kind.name }

abbrev pub unnamed : LineWord → LineKind
unnamed word = record { word = word; name = None }

-- a second word with a colon
abbrev pub named_kind : List ℕ → Option LineKind
named_kind word =
    if bytes_eq (before_first is_colon word) (codes "operator")
    then Some (record { word = Operator; name = Some (after_first is_colon word) })
    else None

abbrev pub kind_of : List ℕ → Option LineKind
kind_of word =
    if nat_lt (position_or_len is_colon word) (length word) then named_kind word
    else option_map unnamed (word_named word)

-- a number in decimal, up to the highest
abbrev pub number_or_fault : List ℕ → Result ℕ LineFault
number_or_fault word =
    if bytes_eq word (codes "0") then Ok 0 else some_or_fault Number (number_of word)

-- a number, and the text after the space behind it
abbrev pub number_at : List ℕ → Result (ℕ × List ℕ) LineFault
number_at text = do
  word ← word_at text
  number ← number_or_fault word.0
  Ok (number, word.1)

-- ---- the noted event

-- a message from this sender
abbrev pub message_in : SenderState → List ℕ → Result NotedState LineFault
message_in sender text = do
  number ← number_at text
  Ok (message sender number.0 number.1)

-- the event of a line with this second word, and this name of an operator, from the text after its
-- point
abbrev pub noted_with : LineWord → Option (List ℕ) → List ℕ → Result NotedState LineFault
noted_with Operator name text = message_in (by_operator name) text
noted_with Point name text = message_in by_point text
noted_with Reply name text = do
  link ← number_at text
  Ok (reply link.0 link.1)
noted_with Verdict name text = do
  call ← number_at text
  Ok (verdict call.0 call.1)
noted_with Attached name text = do
  link ← number_or_fault text
  Ok (attached link)
noted_with Sent name text = do
  link ← number_at text
  call ← number_or_fault link.1
  Ok (sent link.0 call)
noted_with Lost name text = do
  link ← number_or_fault text
  Ok (lost link)

abbrev pub noted_in : LineKind → List ℕ → Result NotedState LineFault
noted_in kind text = noted_with kind.word kind.name text

-- ---- the line

-- the first three words, and the text after them
pub record LineWords : Type 0 where
  pub instant : List ℕ
  pub kind : LineKind
  pub point : List ℕ
  pub rest : List ℕ

abbrev pub words_view : Words → LineWords
words_view words = record {
  instant = words.instant.now;
  kind = kind_view words.kind;
  point = words.point.now;
  rest = words.rest.now;
}

abbrev pub words_of : List ℕ → Result LineWords LineFault
words_of text = do
  instant ← word_at text
  second ← word_at instant.1
  third ← word_at second.1
  kind ← some_or_fault Form (kind_of second.0)
  Ok (record { instant = instant.0; kind = kind; point = third.0; rest = third.1 })

abbrev pub moment_or_fault : Result ℕ InstantFault → Result ℕ LineFault
moment_or_fault (Ok moment) = Ok moment
moment_or_fault (Err fault) = Err Moment

abbrev pub line_of_words : LineWords → Result LineState LineFault
line_of_words words = do
  moment ← moment_or_fault (instant_of words.instant)
  noted ← noted_in words.kind words.rest
  Ok (record { moment = moment; point = words.point; noted = noted })

unfoldable pub line_of : List ℕ → Result LineState LineFault
line_of text = do
  words ← words_of text
  line_of_words words

-- a line from bytes that may not be UTF-8
abbrev pub line_in : List ℕ → Result LineState LineFault
line_in bytes = if is_utf8 bytes then line_of bytes else Err NotUtf8
