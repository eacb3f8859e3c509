-- A line of a journal: the event that it notes, and its text, printed from its parts.
use Rattle.std.specs.Prelude.{ℕ, ◌≡◌, ◌==◌, ◌||◌, ◌≤◌, ◌<◌, ◌≢◌, All, Bool, List, ◌++◌, map, length, codes, Option, Some, None, if◌then◌else◌, option_copied}
use Rattle.std.specs.Fmt.{decimal}
use Rattle.ocpp_scalars.specs.Ascii.{line_feed, space}
use Rattle.ocpp_scalars.specs.Limits.{last_second}
use Rattle.ocpp_scalars.specs.Writing.{instant_text}
use Rattle.messages.specs.declared.side.Side.{Side}
use Rattle.messages.specs.declared.side.Side.TheVariants as sides
use Rattle.site_core.specs.Limits.{max_number}
use Rattle.journal.specs.declared.line.Sender.{Sender}
use Rattle.journal.specs.declared.line.Sender.TheVariants as senders
use Rattle.journal.specs.declared.line.Noted.{Noted}
use Rattle.journal.specs.declared.line.Noted.TheVariants as kinds

-- who sent a message: the point itself, or an operator, with the name of the key if there are keys
pub data SenderState : Type 0 where
  by_point : SenderState
  by_operator : Option (List ℕ) → SenderState

-- the event that a line notes of its point
pub data NotedState : Type 0 where
  -- a message from this sender whose step was made, the number that the step drew, and the message
  message : SenderState → ℕ → List ℕ → NotedState
  -- a reply of the point that confirmed its call, over this link
  reply : ℕ → List ℕ → NotedState
  -- the reply to the audit whose call has this number was judged
  verdict : ℕ → List ℕ → NotedState
  -- the point got this link
  attached : ℕ → NotedState
  -- the call of this number went out over this link
  sent : ℕ → ℕ → NotedState
  -- this link was lost
  lost : ℕ → NotedState

pub record LineState : Type 0 where
  pub moment : ℕ
  -- the identity of the point
  pub point : List ℕ
  pub noted : NotedState

-- the sender and the event of the code's types
abbrev pub sender_state : Sender → SenderState
sender_state senders.Point = by_point
sender_state (senders.Operator name) = by_operator (option_copied name)

abbrev pub noted_state : Noted → NotedState
noted_state (kinds.Message sender number frame) = message (sender_state sender) number frame.now
noted_state (kinds.Reply link frame) = reply link frame.now
noted_state (kinds.Verdict call frame) = verdict call frame.now
noted_state (kinds.Attached link) = attached link
noted_state (kinds.Sent link call) = sent link call
noted_state (kinds.Lost link) = lost link

abbrev pub side_of_sender : SenderState → Side
side_of_sender by_point = sides.Point
side_of_sender (by_operator name) = sides.Operator

abbrev pub name_of_sender : SenderState → Option (List ℕ)
name_of_sender by_point = None
name_of_sender (by_operator name) = name

-- the number that its step draws, if it draws one
abbrev pub number_written : NotedState → Option ℕ
number_written (message sender number frame) = Some number
number_written (reply link frame) = None
number_written (verdict call frame) = None
number_written (attached link) = Some link
number_written (sent link call) = Some call
number_written (lost link) = None

-- ---- its text

-- the name of an operator's key is behind a colon
abbrev pub sender_word : SenderState → List ℕ
sender_word by_point = codes "point"
sender_word (by_operator None) = codes "operator"
sender_word (by_operator (Some name)) = codes "operator:" ++ name

-- the second word
abbrev pub word_of : NotedState → List ℕ
word_of (message sender number frame) = sender_word sender
word_of (reply link frame) = codes "reply"
word_of (verdict call frame) = codes "verdict"
word_of (attached link) = codes "attached"
word_of (sent link call) = codes "sent"
word_of (lost link) = codes "lost"

-- A line feed and a carriage return become a tab. To JSON all three are blanks (RFC 8259, 2), and
-- no string has one of them unescaped (RFC 8259, 7).
abbrev pub carriage_return : ℕ
carriage_return = 13

abbrev pub tab : ℕ
tab = 9

abbrev pub is_break : ℕ → Bool
is_break byte = (byte == line_feed) || (byte == carriage_return)

abbrev pub unbroken : ℕ → ℕ
unbroken byte = if is_break byte then tab else byte

abbrev pub on_one_line : List ℕ → List ℕ
on_one_line frame = map unbroken frame

-- a number in decimal, and a message
abbrev pub numbered_frame : ℕ → List ℕ → List ℕ
numbered_frame number frame = decimal number ++ codes " " ++ on_one_line frame

-- the text after the point
abbrev pub noted_text : NotedState → List ℕ
noted_text (message sender number frame) = numbered_frame number frame
noted_text (reply link frame) = numbered_frame link frame
noted_text (verdict call frame) = numbered_frame call frame
noted_text (attached link) = decimal link
noted_text (sent link call) = decimal link ++ codes " " ++ decimal call
noted_text (lost link) = decimal link

-- its words, with one space between them
unfoldable pub line_words : LineState → List ℕ
line_words line =
    instant_text line.moment ++ codes " " ++ word_of line.noted ++ codes " " ++ line.point
    ++ codes " " ++ noted_text line.noted

-- a whole line, with its line feed
abbrev pub line_text : LineState → List ℕ
line_text line = line_words line ++ codes "\n"

-- ---- the lines that can be read back, and their contents then

abbrev pub HasNoLineFeed : List ℕ → Type 0
HasNoLineFeed text = All (λ byte. byte ≢ line_feed) text

-- at least one byte, and none of them a space or a line feed
pub record IsWord (word : List ℕ) : Type 0 where
  pub some : 0 < length word
  pub spaces : All (λ byte. byte ≢ space) word
  pub breaks : HasNoLineFeed word

abbrev pub CanBeNamed : SenderState → Type 0
CanBeNamed by_point = Unit {0}
CanBeNamed (by_operator None) = Unit {0}
CanBeNamed (by_operator (Some name)) = IsWord name

abbrev pub CanBeNoted : NotedState → Type 0
CanBeNoted (message sender number frame) = CanBeNamed sender × (number ≤ max_number)
CanBeNoted (reply link frame) = link ≤ max_number
CanBeNoted (verdict call frame) = call ≤ max_number
CanBeNoted (attached link) = link ≤ max_number
CanBeNoted (sent link call) = (link ≤ max_number) × (call ≤ max_number)
CanBeNoted (lost link) = link ≤ max_number

-- a line of a point of a site, whose numbers are within their limits; an operator's name is a word
pub record CanBeWritten (line : LineState) : Type 0 where
  pub moment : line.moment ≤ last_second
  pub point : IsWord line.point
  pub noted : CanBeNoted line.noted

-- its message is on one line
abbrev pub noted_on_one_line : NotedState → NotedState
noted_on_one_line (message sender number frame) = message sender number (on_one_line frame)
noted_on_one_line (reply link frame) = reply link (on_one_line frame)
noted_on_one_line (verdict call frame) = verdict call (on_one_line frame)
noted_on_one_line noted = noted

abbrev pub line_on_one_line : LineState → LineState
line_on_one_line line = record line { noted = noted_on_one_line line.noted }

-- its message has neither line feed nor carriage return
abbrev pub HasNoBreak : LineState → Type 0
HasNoBreak line = line_on_one_line line ≡ line
