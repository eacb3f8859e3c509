-- A point's reply to an audit (OCPP 1.6, 5.7, and chapter 6, GetCompositeSchedule.conf).
use Rattle.std.specs.Prelude.{Result, Ok, Err}
use Rattle.ocppj_frame.specs.declared.fault.FrameFault.{FrameFault}
use Rattle.ocppj_frame.specs.Message.{Message}
use Rattle.ocppj_frame.specs.ByCases.Message.{message_of_text}
use Rattle.meaning.specs.declared.said.Said.{Said}
use Rattle.meaning.specs.declared.said.Said.TheVariants.{Refused}
use Rattle.messages.specs.Said as messages
use Rattle.texts.specs.SentText.{Sent}

-- a text that can't be read as a message refuses, as a message without a status does
abbrev pub said_by : Result Message FrameFault → Said
said_by (Ok message) = messages.said_of message
said_by (Err fault) = Refused

abbrev pub said_of : Sent → Said
said_of text = said_by (message_of_text text.frame)
