-- The reply that is noted if memory ran out reads as no schedule.
use Rattle.std.proofs.Common.{◌≡◌, ℕ, List, refl}
use Rattle.std.specs.Str.{chars}
use Rattle.json.specs.Json.{value}
use Rattle.json.specs.Lex.{lex, punctuate}
use Rattle.json.specs.Text.{content}
use Rattle.ocpp_scalars.specs.ByCases.Number.{number_in, times_power, whole_of}
use Rattle.ocpp_scalars.specs.ByCases.NumberText.{is_number_text, parts_of}
use Rattle.meaning.specs.declared.said.Said.TheVariants.{Unread}
use Rattle.messages.specs.Fields.{instant, optional, required, text, whole_from_zero}
use Rattle.messages.specs.Said.{schedule_said}
use Rattle.messages.specs.declared.side.Side.TheVariants.{Point}
use Rattle.texts.specs.Said.{said_of}
use Rattle.texts.specs.SentText.{sent}
use Rattle.session.specs.Audit.{unread_reply}

pub is_unread : (moment : ℕ) (point : List ℕ) → said_of (sent moment Point point unread_reply) ≡ Unread
unfolding value lex punctuate content number_in times_power whole_of is_number_text parts_of chars instant optional required text whole_from_zero schedule_said
is_unread moment point = refl
