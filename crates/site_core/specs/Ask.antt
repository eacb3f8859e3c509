-- The `Ask` of a Take at a point, or the reason why there is none (OCPP 1.6, 5.7).
use Rattle.std.specs.Prelude.{nat_lt, Bool, false, not, length, Option, Some, None, Result, Err, if◌then◌else◌}
use Rattle.ocpp_scalars.specs.declared.refusal.Refusal.{Refusal}
use Rattle.ocpp_scalars.specs.declared.refusal.Refusal.TheVariants.{UnknownConnector, WrongUnit}
use Rattle.profile.specs.declared.unit.Unit.{Unit}
use Rattle.profile.specs.Unit.{unit_eq}
use Rattle.meaning.specs.declared.ask.Ask.{Ask}
use Rattle.meaning.specs.Ask.{ask_of}
use Rattle.point_book.specs.Book.{BookState}
use Rattle.site_core.specs.declared.step.Take.{Take}

abbrev pub is_other_unit : Option Unit → Unit → Bool
is_other_unit None unit = false
is_other_unit (Some asked) unit = not (unit_eq asked unit)

-- The `Ask` of a Take at a point with this book, on a site with limits in this unit, or the first
-- cause in this order.
abbrev pub ask_at : Unit → BookState → Take → Result Ask Refusal
ask_at unit book take =
    if nat_lt (length book.ceilings) take.connector then Err UnknownConnector
    else if is_other_unit take.unit unit then Err WrongUnit
    else ask_of take.connector take.start take.duration
