-- The start of the explained schedule, by the text of an option.
use Rattle.std.specs.Prelude.{ℕ, List, codes, if◌then◌else◌, Option, None, Some, Result, Ok, Err}
use Rattle.std.specs.Str.{bytes_eq}
use Rattle.ocpp_scalars.specs.declared.instant_text.InstantFault.{InstantFault}
use Rattle.ocpp_scalars.specs.ByCases.InstantText.{instant_of}
use Rattle.jobs.specs.declared.start.Start.{Start}
use Rattle.jobs.specs.declared.start.Start.TheVariants.{Now, At}

-- an instant, or its fault
abbrev pub at_instant : Result ℕ InstantFault → Result Start InstantFault
at_instant (Ok instant) = Ok (At instant)
at_instant (Err fault) = Err fault

-- the present moment for the word `now`, otherwise an instant
abbrev pub start_of : List ℕ → Result Start InstantFault
start_of text = if bytes_eq text (codes "now") then Ok Now else at_instant (instant_of text)

-- the named instant; None for the present moment
abbrev pub named_instant : Start → Option ℕ
named_instant Now = None
named_instant (At instant) = Some instant
