-- The names of the refusals.
use Rattle.std.specs.Prelude.{ℕ, List, codes}
use Rattle.ocpp_scalars.specs.declared.refusal.Refusal.{Refusal}
use Rattle.ocpp_scalars.specs.declared.refusal.Refusal.TheVariants.{UnknownPoint, UnknownConnector, MaxNotAtZero, TxAtZero, WrongUnit, LevelTooHigh, TooManyPeriods, PeriodsOutOfOrder, NoRecurrency, NoTransaction, OtherTransaction, TooManyProfiles, OutboxFull, BadDuration, PastCalendar, TooManyOpen, ResultTooLong, VersionsExhausted, TransactionsExhausted, Behind, Stopped, OutOfMemory, UnknownRequest, AlreadyAnswered, Superseded, NothingInFlight, StrangerInput, AuditOpen, NotTxProfile}

-- the bytes of a refusal's name, as answers print it
abbrev pub refusal_name : Refusal → List ℕ
refusal_name UnknownPoint = codes "UnknownPoint"
refusal_name UnknownConnector = codes "UnknownConnector"
refusal_name MaxNotAtZero = codes "MaxNotAtZero"
refusal_name TxAtZero = codes "TxAtZero"
refusal_name WrongUnit = codes "WrongUnit"
refusal_name LevelTooHigh = codes "LevelTooHigh"
refusal_name TooManyPeriods = codes "TooManyPeriods"
refusal_name PeriodsOutOfOrder = codes "PeriodsOutOfOrder"
refusal_name NoRecurrency = codes "NoRecurrency"
refusal_name NoTransaction = codes "NoTransaction"
refusal_name OtherTransaction = codes "OtherTransaction"
refusal_name TooManyProfiles = codes "TooManyProfiles"
refusal_name OutboxFull = codes "OutboxFull"
refusal_name BadDuration = codes "BadDuration"
refusal_name PastCalendar = codes "PastCalendar"
refusal_name TooManyOpen = codes "TooManyOpen"
refusal_name ResultTooLong = codes "ResultTooLong"
refusal_name VersionsExhausted = codes "VersionsExhausted"
refusal_name TransactionsExhausted = codes "TransactionsExhausted"
-- its two versions aren't printed
refusal_name (Behind seen found) = codes "Behind"
refusal_name Stopped = codes "Stopped"
refusal_name OutOfMemory = codes "OutOfMemory"
refusal_name UnknownRequest = codes "UnknownRequest"
refusal_name AlreadyAnswered = codes "AlreadyAnswered"
refusal_name Superseded = codes "Superseded"
refusal_name NothingInFlight = codes "NothingInFlight"
refusal_name StrangerInput = codes "StrangerInput"
refusal_name AuditOpen = codes "AuditOpen"
refusal_name NotTxProfile = codes "NotTxProfile"
