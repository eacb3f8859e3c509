-- Retransmissions of a StartTransaction.
use Rattle.std.specs.Prelude.{◌==◌, Bool, ◌&&◌}
use Rattle.std.specs.Ordering.{int_eq}
use Rattle.std.specs.Str.{str_eq_ignore_ascii_case}
use Rattle.transactions.specs.declared.begin.Begin.{Begin}

-- A charge point sends a StartTransaction again until it is answered (OCPP 1.6, 3.7 and 4.8). It is
-- a retransmission if idTag, meterStart and timestamp are equal (this system's choice); in an
-- idTag, ASCII letters of either case are equal (chapter 7, IdToken: CiString20Type).
abbrev pub is_repeat : Begin → Begin → Bool
is_repeat begin earlier =
    str_eq_ignore_ascii_case begin.id_tag earlier.id_tag
    && int_eq begin.meter_start earlier.meter_start
    && (begin.timestamp == earlier.timestamp)
