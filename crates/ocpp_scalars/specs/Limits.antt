-- The limits of scalars, each with its source.
use Rattle.std.specs.Prelude.{ℕ}

-- the last second of the year 9999, in seconds since 1970-01-01T00:00:00Z: a year has four digits
-- (RFC 3339, section 5.6)
abbrev pub last_second : ℕ
last_second = 253_402_300_799

-- the day of the last second, in days since 1 January 1970
abbrev pub last_day : ℕ
last_day = 2_932_896

-- the most digits of a fraction of a second (our choice: nanoseconds; RFC 3339 sets no bound)
abbrev pub max_fraction_digits : ℕ
max_fraction_digits = 9

-- the most characters of an idTag (OCPP 1.6, chapter 7, IdToken: CiString20Type)
abbrev pub max_id_tag_characters : ℕ
max_id_tag_characters = 20

-- the most bytes of a number's text (our choice: RFC 8259, section 9, lets a reader set bounds)
abbrev pub max_number_bytes : ℕ
max_number_bytes = 32

-- the most tenths of a limit, 100,000,000.0 A or W (our choice: OCPP 1.6 sets no bound)
abbrev pub max_tenths : ℕ
max_tenths = 1_000_000_000

-- the largest integer (OCPP 1.6 has integers of 32 bits: two's complement)
abbrev pub max_whole : ℕ
max_whole = 2_147_483_647

-- the size of the smallest integer, which is negative
abbrev pub max_negative_whole : ℕ
max_negative_whole = 2_147_483_648
