-- The limits of numbers, of kept requests and of calls. All are this system's choice, except the
-- highest transaction.
use Rattle.std.specs.Prelude.{ℕ}

-- the highest version, request, link and call number
abbrev pub max_number : ℕ
max_number = 1_000_000_000_000

-- the highest transaction number: the greatest whole number that a message may have
abbrev pub max_transaction : ℕ
max_transaction = 2_147_483_647

-- the most requests for schedules that are kept, answered or not
abbrev pub max_requests : ℕ
max_requests = 64

-- the most unconfirmed calls of a point, including the one in flight
abbrev pub max_calls : ℕ
max_calls = 256
