-- The limits and defaults of the numbers of options.
use Rattle.std.specs.Prelude.{ℕ}

-- the most workers, and the most connections in all
abbrev pub max_workers : ℕ
max_workers = 8

abbrev pub max_sessions : ℕ
max_sessions = 64

-- the most connections at a time, and the defaults for these and for workers
abbrev pub max_seats : ℕ
max_seats = 1000

abbrev pub default_seats : ℕ
default_seats = 256

abbrev pub default_workers : ℕ
default_workers = 2

-- how long a call may wait for its reply, in seconds, and the default
abbrev pub max_call_timeout : ℕ
max_call_timeout = 3600

abbrev pub default_call_timeout : ℕ
default_call_timeout = 60

-- how long the replies of points may be awaited, in seconds
abbrev pub max_wait : ℕ
max_wait = 86400

-- the highest number of a line to undo
abbrev pub max_line : ℕ
max_line = 2147483647

-- the most connectors of a point, as in a site file
abbrev pub max_connectors : ℕ
max_connectors = 64
