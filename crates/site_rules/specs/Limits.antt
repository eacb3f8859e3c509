-- The limits of a site file (our choice).
use Rattle.std.specs.Prelude.{ℕ}

-- the maximum size of a site file, in bytes
abbrev pub max_site_bytes : ℕ
max_site_bytes = 16_777_216

-- the maximum number of charge points of a site
abbrev pub max_points : ℕ
max_points = 1_000

-- the maximum number of connectors of a point
abbrev pub max_connectors : ℕ
max_connectors = 64

-- the maximum length of a point's identity, in characters
abbrev pub max_point_id_characters : ℕ
max_point_id_characters = 48
