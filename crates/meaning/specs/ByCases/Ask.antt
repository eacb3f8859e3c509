-- The request of allowed numbers, as a value. The clause `fields` of `Ask::try_new` defines it.
use Rattle.std.specs.Prelude.{◌≡◌, ℕ, ◌+◌, nat_le, nat_lt, true}
use Rattle.std.proofs.Common.{leb-true, ltb-true}
use Rattle.ocpp_scalars.specs.Limits.{last_second}
use Rattle.meaning.specs.declared.ask.Ask.{Ask}
use Rattle.meaning.specs.Limits.{max_duration}

abbrev pub ask_with : (connector start duration : ℕ)
    → nat_lt 0 duration ≡ true → nat_le duration max_duration ≡ true
    → nat_le (start + duration) (last_second + 1) ≡ true → Ask
ask_with connector start duration some most within = record {
  connector = connector;
  start = start;
  duration = duration;
  some = ltb-true _ _ some;
  most = leb-true _ _ most;
  within = leb-true _ _ within;
}
