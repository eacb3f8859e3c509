-- The number so far with the remaining digits makes the whole number.
use Rattle.std.proofs.Common.{◌≡◌, ◌≤◌, drop}
use Rattle.meaning.specs.Limits.{max_duration}
use Rattle.jobs.specs.Duration.{number_after}
use Rattle.jobs.proofs.duration.split_digits.Given as goal

abbrev pub invariant-loop-count : goal.invariant-loop-count
invariant-loop-count l =
    (number_after l.number (drop l.count l.text) ≡ number_after 0 l.text) × (l.number ≤ max_duration)
