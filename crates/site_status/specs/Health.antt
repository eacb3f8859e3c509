-- When a site is well, and the HTTP status for its health (RFC 9110, section 15).
use Rattle.std.specs.Prelude.{ℕ, Option, None, Some}
use Rattle.site_status.specs.declared.journal_report.JournalState.{JournalState}
use Rattle.site_status.specs.declared.journal_report.JournalState.TheVariants.{Open, Full, Broken}
use Rattle.site_status.specs.declared.health.Health.{Health}
use Rattle.site_status.specs.declared.health.Health.TheVariants as health

-- by its journal, which is known once its state is restored
abbrev pub health_of : Option JournalState → Health
health_of None = health.Restoring
health_of (Some Open) = health.Well
health_of (Some Full) = health.DeviceFull
health_of (Some Broken) = health.JournalBroken

-- 200 if it is well, otherwise 503
abbrev pub status_of : Health → ℕ
status_of health.Well = 200
status_of health.Restoring = 503
status_of health.DeviceFull = 503
status_of health.JournalBroken = 503
