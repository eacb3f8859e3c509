-- The content at a path of the status port, and the status of the answer (RFC 9110, section 15).
use Rattle.std.specs.Prelude.{ℕ, ◌-◌, ◌*◌, nat_le, nat_lt, Bool, true, false, ◌&&◌, List, length, Option, None, Some, is_some, if◌then◌else◌}
use Rattle.std.specs.Result.{result_ok}
use Rattle.ocpp_scalars.specs.declared.instant.Instant.{Instant}
use Rattle.meaning.specs.declared.ask.Ask.{Ask}
use Rattle.meaning.specs.Ask.{ask_of}
use Rattle.point_book.specs.Book.{BookState}
use Rattle.site_rules.specs.Site.{place_of}
use Rattle.site_core.specs.State.{MachineState, book_at}
use Rattle.site_status.specs.declared.asked_path.StatusPath.{StatusPath}
use Rattle.site_status.specs.declared.asked_path.StatusPath.TheVariants as path
use Rattle.site_status.specs.declared.site_report.SiteReport.{SiteReport}
use Rattle.site_status.specs.Health.{health_of, status_of}

-- seconds in a day
abbrev pub day : ℕ
day = 86_400

abbrev pub points_of_page : ℕ
points_of_page = 20

-- pages are numbered from 1, and each has at least one of the points
abbrev pub is_page : ℕ → ℕ → Bool
is_page points number = nat_lt 0 number && nat_lt ((number - 1) * points_of_page) points

-- the request for a connector from a moment on: the next 24 hours, if the book has the connector
-- and the calendar the hours
abbrev pub asked_day : BookState → ℕ → Instant → Option Ask
asked_day book connector moment =
    if nat_le connector (length book.ceilings) then result_ok (ask_of connector moment day) else None

abbrev pub has_day : MachineState → Option ℕ → ℕ → Instant → Bool
has_day machine None connector moment = false
has_day machine (Some place) connector moment =
    is_some (asked_day (book_at machine place) connector moment)

-- there is a picture of a connector of the point with an identity
abbrev pub has_picture : MachineState → List ℕ → ℕ → Instant → Bool
has_picture machine point connector moment =
    has_day machine (place_of machine.site point) connector moment

abbrev pub found : Bool → ℕ
found is_there = if is_there then 200 else 404

-- the status of `/health` depends on the site's health, any other on whether the content exists
abbrev pub status_at : SiteReport → StatusPath → ℕ
status_at report path.Health = status_of (health_of (Some report.journal.state))
status_at report path.Metrics = 200
status_at report path.State = 200
status_at report (path.Page number) = found (is_page (length report.points.now) number)
status_at report (path.Picture point connector) =
    found (has_picture report.machine.now point.now connector report.moment)
