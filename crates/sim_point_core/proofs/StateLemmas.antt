-- A call in flight fits the point's book, whatever an action changes there.
use Rattle.std.proofs.Common.{◌≡◌, ℕ, Bool, true, false, cond, Option, Some, None, Result, Ok, Err, refl, ap, ◌∙◌}
use Rattle.std.specs.List.{list_any}
use Rattle.ocpp_scalars.specs.declared.refusal.Refusal.{Refusal}
use Rattle.profile.specs.declared.unit.Unit.{Unit}
use Rattle.profile.specs.declared.row.Row.{Row}
use Rattle.profile.specs.Parts.{profile_of_parts}
use Rattle.profile.specs.Changes.{matches}
use Rattle.messages.specs.declared.action.Action.{Action}
use Rattle.messages.specs.declared.action.Action.TheVariants as actions
use Rattle.messages.specs.declared.response.Response.TheVariants.{Accepted, Unknown}
use Rattle.point_book.specs.Book.{BookState}
use Rattle.point_book.specs.Changes.{book_cleared}
use Rattle.sim_point_core.specs.declared.point_call.PointCall.{PointCall}
use Rattle.sim_point_core.specs.declared.point_call.PointCall.TheVariants.{Heartbeat, StartTransaction, StopTransaction}
use Rattle.sim_point_core.specs.declared.point_call.InFlight.{InFlight}
use Rattle.sim_point_core.specs.Answer.{Answered, answered, installed_unless, installed_if_made, row_made, row_refusal}
use Rattle.sim_point_core.specs.ByCases.Steps.{Fits, IsOf}

installed-ceilings : (book : BookState) (row : Row) (refusal : Option Refusal)
    → (installed_unless book row refusal).book.ceilings ≡ book.ceilings
installed-ceilings book row None = refl
installed-ceilings book row (Some refusal) = refl

cleared-ceilings : (test : Bool) (book new : BookState) → new.ceilings ≡ book.ceilings
    → (cond {A = Answered} test (record { response = Accepted; book = new }) (record { response = Unknown; book = book })).book.ceilings
    ≡ book.ceilings
cleared-ceilings true book new same = same
cleared-ceilings false book new same = refl

made-ceilings : (unit : Unit) (book : BookState) (row : Result Row Refusal)
    → (installed_if_made unit book row).book.ceilings ≡ book.ceilings
made-ceilings unit book (Ok row) = installed-ceilings book row (row_refusal unit book row)
made-ceilings unit book (Err refusal) = refl

answered-ceilings : (unit : Unit) (book : BookState) (now : ℕ) (action : Action)
    → (answered unit book now action).book.ceilings ≡ book.ceilings
answered-ceilings unit book now (actions.SetChargingProfile connector parts) =
    made-ceilings unit book (row_made now connector (profile_of_parts parts))
answered-ceilings unit book now (actions.ClearChargingProfile criteria) =
    cleared-ceilings (list_any (matches criteria) book.rows) book (book_cleared book criteria) refl
-- any other action leaves the book unchanged
answered-ceilings unit book now action = refl

fits-with : (old new : BookState) (call : PointCall) → new.ceilings ≡ old.ceilings → Fits old call → Fits new call
fits-with old new Heartbeat same fits = fits
fits-with old new (StartTransaction connector begin profile) same fits = rw same fits
fits-with old new (StopTransaction transaction meter timestamp) same fits = fits

flight-with : (old new : BookState) (call : Option InFlight) → new.ceilings ≡ old.ceilings → IsOf old call → IsOf new call
flight-with old new None same fits = fits
flight-with old new (Some call) same fits = fits-with old new call.call same fits

pub flight-kept : (unit : Unit) (old new : BookState) (now : ℕ) (action : Action) (call : Option InFlight)
    → new ≡ (answered unit old now action).book → IsOf old call → IsOf new call
flight-kept unit old new now action call is fits =
    flight-with old new call (ap (λ (b : BookState). b.ceilings) is ∙ answered-ceilings unit old now action) fits
