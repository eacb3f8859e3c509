-- The first rows at one or two connectors are the candidates.
use Rattle.std.proofs.Common.{◌≡◌, ◌∙◌, Option, ap, slice_get, slice_index}
use Rattle.std.specs.Option.{option_or}
use Rattle.profile.specs.declared.row.Row.{Row}
use Rattle.stacking.specs.ByCases.Candidates.{first_at, own_connector}
use Rattle.stacking.proofs.PlaceLemmas.{one_of_two}
use Rattle.stacking.proofs.levels.candidate_row_indexes.Goals as goal

pub returns-then-shared-own : goal.returns-then-shared-own
returns-then-shared-own c level inside =
    let purpose = c.args.purpose in
    let rows = c.args.rows.now in
    let connector = c.args.connector in
    let own : slice_get rows (slice_index c.first_row_indexes-places.result level)
    ≡ first_at purpose (own_connector purpose connector) level rows =
    c.first_row_indexes-places.ensures level inside ∙ ap (λ n. first_at purpose n level rows) c.own_connector-own.ensures in
    c.add_first_places.ensures level inside
    ∙ ap (λ (first : Option Row). option_or first (first_at purpose c.shared_connector-shared.result level rows)) own
    ∙ ap (λ n. option_or (first_at purpose (own_connector purpose connector) level rows) (first_at purpose n level rows)) c.shared_connector-shared.ensures
    ∙ one_of_two purpose rows connector level
