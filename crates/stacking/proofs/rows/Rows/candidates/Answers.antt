-- The iterator yields the candidates by falling level.
use Rattle.std.proofs.Common.{◌<◌, List, subst}
use Rattle.std.specs.List.{All}
use Rattle.std.proofs.lemmas.List.Elements.{recursion_from_All}
use Rattle.profile.specs.declared.row.Row.{Row}
use Rattle.stacking.proofs.CandidateLemmas.{by-level}
use Rattle.stacking.proofs.PlaceLemmas.{by_places}
use Rattle.stacking.proofs.rows.Rows.candidates.Goals as goal

pub returns : goal.returns
returns c =
    let rows = c.as_slice-rows.result.now in
    let above = c.level_above.result in
    let below = subst (λ (rows : List Row). All (λ (row : Row). row.profile.stack_level < above) rows)
    c.as_slice-rows.ensures.value c.level_above.ensures.above in
    let each = recursion_from_All (λ (row : Row). row.profile.stack_level < above) _ below in
    let same = by_places c.args.purpose rows c.args.connector c.candidate_row_indexes.result above c.level_above.ensures.level c.candidate_row_indexes.ensures in
    rw (same, c.as_slice-rows.ensures.value, ← c.self.view_is) (by-level _ _ _ _ each c.self.invariant.apart)
