-- With one more row, the indexes of the first rows so far are added.
use Rattle.std.proofs.Common.{◌∙◌, ℕ, List, Option, ap, sym, option_and_then, slice_get, slice_index}
use Rattle.std.specs.Option.{option_or}
use Rattle.profile.specs.declared.row.Row.{Row}
use Rattle.stacking.specs.ByCases.Candidates.{of_level}
use Rattle.stacking.proofs.PlaceLemmas.{added, option_or-third, passed}
use Rattle.stacking.proofs.levels.add_first_places.Goals.{then-is_row_at, else-is_row_at}
use Rattle.stacking.proofs.levels.add_first_places.Goals as goal

pub loop-place-preserved : goal.loop-place-preserved
loop-place-preserved c level inside =
    let rows = c.args.rows.now in
    let place = c.loop-place.place in
    let old : Option Row = slice_get rows (slice_index c.args.places.now level) in
    let before = c.loop-place.invariant level inside in
    elim c.if-is_row_at.branch [
      | then-is_row_at w ↦
          ap (λ (places : List ℕ). slice_get rows (slice_index places level)) w.places-is
          ∙ w.add_place.ensures level inside
          ∙ ap (λ (first : Option Row). option_or first (option_and_then (of_level level) (slice_get rows place))) before
          ∙ option_or-third old _ _
          ∙ ap (option_or old) (sym (added c.args.purpose c.args.connector level rows place c.index-rows-place.result c.loop-place-test.true c.index-rows-place.is
          (sym c.is_row_at.ensures ∙ w.if-is_row_at.true)))
      | else-is_row_at w ↦
          ap (λ (places : List ℕ). slice_get rows (slice_index places level)) w.places-is
          ∙ before
          ∙ ap (option_or old) (sym (passed c.args.purpose c.args.connector level rows place c.index-rows-place.result c.loop-place-test.true c.index-rows-place.is
          (sym c.is_row_at.ensures ∙ w.if-is_row_at.false)))
    ]
