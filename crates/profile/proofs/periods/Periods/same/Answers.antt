-- `==` decides equality of periods, and so of lists of periods.
use Rattle.std.proofs.Common.{◌≡◌, ◌==◌, ◌&&◌, rules}
use Rattle.std.specs.Bool.{Decides}
use Rattle.std.specs.Option.{option_eq}
use Rattle.std.proofs.lemmas.Slice.Eq.{slice_eq-Decides}
use Rattle.profile.specs.declared.period.Period.{Period}
use Rattle.profile.proofs.periods.Periods.same.Goals as goal

decided : (a b : Period) → Decides ((a.start == b.start) && ((a.limit == b.limit) && option_eq (λ m n. m == n) a.number_phases b.number_phases)) (a ≡ b)
decided a b = search rules

pub returns : goal.returns
returns c =
    let decides = slice_eq-Decides decided c.as_slice.result.now c.as_slice-2.result.now c.eq.result c.eq.ensures in
    search (rules, decides, c.as_slice.ensures.value, c.as_slice-2.ensures.value)
