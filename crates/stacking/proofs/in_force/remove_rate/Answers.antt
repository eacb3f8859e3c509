-- Only this level loses its rate, and the levels stay in rising order.
use Rattle.std.proofs.Common.{rules, ◌≡◌, true, false}
use Rattle.stacking.specs.ByCases.InForce.{IsPlaceOf, has_level_at}
use Rattle.stacking.proofs.LevelLemmas.{not_there, taken_out, taken_out_rises}
use Rattle.stacking.proofs.in_force.remove_rate.Goals as goal

pub returns-then-has_level_at-clause-set : goal.returns-then-has_level_at-clause-set
returns-then-has_level_at-clause-set c =
    let rates = c.args.rates.now.items in
    let is : IsPlaceOf rates c.args.level c.place_of-place.result = search rules in
    let there : has_level_at rates c.args.level c.place_of-place.result ≡ true = search rules in
    let out = taken_out c.place_of-place.result c.args.level rates c.requires.rising is.below there in
    search (rules, out)

pub returns-then-has_level_at-clause-rising : goal.returns-then-has_level_at-clause-rising
returns-then-has_level_at-clause-rising c =
    let rise = taken_out_rises c.place_of-place.result c.args.rates.now.items c.requires.rising in
    search (rules, rise)

pub returns-else-has_level_at-clause-set : goal.returns-else-has_level_at-clause-set
returns-else-has_level_at-clause-set c =
    let rates = c.args.rates.now.items in
    let is : IsPlaceOf rates c.args.level c.place_of-place.result = search rules in
    let apart : has_level_at rates c.args.level c.place_of-place.result ≡ false = search rules in
    not_there c.place_of-place.result c.args.level rates c.requires.rising is apart
