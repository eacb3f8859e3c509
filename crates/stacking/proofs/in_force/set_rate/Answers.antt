-- Only the rate of this level changes, and the levels stay in rising order.
use Rattle.std.proofs.Common.{rules, ◌≡◌, true, false}
use Rattle.stacking.specs.ByCases.InForce.{IsPlaceOf, has_level_at}
use Rattle.stacking.proofs.LevelLemmas.{put_between, put_between_rises, put_over, put_over_rises}
use Rattle.stacking.proofs.in_force.set_rate.Goals as goal

pub returns-then-has_level_at-clause-set : goal.returns-then-has_level_at-clause-set
returns-then-has_level_at-clause-set c =
    let rates = c.args.rates.now.items in
    let is : IsPlaceOf rates c.args.level c.place_of-place.result = search rules in
    let there : has_level_at rates c.args.level c.place_of-place.result ≡ true = search rules in
    put_over c.place_of-place.result c.args.level c.args.rate rates is.below there

pub returns-then-has_level_at-clause-rising : goal.returns-then-has_level_at-clause-rising
returns-then-has_level_at-clause-rising c =
    let rates = c.args.rates.now.items in
    let there : has_level_at rates c.args.level c.place_of-place.result ≡ true = search rules in
    put_over_rises c.place_of-place.result c.args.level c.args.rate rates c.requires.rising there

pub returns-in-Ok-clause-set : goal.returns-in-Ok-clause-set
returns-in-Ok-clause-set c =
    let rates = c.args.rates.now.items in
    let is : IsPlaceOf rates c.args.level c.place_of-place.result = search rules in
    let set = put_between c.place_of-place.result c.args.level c.args.rate rates is.below in
    search (rules, set)

pub returns-in-Ok-clause-rising : goal.returns-in-Ok-clause-rising
returns-in-Ok-clause-rising c =
    let rates = c.args.rates.now.items in
    let is : IsPlaceOf rates c.args.level c.place_of-place.result = search rules in
    let apart : has_level_at rates c.args.level c.place_of-place.result ≡ false = search rules in
    let rise = put_between_rises c.place_of-place.result c.args.level c.args.rate rates c.requires.rising is apart in
    search (rules, rise)
