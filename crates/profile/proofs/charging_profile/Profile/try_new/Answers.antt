-- Each return is that of the definition, cause by cause.
use Rattle.std.proofs.Common.{◌≡◌, ◌≤◌, length, true, false, None, ap, rules, arith}
use Rattle.profile.specs.Limits.{max_periods}
use Rattle.profile.specs.Kind.{kind_of}
use Rattle.profile.specs.Periods.{are_in_order}
use Rattle.profile.proofs.ProfileLemmas.{level_refused, many_refused, order_refused, kind_refused, profile_made}
use Rattle.profile.proofs.charging_profile.Profile.try_new.Goals as goal

pub returns-then-parts-gt-MAX_STACK_LEVEL-clause-made : goal.returns-then-parts-gt-MAX_STACK_LEVEL-clause-made
returns-then-parts-gt-MAX_STACK_LEVEL-clause-made c =
    let refused = level_refused c.args.parts in grind (arith, refused)

pub returns-then-periods-gt-MAX_PERIODS-clause-made : goal.returns-then-periods-gt-MAX_PERIODS-clause-made
returns-then-periods-gt-MAX_PERIODS-clause-made c =
    let length-is = ap length c.as_slice-periods.ensures.value in
    let refused = many_refused c.args.parts in grind (arith, length-is, refused)

pub returns-then-not-are_in_order-clause-made : goal.returns-then-not-are_in_order-clause-made
returns-then-not-are_in_order-clause-made c =
    let length-is = ap length c.as_slice-periods.ensures.value in
    let order-is = ap are_in_order c.as_slice-periods.ensures.value in
    let fails : are_in_order c.args.parts.schedule.periods ≡ false = search rules in
    let refused = order_refused c.args.parts in grind (arith, length-is, fails, refused)

pub returns-in_default-clause-made : goal.returns-in_default-clause-made
returns-in_default-clause-made c =
    let length-is = ap length c.as_slice-periods.ensures.value in
    let order-is = ap are_in_order c.as_slice-periods.ensures.value in
    let ordered : are_in_order c.args.parts.schedule.periods ≡ true = search rules in
    let none : kind_of c.args.parts.kind c.args.parts.recurrency ≡ None = search rules in
    let refused = kind_refused c.args.parts in grind (arith, length-is, ordered, none, refused)

pub returns-clause-made : goal.returns-clause-made
returns-clause-made c =
    let length-is = ap length c.as_slice-periods.ensures.value in
    let order-is = ap are_in_order c.as_slice-periods.ensures.value in
    let few : length c.args.parts.schedule.periods ≤ max_periods = omega (arith, length-is) in
    let ordered : are_in_order c.args.parts.schedule.periods ≡ true = search rules in
    profile_made c.args.parts _ few ordered (search rules)
