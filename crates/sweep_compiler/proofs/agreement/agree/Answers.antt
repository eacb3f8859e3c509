-- The schedules agree up to the next interval, or contradict each other there.
use Rattle.std.proofs.Common.{◌≡◌, ◌≤◌, length, true, false, refl, inl, inr, arith, rules}
use Rattle.std.proofs.lemmas.Bool.{false≢true}
use Rattle.sweep_compiler.specs.ByCases.Agree.{contradict}
use Rattle.sweep_compiler.proofs.Agreeing.{agree_left, agree_right, agree_all, contradicted}
use Rattle.sweep_compiler.proofs.agreement.agree.Goals as goal

pub returns-then-contradicts : goal.returns-then-contradicts
returns-then-contradicts c =
    let against : contradict c.of-left.result c.of-right.result ≡ true = cc in (
      λ so. absurd (false≢true so),
      λ agree. absurd (contradicted c.args.first.now c.args.first_start c.loop-one.one c.args.second.now c.args.second_start c.loop-one.other
          c.of-left.result c.of-right.result c.of-left.ensures c.of-right.ensures against agree),
    )

pub loop-one-preserved-then-left-right : goal.loop-one-preserved-then-left-right
loop-one-preserved-then-left-right c =
    let so : contradict c.of-left.result c.of-right.result ≡ false = cc in
    record {
      agree = agree_left c.args.first.now c.args.first_start c.loop-one.one c.args.second.now c.args.second_start c.loop-one.other
          c.of-left.result c.of-right.result c.of-left.ensures c.of-right.ensures so (omega arith) c.loop-one.invariant.agree;
      inside = search rules;
      within = c.loop-one.invariant.within;
    }

pub loop-one-preserved : goal.loop-one-preserved
loop-one-preserved c =
    let so : contradict c.of-left.result c.of-right.result ≡ false = cc in
    record {
      agree = agree_right c.args.first.now c.args.first_start c.loop-one.one c.args.second.now c.args.second_start c.loop-one.other
          c.of-left.result c.of-right.result c.of-left.ensures c.of-right.ensures so (omega arith) c.loop-one.invariant.agree;
      inside = c.loop-one.invariant.inside;
      within = search rules;
    }

pub returns-else-other-seconds : goal.returns-else-other-seconds
returns-else-other-seconds c =
    let past : length c.args.second.now.periods ≤ c.loop-one.other = search rules in
    let all = agree_all c.args.first.now c.args.first_start c.loop-one.one c.args.second.now c.args.second_start c.loop-one.other
    c.loop-one.invariant.agree (inr past) in
    (λ so. all, λ agree. refl)

pub returns-after-loop-one : goal.returns-after-loop-one
returns-after-loop-one c =
    let past : length c.args.first.now.periods ≤ c.loop-one.one = search rules in
    let all = agree_all c.args.first.now c.args.first_start c.loop-one.one c.args.second.now c.args.second_start c.loop-one.other
    c.loop-one.invariant.agree (inl past) in
    (λ so. all, λ agree. refl)
