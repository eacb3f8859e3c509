-- No period begins up to the last of these seconds.
use Rattle.std.proofs.Common.{◌≡◌, ℕ, ◌+◌, ◌-◌, ◌<◌, ◌≤◌, Some, None, sym, subst, ◌∙◌, arith}
use Rattle.std.proofs.lemmas.Bool.Decides.{nat_tests}
use Rattle.profile.specs.ChargingProfile.{offset}
use Rattle.profile.specs.Periods.{limit_in}
use Rattle.explain_pages.proofs.Counting.{ahead}
use Rattle.explain_pages.proofs.row_at_connector.RowAtConnector.ahead_until.Goals as goal

pub returns-in-None : goal.returns-in-None
returns-in-None c =
    let row = c.args.self.now.row.now in
    let at = c.in_ok-offset.offset in
    let until = c.min-until.result in
    let turn_later = c.counts_on_until-turn.ensures.later in
    let below : until ≤ c.counts_on_until-turn.result = grind (arith, nat_tests, c.min-until.ensures) in
    let later : c.args.instant < until = grind (arith, nat_tests, c.min-until.ensures) in
    record {
      later = later;
      each = λ k from before.
          ahead row _ (at + (until - 1 - c.args.instant)) (at + (k - c.args.instant))
          (subst (λ (n : ℕ). offset row.profile n k ≡ Some (at + (k - c.args.instant))) c.base_of-base.ensures
          (c.counts_on_until-turn.ensures.each k from (omega (arith, before, below))))
          (omega (arith, from, before))
          (subst (λ (n : ℕ). limit_in row.profile.schedule.periods (at + (until - 1 - n)) ≡ None) c.seconds-2.ensures.value (sym c.limit_in_force.ensures ∙ c.in-None.is));
    }
