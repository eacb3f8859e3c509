-- A row that counts keeps a limit until the instant that the loop returns.
use Rattle.std.proofs.Common.{◌≡◌, ℕ, ◌≤◌, true, Option, is_some, sym, ap, subst, ◌∙◌, arith}
use Rattle.std.proofs.lemmas.Bool.Decides.{nat_tests}
use Rattle.profile.specs.ChargingProfile.{rate}
use Rattle.meaning.specs.Prevailing.{has_its_transaction}
use Rattle.meaning.specs.View.{point_state}
use Rattle.explain_pages.proofs.Reaching.{reached}
use Rattle.explain_pages.proofs.row_at_connector.RowAtConnector.other_until.Goals as goal

pub returns-then-is_candidate : goal.returns-then-is_candidate
returns-then-is_candidate c =
    let row = c.row-item.result in
    let level : c.args.least ≤ row.profile.stack_level = grind (arith, nat_tests, c.if-row-least.true) in
    let here : is_some (rate row.profile c.base_of-base.result c.args.instant) ≡ true =
    ap is_some (sym c.rate_at.ensures) ∙ (sym c.is_some.ensures ∙ c.if-is_some.true) in
    record {
      later = c.limit_until.ensures.later;
      each = λ k from before.
          reached c.args.purpose (point_state c.args.self.now.view) c.args.self.now.at c.args.self.now.ask.start k c.args.least c.loop-row.row-index row
          (record {
            has = subst (λ (started : Option ℕ). has_its_transaction c.args.purpose started ≡ true) c.active_since.ensures (sym c.has_its_transaction.ensures ∙ c.if-not-has_its_transaction.false);
            within = c.loop-row-test.true;
            is = c.row-item.is;
            speaks = sym c.is_candidate.ensures ∙ c.if-is_candidate.true;
          })
          (subst (λ (n : ℕ). is_some (rate row.profile n k) ≡ true) c.base_of-base.ensures (c.limit_until.ensures.each k from before))
          level;
    }
