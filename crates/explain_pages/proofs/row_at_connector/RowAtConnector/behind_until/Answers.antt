-- If there is a reason why the row doesn't prevail, it doesn't.
use Rattle.std.proofs.Common.{◌≡◌, ℕ, Option, Some, None, sym, ap, ◌∙◌, inr, arith}
use Rattle.meaning.specs.declared.cause.WhyNot.{WhyNot}
use Rattle.meaning.specs.View.{point_state}
use Rattle.meaning.specs.WhyNot.{why_not}
use Rattle.explain_pages.proofs.row_at_connector.RowAtConnector.behind_until.Goals as goal

some_is_not : (why : WhyNot) (given : Option WhyNot) → given ≡ Some why → given ≡ None → ⊥
some_is_not why given h k = cc

pub returns-in-Some-why_not : goal.returns-in-Some-why_not
returns-in-Some-why_not c =
    let row_at_connector = c.args.self.now in
    let at = c.seconds.ensures.value in
    record {
      later = omega (arith, at);
      each = λ k from before.
          let here : c.args.instant ≡ k = omega (arith, at, from, before) in
          inr (λ none. some_is_not _ (why_not (point_state row_at_connector.view) row_at_connector.connector row_at_connector.ask.start k row_at_connector.row.now)
          (ap (λ (n : ℕ). why_not (point_state row_at_connector.view) row_at_connector.connector row_at_connector.ask.start n row_at_connector.row.now) (sym here)
          ∙ (sym (c.why_not.ensures row_at_connector.row.now row_at_connector.stands) ∙ c.in-Some-why_not.is)) none);
    }
