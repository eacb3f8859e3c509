-- If a profile of a higher level has a limit, the row doesn't prevail.
use Rattle.std.proofs.Common.{◌≡◌, ℕ, true, Option, subst, inr}
use Rattle.std.specs.Option.{IfSome}
use Rattle.meaning.specs.declared.cause.WhyNot.TheVariants.{BelowHigherLevel}
use Rattle.meaning.specs.View.{point_state}
use Rattle.explain_pages.specs.NotCounted.{holds_for}
use Rattle.explain_pages.specs.ByCases.Throughout.{IsSoUntil, Holds}
use Rattle.explain_pages.proofs.Others.{none_above, never_both}
use Rattle.explain_pages.proofs.row_at_connector.RowAtConnector.others_until.Goals as goal

pub returns-in-Some-holds_until : goal.returns-in-Some-holds_until
returns-in-Some-holds_until c =
    let row_at_connector = c.args.self.now in
    let so = subst (λ (until : Option ℕ). IfSome until (IsSoUntil (Holds BelowHigherLevel row_at_connector) c.args.instant)) c.in-Some-holds_until.is c.holds_until-2.ensures in
    record {
      later = so.later;
      each = λ k from before.
          inr (λ none. never_both _
          (subst (λ (at : ℕ). holds_for BelowHigherLevel (point_state row_at_connector.view) at row_at_connector.ask.start k row_at_connector.row.now ≡ true) row_at_connector.counts (so.each k from before))
          (none_above (point_state row_at_connector.view) row_at_connector.connector row_at_connector.ask.start k row_at_connector.row.now none));
    }
