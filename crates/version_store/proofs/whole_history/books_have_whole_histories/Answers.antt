-- By the machine's laws from the opening state on.
use Rattle.std.proofs.Common.{ℕ, List, [], ◌∷◌, ◌++◌, ◌⊎◌, inl, inr, Option, refl, sym, ◌∙◌, subst}
use Rattle.std.specs.Prelude.{IfSome}
use Rattle.site_rules.specs.Site.{SiteState}
use Rattle.site_core.specs.Audit.{AuditState}
use Rattle.site_core.specs.Audits.{IsAuditBefore, IsAuditRight, IsBegunIn}
use Rattle.site_core.specs.State.{opening, no_numbers}
use Rattle.site_core.specs.History.{Event, Legal, answered_event}
use Rattle.site_core.specs.Theory.Histories.{legal_join}
use Rattle.version_store.proofs.HistoryLemmas.{opening_is_machine, opening_unaudited, whole_legal, whole_changes, whole_answers}
use Rattle.version_store.proofs.whole_history.books_have_whole_histories.Goals as goal

pub returns-clause-reached : goal.returns-clause-reached
returns-clause-reached c = whole_legal

pub returns-clause-counts : goal.returns-clause-counts
returns-clause-counts c = λ store is. (whole_changes store is, whole_answers store is)

pub returns-clause-order : goal.returns-clause-order
returns-clause-order c = λ store is point place here.
    c.histories_send_calls_in_order.ensures.order is.site no_numbers (is.earlier ++ is.played)
    store.present (whole_legal store is) point place here

pub returns-clause-once : goal.returns-clause-once
returns-clause-once c = λ store is number.
    let whole = is.earlier ++ is.played in
    let legal = whole_legal store is in (
      c.requests_are_answered_once.ensures.once is.site no_numbers whole store.present legal number,
      c.requests_are_answered_once.ensures.kept is.site no_numbers whole store.present legal number,
    )

pub returns-clause-right : goal.returns-clause-right
returns-clause-right c = λ store is number book ask answer new adds.
    let whole = is.earlier ++ is.played in
    let events = answered_event number book ask answer ∷ [] in
    let last : Legal store.present events new.present = (new.present, adds.made, refl) in
    let legal = legal_join (opening is.site) whole store.present events new.present
    (whole_legal store is) last in
    c.answers_are_right.ensures is.site no_numbers whole [] number book ask answer new.present legal

in_the_history : (site : SiteState) (events : List Event) (place : ℕ) (audit : AuditState)
    → IsBegunIn (opening site) events place audit ⊎ IsAuditBefore (opening site) place audit
    → IsBegunIn (opening site) events place audit
in_the_history site events place audit (inl since) = since
in_the_history site events place audit (inr before) =
    absurd (cc (sym (opening_unaudited site place) ∙ before.is_kept))

pub returns-clause-audits : goal.returns-clause-audits
returns-clause-audits c = λ store is place audit here. (
  in_the_history is.site (is.earlier ++ is.played) place audit
      (c.audits_have_their_books.ensures (opening is.site) (is.earlier ++ is.played) store.present
      (opening_is_machine is.site)
      (whole_legal store is) place audit here),
  subst (λ (a : Option AuditState). IfSome a IsAuditRight) here (is.verdicts place),
)
