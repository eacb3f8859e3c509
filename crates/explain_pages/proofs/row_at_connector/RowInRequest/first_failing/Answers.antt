-- A reason that holds for each connector of the loop holds for all for which the row is checked.
use Rattle.std.proofs.Common.{◌≡◌, ℕ, ◌+◌, true, false, ⊎_elim, sym, subst, ◌∙◌, arith}
use Rattle.std.proofs.lemmas.Bool.{cases_lt}
use Rattle.meaning.specs.View.{point_state}
use Rattle.explain_pages.specs.NotCounted.{is_of_one, is_of_active}
use Rattle.explain_pages.specs.ByCases.Throughout.{FirstFailing, SaysOf}
use Rattle.explain_pages.proofs.Connectors.{only_active, active_looked, asked_looked, one_looked, none_past}
use Rattle.explain_pages.proofs.Failing.{fails_for, says_for, found_one}
use Rattle.explain_pages.proofs.Others.{never_both}
use Rattle.explain_pages.proofs.row_at_connector.RowInRequest.first_failing.Goals.{then-is_of_active+in_default-first_failing, else-is_of_active}
use Rattle.explain_pages.proofs.row_at_connector.RowInRequest.first_failing.Goals as goal

pub returns-then-is_of_one : goal.returns-then-is_of_one
returns-then-is_of_one c =
    let asked = c.args.self.now in
    let single : is_of_one asked.ask.connector asked.row.now ≡ true = sym c.is_of_one.ensures ∙ c.if-is_of_one.true in
    found_one c.args.reason asked asked.ask.connector c.looked_at.result c.first_failing.result c.looked_at.ensures
    (asked_looked (point_state asked.view) asked.ask.connector asked.row.now single)
    (λ connector row_at_connector. one_looked (point_state asked.view) asked.ask.connector asked.row.now connector single row_at_connector)
    c.first_failing.ensures

pub returns-in-Some : goal.returns-in-Some
returns-in-Some c =
    let asked = c.args.self.now in
    let row_at_connector = c.looked_at-then-is_of_active.result in
    let whole : is_of_one asked.ask.connector asked.row.now ≡ false = sym c.is_of_one.ensures ∙ c.if-is_of_one.false in
    fails_for c.args.reason asked c.in-Ok.connector row_at_connector c.in-Some.failing c.looked_at-then-is_of_active.ensures
    (active_looked (point_state asked.view) asked.ask.connector asked.row.now c.in-Ok.connector whole (sym c.is_of_active.ensures ∙ c.if-is_of_active.true))
    (subst (FirstFailing c.args.reason row_at_connector) c.in-Some.is c.first_failing-then-is_of_active.ensures)

pub loop-place-preserved : goal.loop-place-preserved
loop-place-preserved c = λ connector second most row_at_connector from before.
    let asked = c.args.self.now in
    let whole : is_of_one asked.ask.connector asked.row.now ≡ false = sym c.is_of_one.ensures ∙ c.if-is_of_one.false in
    let here : c.in-Ok.connector ≡ c.loop-place.place + 1 = c.in-Ok.ensures.1 in
    ⊎_elim
    (λ later.
    let same : c.in-Ok.connector ≡ connector = omega (arith, here, later, most) in
    elim c.if-is_of_active.branch [
      | then-is_of_active+in_default-first_failing w ↦
          subst (λ (n : ℕ). SaysOf c.args.reason asked n second) same
          (says_for c.args.reason asked c.in-Ok.connector w.looked_at-then-is_of_active.result w.looked_at-then-is_of_active.ensures
          (subst (FirstFailing c.args.reason w.looked_at-then-is_of_active.result) w.in_default-first_failing.is w.first_failing-then-is_of_active.ensures) second from before)
      | else-is_of_active w ↦
          absurd (never_both (is_of_active (point_state asked.view) asked.row.now connector)
          (only_active (point_state asked.view) asked.ask.connector asked.row.now connector whole row_at_connector)
          (subst (λ (n : ℕ). is_of_active (point_state asked.view) asked.row.now n ≡ false) same (sym c.is_of_active.ensures ∙ w.if-is_of_active.false)))
    ])
    (λ early. c.loop-place.invariant connector second early row_at_connector from before)
    (cases_lt c.loop-place.place connector)

pub returns : goal.returns
returns c = λ connector second row_at_connector from before.
    let asked = c.args.self.now in
    let end = c.loop-place-test.false in
    let whole : is_of_one asked.ask.connector asked.row.now ≡ false = sym c.is_of_one.ensures ∙ c.if-is_of_one.false in
    ⊎_elim
    (λ past. absurd (none_past (point_state asked.view) asked.row.now connector (only_active (point_state asked.view) asked.ask.connector asked.row.now connector whole row_at_connector) (omega (arith, past, end))))
    (λ early. c.loop-place.invariant connector second early row_at_connector from before)
    (cases_lt c.loop-place.place connector)
