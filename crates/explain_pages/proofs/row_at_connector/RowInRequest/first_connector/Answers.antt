-- The connectors for which the row is checked.
use Rattle.std.proofs.Common.{◌≡◌, false, ⊎_elim, sym, ◌∙◌, arith}
use Rattle.std.proofs.lemmas.Bool.{cases_lt}
use Rattle.meaning.specs.View.{point_state}
use Rattle.explain_pages.specs.NotCounted.{is_of_one}
use Rattle.explain_pages.proofs.Connectors.{only_active, asked_looked, none_past}
use Rattle.explain_pages.proofs.row_at_connector.RowInRequest.first_connector.Goals as goal

pub returns-then-is_of_one : goal.returns-then-is_of_one
returns-then-is_of_one c =
    asked_looked (point_state c.args.self.now.view) c.args.self.now.ask.connector c.args.self.now.row.now (sym c.is_of_one.ensures ∙ c.if-is_of_one.true)

pub returns : goal.returns
returns c = λ connector row_at_connector.
    let asked = c.args.self.now in
    let end = c.loop-place-test.false in
    let whole : is_of_one asked.ask.connector asked.row.now ≡ false = sym c.is_of_one.ensures ∙ c.if-is_of_one.false in
    ⊎_elim
    (λ past. none_past (point_state asked.view) asked.row.now connector (only_active (point_state asked.view) asked.ask.connector asked.row.now connector whole row_at_connector) (omega (arith, past, end)))
    (λ early. c.loop-place.invariant connector early row_at_connector)
    (cases_lt c.loop-place.place connector)
