-- The parts are pieces of the text, so they aren't longer than it.
use Rattle.std.proofs.Common.{rules}
use Rattle.ocpp_scalars.specs.ByCases.NumberText.{parts_of}
use Rattle.ocpp_scalars.proofs.NumberGrammar.{parts_fit}
use Rattle.ocpp_scalars.proofs.number_text.number_parts.Goals as goal

pub returns-clause-fits : goal.returns-clause-fits
unfolding parts_of
returns-clause-fits c = parts_fit c.args.text.now _ (search rules)
