-- The compiled schedule is for the kept request's book and `Ask`.
use Rattle.site_core.proofs.MachineLemmas.{compiles_made}
use Rattle.site_core.specs.contracts.machine.Machine.{the_view}
use Rattle.site_core.proofs.machine.Machine.compile.Goals as goal

pub returns-clause-made : goal.returns-clause-made
returns-clause-made c = rw (← c.self.view_is) (compiles_made (the_view c.self.inside) c.args.number _ c.in_ok-compile_request.ensures.made)
