-- A posted request is compiled.
use Rattle.site_core.proofs.MachineLemmas.{posts_made, posts_compile}
use Rattle.site_core.specs.contracts.machine.Machine.{the_view}
use Rattle.site_core.proofs.machine.Machine.post.Goals as goal

pub returns-clause-posts : goal.returns-clause-posts
returns-clause-posts c = rw (← c.self.view_is) (posts_made (the_view c.self.inside) c.args.number c.args.brought _ c.in_ok-again.ensures.posted)

pub returns-clause-step : goal.returns-clause-step
returns-clause-step c =
    rw (← c.self.view_is) (posts_compile (the_view c.self.inside) c.args.number c.args.brought _ (posts_made (the_view c.self.inside) c.args.number c.args.brought _ c.in_ok-again.ensures.posted))
