-- The receipt shows the states that were recorded when it was given.
use Rattle.std.specs.Prelude.{option_map}
use Rattle.journal.proofs.SyncLemmas.{covers}
use Rattle.journal.proofs.receipt.Receipt.covers.Goals as goal

pub returns : goal.returns
returns g c = λ yes.
    covers g.N.ListName.is_recorded c.self.inside.recorded c.args.recorded.now (option_map (λ f. f.entries) c.self.inside.syncs)
    c.args.self.now c.self.view_is c.self.invariant (c.is_at_least.ensures yes)
