-- The receipt knows a beginning of the file's syncs.
use Rattle.std.proofs.Common.{ap}
use Rattle.std.specs.Prelude.{option_map}
use Rattle.journal.proofs.SyncLemmas.{known_among}
use Rattle.journal.proofs.receipt.Receipt.compare.Goals as goal

pub returns-in-Some : goal.returns-in-Some
returns-in-Some g c = λ recorded.
    known_among g.N.ListName.is_recorded c.self.inside.recorded (option_map (λ f. f.entries) c.self.inside.syncs)
    c.args.self.now c.in-Some.known.entries c.args.syncs.now.entries c.self.view_is c.self.invariant
    (ap (option_map (λ f. f.entries)) c.in-Some.is) c.compare.ensures
