-- An answer that is handed out leaves the recorded states.
use Rattle.std.proofs.Common.{rules, refl}
use Rattle.site_core.specs.declared.step.Step.TheVariants.{Answer}
use Rattle.version_store.proofs.RecorderLemmas.{makes_request}
use Rattle.version_store.proofs.book.Book.hand_out.Goals as goal

pub invariant_of-self-2 : goal.invariant_of-self-2
invariant_of-self-2 g c = (
  (search rules),
  makes_request g.N.ListName.is_recorded c.self.inside.recorder c.self.inside.history (Answer c.args.number)
      c.in_ok-reply.reply c.hand_out.new.self c.in_ok-reply.ensures.makes refl c.self.invariant.1,
)
