-- A posted answer leaves the recorded states.
use Rattle.std.proofs.Common.{rules, refl}
use Rattle.site_core.specs.declared.reply.Reply.TheVariants.{Compiled}
use Rattle.version_store.specs.Calls.{compile_event}
use Rattle.version_store.proofs.RecorderLemmas.{adds_request}
use Rattle.version_store.proofs.book.Book.post.Goals as goal

pub invariant_of-self-2 : goal.invariant_of-self-2
invariant_of-self-2 g c = (
  (search rules),
  adds_request g.N.ListName.is_recorded c.self.inside.recorder c.self.inside.history
      (compile_event c.args.number c.args.compiled.answer) Compiled c.post.new.self
      c.in_ok-post.ensures.posts.adds refl c.self.invariant.1,
)
