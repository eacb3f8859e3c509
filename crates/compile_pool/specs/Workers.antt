-- The result of a worker for a job.
use Rattle.std.specs.Prelude.{ℕ, ◌≡◌, ◌⊎◌}
use Rattle.sweep_compiler.specs.Compiled.{CompiledAnswer}
use Rattle.site_core.specs.Requests.{request_of}
use Rattle.site_core.specs.Post.{IsRefusedPost}
use Rattle.ocpp_scalars.specs.declared.refusal.Refusal.{Refusal}
use Rattle.version_store.specs.Answers.{RequestedJob}
use Rattle.version_store.specs.Calls.{PostsTo}
use Rattle.version_store.specs.Store.{StoreState}

-- compiled for the book and the `Ask` of a job; its type ensures that it is right for these
pub record IsOfJob (job : RequestedJob) (compiled : CompiledAnswer) : Type 0 where
  pub book : compiled.book ≡ job.book
  pub ask : compiled.ask ≡ job.ask

-- It is dropped only if its post is refused, and then nothing has changed.
pub record Drops (old : StoreState) (number : ℕ) (compiled : CompiledAnswer) (new : StoreState)
    : Type 0 where
  pub refusal : Refusal
  pub refused : IsRefusedPost (request_of number old.present.requests) compiled refusal
  pub kept : new ≡ old

abbrev pub PostsOrDrops : StoreState → ℕ → CompiledAnswer → StoreState → Type 0
PostsOrDrops old number compiled new =
    PostsTo old number compiled new ⊎ Drops old number compiled new
