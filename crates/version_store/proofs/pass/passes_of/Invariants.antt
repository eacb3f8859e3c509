-- Each session so far has its part, and counts nothing yet.
use Rattle.std.proofs.Common.{◌≡◌, ◌+◌, All, length}
use Rattle.version_store.specs.Passes.{unused_pass}
use Rattle.version_store.proofs.pass.passes_of.Given as goal

abbrev pub invariant-loop-session : goal.invariant-loop-session
invariant-loop-session g l =
    (l.changed.parts + l._session ≡ l.sessions) × (l.answered.parts + l._session ≡ l.sessions)
    × (l.changed.amount ≡ 0) × (l.answered.amount ≡ 0)
    × (length l.passes.items ≡ l._session)
    × All (λ pass. pass ≡ unused_pass) l.passes.items
