-- With equally many states, each begins with the other.
use Rattle.std.proofs.Common.{sym, ◌∙◌, arith}
use Rattle.std.proofs.lemmas.Bool.Decides.{nat_tests}
use Rattle.version_store.proofs.RecorderLemmas.{kept_states, same_count}
use Rattle.version_store.proofs.recorded_states.RecordedStates.is_same.Goals as goal

pub returns-then-self-other-clause-same : goal.returns-then-self-other-clause-same
returns-then-self-other-clause-same g c = λ few.
    let self = kept_states (λ f. f.entries) c.self.inside.states c.in-Some-Some.states
    c.args.self.now c.self.inside.count c.self.view_is c.in-Some-Some.is-0 c.self.invariant.1 in
    let other = kept_states (λ f. f.entries) c.other.inside.states c.in-Some-Some.others
    c.args.other.now c.other.inside.count c.other.view_is c.in-Some-Some.is-1 c.other.invariant.1 in
    let states = same_count c.in-Some-Some.states.entries c.in-Some-Some.others.entries
    c.self.inside.count c.other.inside.count self.1 other.1 c.compare.ensures.longer
    c.compare.ensures.shorter (grind (arith, nat_tests)) (grind (arith, nat_tests)) in
    self.0 ∙ states ∙ sym other.0
