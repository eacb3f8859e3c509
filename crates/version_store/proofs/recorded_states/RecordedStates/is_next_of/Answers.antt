-- With one state more, these are the others and that state.
use Rattle.std.proofs.Common.{List, sym, subst, arith}
use Rattle.std.proofs.lemmas.Bool.Decides.{nat_tests}
use Rattle.site_core.specs.State.{MachineState}
use Rattle.version_store.specs.Recording.{IsNextOf}
use Rattle.version_store.proofs.RecorderLemmas.{kept_states, next_count}
use Rattle.version_store.proofs.recorded_states.RecordedStates.is_next_of.Goals as goal

pub returns-then-self-other-eq1-clause-next : goal.returns-then-self-other-eq1-clause-next
returns-then-self-other-eq1-clause-next g c = λ next.
    let here = c.in-Some-Some.states.entries in
    let there = c.in-Some-Some.others.entries in
    let self = kept_states (λ f. f.entries) c.self.inside.states c.in-Some-Some.states
    c.args.self.now c.self.inside.count c.self.view_is c.in-Some-Some.is-0 c.self.invariant.1 in
    let other = kept_states (λ f. f.entries) c.other.inside.states c.in-Some-Some.others
    c.args.other.now c.other.inside.count c.other.view_is c.in-Some-Some.is-1 c.other.invariant.1 in
    let is_next = next_count here there c.self.inside.count c.other.inside.count self.1 other.1
    c.compare.ensures.longer (grind (arith, nat_tests)) (grind (arith, nat_tests)) in
    subst (λ (s : List MachineState). IsNextOf c.args.other.now s) (sym self.0)
    (subst (λ (s : List MachineState). IsNextOf s here) (sym other.0) is_next)
