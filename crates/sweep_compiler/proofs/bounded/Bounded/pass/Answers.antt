-- The row that passes has its next limit in force, and only that row has changed.
use Rattle.std.proofs.Common.{◌<◌, List, length, ◌∙◌, ap, sym, subst}
use Rattle.std.specs.List.{slice_set}
use Rattle.sweep_compiler.specs.ByCases.Running.{Running, RunningBound, passed, bound_passed}
use Rattle.sweep_compiler.proofs.Running.{passed_set}
use Rattle.sweep_compiler.proofs.RatesInForce.{passed_in_force}
use Rattle.sweep_compiler.proofs.bounded.Bounded.pass.Goals as goal

pub invariant_of-self-2 : goal.invariant_of-self-2
invariant_of-self-2 c =
    let self = c.self.inside in
    passed_in_force self.runs.items c.args.index c.index-run.result.now c.index_mut.result.now c.pass.new.self self.in_force c.set.new.self c.rank.result c.next_rate.result
    (subst (λ (bound : RunningBound). c.args.index < length bound.runs) (sym c.self.view_is) c.requires.within) c.index-run.ensures c.index_mut.ensures.value c.pass.ensures c.rank.ensures c.next_rate.ensures c.in_ok-set.ensures.set c.self.invariant

pub returns-clause-passed : goal.returns-clause-passed
returns-clause-passed c =
    let self = c.self.inside in
    let items = self.runs.items in
    let same = ap (slice_set items c.args.index) (c.pass.ensures ∙ ap passed c.index_mut.ensures.value) ∙ passed_set items c.args.index c.index_mut.result.now in
    ap (λ (runs : List Running). record { connector = self.connector; ceiling = self.ceiling; runs = runs }) same ∙ ap (λ (bound : RunningBound). bound_passed c.args.index bound) c.self.view_is
