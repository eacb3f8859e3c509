-- The limit of the highest rank in force is that of the first row that has one.
use Rattle.std.proofs.Common.{ℕ, Option, ◌∙◌, ap}
use Rattle.meaning.specs.Limit.{at_most}
use Rattle.sweep_compiler.specs.ByCases.Running.{RunningBound, bound_now}
use Rattle.sweep_compiler.proofs.RatesInForce.{top_is_first}
use Rattle.sweep_compiler.proofs.bounded.Bounded.limit.Goals as goal

pub returns : goal.returns
returns c =
    let self = c.self.inside in
    let first = top_is_first self.runs.items self.in_force c.top.result c.self.invariant c.top.ensures in
    c.at_most.ensures
    ∙ (ap (λ (limit : Option ℕ). at_most self.ceiling limit) first ∙ ap (λ (bound : RunningBound). bound_now bound) c.self.view_is)
