-- One more row has its limit in force.
use Rattle.std.proofs.Common.{rules, ◌≡◌, ℕ, ◌+◌, ◌-◌, ◌<◌, length, drop, Option, sym, subst, arith}
use Rattle.stacking.specs.InForce.{IsSet}
use Rattle.sweep_compiler.specs.ByCases.Running.{AreInForce, rate_running}
use Rattle.sweep_compiler.proofs.RatesInForce.{in_force_from}
use Rattle.sweep_compiler.proofs.bounded.rates_of.Goals as goal

pub loop-place-preserved : goal.loop-place-preserved
loop-place-preserved c =
    let runs = c.args.runs.now in
    let at = c.loop-place.place in
    let some = c.loop-place-test.true in
    let within = c.loop-place.invariant.0 in
    let run = c.index-runs-place.result in
    let rates = c.loop-place.rates in
    let after = c.set.new.self in
    let set = subst (λ (n : ℕ). IsSet rates n (rate_running run) after) c.rank.ensures
    (subst (λ (limit : Option ℕ). IsSet rates c.rank.result limit after) c.rate.ensures c.in_ok-set.ensures.set) in
    let inside : at - 1 < length runs = omega (arith, some, within) in
    let behind : at - 1 + 1 ≡ at = omega (arith, some) in
    let are : AreInForce (drop (at - 1 + 1) runs) rates = subst (λ (n : ℕ). AreInForce (drop n runs) rates) (sym behind) c.loop-place.invariant.1 in
    (omega (arith, within), in_force_from runs (at - 1) run rates after inside (search rules) c.requires.falling set are)
