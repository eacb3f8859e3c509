-- The periods and turns up to the next place, or to the end, meet the invariant of the loop.
use Rattle.std.proofs.Common.{◌≡◌, ℕ, ◌<◌, ◌∙◌, ap, subst, Option, Some, None, length, arith}
use Rattle.std.specs.Option.{IfSome}
use Rattle.std.proofs.lemmas.Result.{err_from_is_err_and}
use Rattle.std.proofs.lemmas.List.{length-append}
use Rattle.meaning.specs.ByCases.PlainCompiler.{period_added}
use Rattle.meaning.specs.Theory.ExactAnswers.{exact_answer, is_schedule}
use Rattle.meaning.specs.Theory.PlainCompiler.{permitted}
use Rattle.sweep_compiler.specs.ByCases.Curve.{LeadsOn}
use Rattle.sweep_compiler.proofs.Sweeping.{periods_upto, before_stays, one_added, spent_upto, spent_whole, spent_few}
use Rattle.sweep_compiler.proofs.sweep.sweep_along.Goals as goal

pub limit-limit-requires-clause-room : goal.limit-limit-requires-clause-room
limit-limit-requires-clause-room g c =
    let few = spent_few (g.C.Curve.is_place c.args.curve.now) c.loop-periods.second in
    let turns = c.loop-periods.invariant.turns in
    let inside = c.loop-periods.invariant.inside in
    let fresh : c.args.turns.now < 9223372036854775808 = c.requires.fresh in
    let short : c.args.duration < 4294967296 = omega arith in
    omega (arith, few, turns, inside, fresh, short)

pub returns-in_err-add_second-clause-compiled : goal.returns-in_err-add_second-clause-compiled
returns-in_err-add_second-clause-compiled g c =
    let limit = g.C.Curve.limits c.args.curve.now in
    let here : c.limit-limit.result ≡ limit c.loop-periods.second = rw (c.loop-periods.invariant.limits, c.loop-periods.invariant.stands) at c.limit-limit.ensures.limit in
    let p = err_from_is_err_and c.from_residual.result c.from_residual.ensures.1 in
    rw (p.1, p.2)
    (permitted limit c.args.duration c.loop-periods.second c.loop-periods.periods.items c.loop-periods.before c.limit-limit.result _
    c.loop-periods.invariant.so_far c.loop-periods.invariant.before here c.loop-periods.invariant.inside c.in_err-add_second.ensures.refused)

pub returns-in_err-add_second-clause-bound : goal.returns-in_err-add_second-clause-bound
returns-in_err-add_second-clause-bound g c =
    spent_whole (g.C.Curve.is_place c.args.curve.now) c.loop-periods.second c.args.duration c.loop-periods.turns c.args.turns.now _
    c.loop-periods.invariant.inside c.loop-periods.invariant.here c.loop-periods.invariant.turns c.limit-limit.ensures.turn

pub returns-in_err-next-clause-bound : goal.returns-in_err-next-clause-bound
returns-in_err-next-clause-bound g c =
    spent_whole (g.C.Curve.is_place c.args.curve.now) c.loop-periods.second c.args.duration c.loop-periods.turns c.args.turns.now _
    c.loop-periods.invariant.inside c.loop-periods.invariant.here c.loop-periods.invariant.turns c.limit-limit.ensures.turn

pub loop-periods-preserved : goal.loop-periods-preserved
loop-periods-preserved g c =
    let place = g.C.Curve.is_place c.args.curve.now in
    let limit = g.C.Curve.limits c.args.curve.now in
    let kept = c.loop-periods.invariant in
    let here : c.limit-limit.result ≡ limit c.loop-periods.second = rw (kept.limits, kept.stands) at c.limit-limit.ensures.limit in
    let onward = subst (λ (next : Option ℕ). LeadsOn (g.C.Curve.limits c.loop-periods.curve) (g.C.Curve.is_place c.loop-periods.curve) (g.C.Curve.end c.loop-periods.curve) (g.C.Curve.here c.loop-periods.curve) next) c.in-Some.is c.in_ok-next.ensures.leads in
    let leads : LeadsOn limit place c.args.duration c.loop-periods.second (Some c.in-Some.next) = rw (kept.limits, kept.places, kept.whole, kept.stands) at onward in
    let added = c.in_ok-add_second.ensures.added in
    let turn = c.limit-limit.ensures.turn in
    let each = kept.each in
    let one = one_added c.loop-periods.before (record { start = c.loop-periods.second; limit = c.limit-limit.result }) in
    let many = ap length added ∙ length-append c.loop-periods.periods.items (period_added c.loop-periods.before (record { start = c.loop-periods.second; limit = c.limit-limit.result })) in
    record {
      limits = c.in_ok-next.ensures.same_limits ∙ kept.limits;
      places = c.in_ok-next.ensures.same_places ∙ kept.places;
      whole = c.in_ok-next.ensures.same_end ∙ kept.whole;
      stands = subst (λ (next : Option ℕ). IfSome next (λ next. g.C.Curve.here c.go_on.new.self ≡ next)) c.in-Some.is c.in_ok-next.ensures.here;
      ready = subst (λ (next : Option ℕ). IfSome next (λ next. g.C.Curve.IsReady c.go_on.new.self)) c.in-Some.is c.in_ok-next.ensures.ready;
      inside = leads.1;
      here = λ above. leads.2;
      so_far = periods_upto limit c.loop-periods.second c.in-Some.next c.loop-periods.periods.items c.add_second.new.periods.items c.loop-periods.before c.limit-limit.result
          kept.so_far kept.before here added leads.0 leads.3;
      before = ap (λ (n : ℕ). Some n) here ∙ before_stays limit c.loop-periods.second c.in-Some.next leads.0 leads.3;
      few = c.in_ok-add_second.ensures.few;
      turns = spent_upto place c.loop-periods.second c.in-Some.next c.loop-periods.turns c.args.turns.now _ leads.0 kept.here kept.turns turn;
      each = omega (arith, turn, each, one, many);
    }

pub new-requires : goal.new-requires
new-requires g c =
    let place = g.C.Curve.is_place c.args.curve.now in
    let limit = g.C.Curve.limits c.args.curve.now in
    let kept = c.loop-periods.invariant in
    let here : c.limit-limit.result ≡ limit c.loop-periods.second = rw (kept.limits, kept.stands) at c.limit-limit.ensures.limit in
    let onward = subst (λ (next : Option ℕ). LeadsOn (g.C.Curve.limits c.loop-periods.curve) (g.C.Curve.is_place c.loop-periods.curve) (g.C.Curve.end c.loop-periods.curve) (g.C.Curve.here c.loop-periods.curve) next) c.in-None.is c.in_ok-next.ensures.leads in
    let stays : LeadsOn limit place c.args.duration c.loop-periods.second None = rw (kept.limits, kept.whole, kept.stands) at onward in
    let whole = periods_upto limit c.loop-periods.second c.args.duration c.loop-periods.periods.items c.add_second.new.periods.items c.loop-periods.before c.limit-limit.result
    kept.so_far kept.before here c.in_ok-add_second.ensures.added kept.inside stays in
    record { schedule = is_schedule limit c.args.duration c.add_second.new.periods.items c.requires.some whole }

pub returns-in-None-clause-compiled : goal.returns-in-None-clause-compiled
returns-in-None-clause-compiled g c =
    let place = g.C.Curve.is_place c.args.curve.now in
    let limit = g.C.Curve.limits c.args.curve.now in
    let kept = c.loop-periods.invariant in
    let here : c.limit-limit.result ≡ limit c.loop-periods.second = rw (kept.limits, kept.stands) at c.limit-limit.ensures.limit in
    let onward = subst (λ (next : Option ℕ). LeadsOn (g.C.Curve.limits c.loop-periods.curve) (g.C.Curve.is_place c.loop-periods.curve) (g.C.Curve.end c.loop-periods.curve) (g.C.Curve.here c.loop-periods.curve) next) c.in-None.is c.in_ok-next.ensures.leads in
    let stays : LeadsOn limit place c.args.duration c.loop-periods.second None = rw (kept.limits, kept.whole, kept.stands) at onward in
    let whole = periods_upto limit c.loop-periods.second c.args.duration c.loop-periods.periods.items c.add_second.new.periods.items c.loop-periods.before c.limit-limit.result
    kept.so_far kept.before here c.in_ok-add_second.ensures.added kept.inside stays in
    exact_answer limit c.args.duration c.new.result c.requires.some c.new.ensures.lasts
    (c.new.ensures.same ∙ whole) (rw c.new.ensures.same c.in_ok-add_second.ensures.few)

pub returns-in-None-clause-bound : goal.returns-in-None-clause-bound
returns-in-None-clause-bound g c =
    spent_whole (g.C.Curve.is_place c.args.curve.now) c.loop-periods.second c.args.duration c.loop-periods.turns c.args.turns.now _
    c.loop-periods.invariant.inside c.loop-periods.invariant.here c.loop-periods.invariant.turns c.limit-limit.ensures.turn
