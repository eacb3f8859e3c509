-- The periods so far are the exact ones, and one too many makes the whole schedule too long.
use Rattle.std.proofs.Common.{◌≡◌, ℕ, ◌+◌, ◌∙◌, ap, refl, Some, add-one, arith, rules}
use Rattle.std.proofs.lemmas.Result.{err_from_is_err_and}
use Rattle.meaning.specs.View.{point_state}
use Rattle.meaning.specs.Limit.{limit_asked}
use Rattle.meaning.specs.ByCases.Exact.{exact_periods}
use Rattle.meaning.specs.Theory.PlainCompiler.{limit_before, periods_added, permitted}
use Rattle.meaning.specs.Theory.ExactAnswers.{exact_answer, is_schedule}
use Rattle.meaning.proofs.plain_compiler.compile_plain.Goals as goal

before_more : (limit : ℕ → ℕ) (n : ℕ) → Some (limit n) ≡ limit_before limit (n + 1)
before_more limit n = rw add-one refl

pub returns-in_err-add_second : goal.returns-in_err-add_second
returns-in_err-add_second c =
    let asked = limit_asked (point_state c.args.view.now) c.args.ask.now.connector c.args.ask.now.start in
    let instant = c.plus-instant.ensures ∙ ap (λ (n : ℕ). c.args.ask.now.start + n) c.from.ensures in
    let here : c.limit_at-limit.result ≡ asked c.loop-second.second =
    search (rules, c.limit_at-limit.ensures, instant) in
    let p = err_from_is_err_and c.from_residual.result c.from_residual.ensures.1 in
    rw (p.1, p.2)
    (permitted asked c.args.ask.now.duration c.loop-second.second c.loop-second.periods.items c.loop-second.before c.limit_at-limit.result _
    c.loop-second.invariant.so_far c.loop-second.invariant.before here (omega arith) c.in_err-add_second.ensures.refused)

pub loop-second-preserved : goal.loop-second-preserved
loop-second-preserved c =
    let asked = limit_asked (point_state c.args.view.now) c.args.ask.now.connector c.args.ask.now.start in
    let instant = c.plus-instant.ensures ∙ ap (λ (n : ℕ). c.args.ask.now.start + n) c.from.ensures in
    let here : c.limit_at-limit.result ≡ asked c.loop-second.second =
    search (rules, c.limit_at-limit.ensures, instant) in
    record {
      so_far = c.in_ok-add_second.ensures.added
          ∙ periods_added asked c.loop-second.second c.loop-second.periods.items c.loop-second.before c.limit_at-limit.result
          c.loop-second.invariant.so_far c.loop-second.invariant.before here;
      before = ap (λ (n : ℕ). Some n) here ∙ before_more asked c.loop-second.second;
      few = c.in_ok-add_second.ensures.few;
    }

pub new-requires : goal.new-requires
new-requires c =
    let end : c.loop-second.second ≡ c.args.ask.now.duration = omega arith in
    let asked = limit_asked (point_state c.args.view.now) c.args.ask.now.connector c.args.ask.now.start in
    record { schedule = is_schedule asked c.args.ask.now.duration c.loop-second.periods.items c.args.ask.now.some (c.loop-second.invariant.so_far ∙ ap (exact_periods asked) end) }

pub returns : goal.returns
returns c =
    let end : c.loop-second.second ≡ c.args.ask.now.duration = omega arith in
    let asked = limit_asked (point_state c.args.view.now) c.args.ask.now.connector c.args.ask.now.start in
    exact_answer asked c.args.ask.now.duration c.new.result c.args.ask.now.some c.new.ensures.lasts
    (c.new.ensures.same ∙ (c.loop-second.invariant.so_far ∙ ap (exact_periods asked) end)) (rw c.new.ensures.same c.loop-second.invariant.few)
