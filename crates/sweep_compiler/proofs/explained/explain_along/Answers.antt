-- The intervals up to the next place, or to the end, meet the invariant of the loop.
use Rattle.std.proofs.Common.{◌≡◌, ◌≢◌, ℕ, ◌+◌, ◌-◌, ◌<◌, ◌≤◌, ◌∙◌, true, false, [], ◌∷◌, ◌++◌, length, Option, Some, None, refl, ap, sym, subst, arith}
use Rattle.std.specs.Option.{IfSome}
use Rattle.std.proofs.lemmas.List.{length-append}
use Rattle.meaning.specs.declared.cause.Reason.{Reason}
use Rattle.meaning.specs.declared.view.View.{View}
use Rattle.meaning.specs.View.{point_state}
use Rattle.meaning.specs.Cause.{reason, reason_asked}
use Rattle.sweep_compiler.specs.declared.interval.Interval.{Interval}
use Rattle.sweep_compiler.specs.declared.limit_curve.LimitCurve.{LimitCurve}
use Rattle.sweep_compiler.specs.Explained.{IsIntervalOf}
use Rattle.sweep_compiler.specs.Places.{is_second_asked}
use Rattle.sweep_compiler.specs.ByCases.Curve.{LeadsOn}
use Rattle.sweep_compiler.specs.ByCases.Swept.{IsReadyCurve, IsOfOneAsk}
use Rattle.sweep_compiler.proofs.Explaining.{with_reason, adjoin_more, all_more, differ_as, differ_more, interval_of, stays_upto, at_one, upto_next, spent_next, spent_end, spent_few}
use Rattle.sweep_compiler.proofs.explained.explain_along.Goals as goal

-- ---- one request

one_ask : (old now after : LimitCurve) → IsOfOneAsk old now → IsOfOneAsk now after → IsOfOneAsk old after
one_ask old now after first second = record {
  view = second.view ∙ first.view;
  connector = second.connector ∙ first.connector;
  asked = second.asked ∙ first.asked;
  last = second.last ∙ first.last;
}

-- the second of the sweep is within the request
second_within : (old now : LimitCurve) (duration : ℕ) → IsOfOneAsk old now → IsReadyCurve now → now.at ≤ now.last → old.last + 1 - old.asked ≡ duration
    → now.at - old.asked < duration
second_within old now duration same ready inside whole =
    let last = same.last in
    let asked = same.asked in
    let from = ready.swept.from in
    omega (arith, last, asked, from, inside, whole)

-- if the second is within the request, so is the instant of the sweep
stands_within : (old now : LimitCurve) (second duration : ℕ) → IsOfOneAsk old now → IsReadyCurve now → now.at - now.asked ≡ second → second < duration → old.last + 1 - old.asked ≡ duration
    → now.at ≤ now.last
stands_within old now second duration same ready here within whole =
    let last = same.last in
    let asked = same.asked in
    let from = ready.swept.from in
    omega (arith, last, asked, from, here, within, whole)

abbrev LeadsTo : LimitCurve → Option ℕ → Type 0
LeadsTo now next = LeadsOn
    (reason_asked (point_state now.view) now.connector now.asked)
    (is_second_asked (point_state now.view) now.connector now.asked)
    (now.last + 1 - now.asked) (now.at - now.asked) next

-- the next place of the sweep, for the request
leads_as : (old now : LimitCurve) (duration : ℕ) (next : Option ℕ) → IsOfOneAsk old now → old.last + 1 - old.asked ≡ duration → LeadsTo now next
    → LeadsOn (reason_asked (point_state old.view) old.connector old.asked) (is_second_asked (point_state old.view) old.connector old.asked) duration (now.at - old.asked) next
leads_as old now duration next same whole leads =
    let of : View → ℕ → ℕ → ℕ → Type 0 = λ (view : View) (connector asked end : ℕ).
    LeadsOn (reason_asked (point_state view) connector asked) (is_second_asked (point_state view) connector asked) end (now.at - asked) next in
    subst (λ (end : ℕ). of old.view old.connector old.asked end) whole
    (subst (λ (last : ℕ). of old.view old.connector old.asked (last + 1 - old.asked)) same.last
    (subst (λ (asked : ℕ). of old.view old.connector asked (now.last + 1 - asked)) same.asked
    (subst (λ (connector : ℕ). of old.view connector now.asked (now.last + 1 - now.asked)) same.connector
    (subst (λ (view : View). of view now.connector now.asked (now.last + 1 - now.asked)) same.view leads))))

-- the reason at the instant of the sweep, for the request
found_as : (old now : LimitCurve) (second : ℕ) (found : Reason) → IsOfOneAsk old now → IsReadyCurve now → now.at - now.asked ≡ second
    → found ≡ reason (point_state now.view) now.connector now.asked now.at → found ≡ reason_asked (point_state old.view) old.connector old.asked second
found_as old now second found same ready here is =
    let from = ready.swept.from in
    let asked = same.asked in
    let at : now.at ≡ old.asked + second = omega (arith, from, asked, here) in
    is
    ∙ (ap (λ (view : View). reason (point_state view) now.connector now.asked now.at) same.view
    ∙ (ap (λ (connector : ℕ). reason (point_state old.view) connector now.asked now.at) same.connector
    ∙ (ap (λ (asked : ℕ). reason (point_state old.view) old.connector asked now.at) same.asked
    ∙ ap (reason (point_state old.view) old.connector old.asked) at)))

-- ---- turns

pub returns-in_err-next-clause-bound : goal.returns-in_err-next-clause-bound
returns-in_err-next-clause-bound c =
    let of = c.args.curve.now in
    let now = c.loop-reason.curve in
    let kept = c.loop-reason.invariant in
    spent_end (is_second_asked (point_state of.view) of.connector of.asked) (now.at - of.asked) c.args.duration c.loop-reason.turns c.args.turns.now
    (second_within of now c.args.duration kept.same kept.ready kept.inside c.requires.whole) kept.turns

pub returns-in_err-push-clause-bound : goal.returns-in_err-push-clause-bound
returns-in_err-push-clause-bound c =
    let of = c.args.curve.now in
    let now = c.loop-reason.curve in
    let kept = c.loop-reason.invariant in
    spent_end (is_second_asked (point_state of.view) of.connector of.asked) (now.at - of.asked) c.args.duration c.loop-reason.turns c.args.turns.now
    (second_within of now c.args.duration kept.same kept.ready kept.inside c.requires.whole) kept.turns

pub returns-in_default-clause-bound : goal.returns-in_default-clause-bound
returns-in_default-clause-bound c =
    let of = c.args.curve.now in
    let now = c.loop-reason.curve in
    let kept = c.loop-reason.invariant in
    spent_end (is_second_asked (point_state of.view) of.connector of.asked) (now.at - of.asked) c.args.duration c.loop-reason.turns c.args.turns.now
    (second_within of now c.args.duration kept.same kept.ready kept.inside c.requires.whole) kept.turns

pub returns-in_err-found-clause-bound : goal.returns-in_err-found-clause-bound
returns-in_err-found-clause-bound c =
    let of = c.args.curve.now in
    let now = c.loop-reason.curve in
    let kept = c.loop-reason.invariant in
    let leads = leads_as of now c.args.duration (Some c.in-Some.next) kept.same c.requires.whole (subst (LeadsTo now) c.in-Some.is c.in_ok-next.ensures.reasons) in
    spent_end (is_second_asked (point_state of.view) of.connector of.asked) c.in-Some.next c.args.duration _ c.args.turns.now leads.1
    (spent_next _ (now.at - of.asked) c.in-Some.next c.loop-reason.turns c.args.turns.now _ leads.0 leads.2 kept.turns c.in_err-found.ensures.turn)

pub returns-in_err-push-2-clause-bound : goal.returns-in_err-push-2-clause-bound
returns-in_err-push-2-clause-bound c =
    let of = c.args.curve.now in
    let now = c.loop-reason.curve in
    let kept = c.loop-reason.invariant in
    let leads = leads_as of now c.args.duration (Some c.in-Some.next) kept.same c.requires.whole (subst (LeadsTo now) c.in-Some.is c.in_ok-next.ensures.reasons) in
    spent_end (is_second_asked (point_state of.view) of.connector of.asked) c.in-Some.next c.args.duration _ c.args.turns.now leads.1
    (spent_next _ (now.at - of.asked) c.in-Some.next c.loop-reason.turns c.args.turns.now _ leads.0 leads.2 kept.turns c.in_ok-found.ensures.turn)

-- ---- the end

pub new-requires : goal.new-requires
new-requires c =
    let of = c.args.curve.now in
    let kept = c.loop-reason.invariant in
    let within = second_within of c.loop-reason.curve c.args.duration kept.same kept.ready kept.inside c.requires.whole in
    let begun = kept.begun in
    let new : Interval = record { start = c.loop-reason.start; end = c.args.duration; reason = c.loop-reason.reason } in
    record { adjoin = rw c.in_ok-push.ensures.items (adjoin_more 0 c.loop-reason.start c.loop-reason.intervals.items new kept.adjoin refl (omega (arith, within, begun))) }

pub returns-in_default-clause-explained : goal.returns-in_default-clause-explained
returns-in_default-clause-explained c =
    let of = c.args.curve.now in
    let now = c.loop-reason.curve in
    let state = point_state of.view in
    let kept = c.loop-reason.invariant in
    let within = second_within of now c.args.duration kept.same kept.ready kept.inside c.requires.whole in
    let begun = kept.begun in
    let some : c.loop-reason.start < c.args.duration = omega (arith, within, begun) in
    let none : Option ℕ = None in
    let stays = leads_as of now c.args.duration none kept.same c.requires.whole (subst (LeadsTo now) c.in_default.is c.in_ok-next.ensures.reasons) in
    let new : Interval = record { start = c.loop-reason.start; end = c.args.duration; reason = c.loop-reason.reason } in
    let items : c.new.result.intervals ≡ c.loop-reason.intervals.items ++ new ∷ [] = c.new.ensures.same ∙ c.in_ok-push.ensures.items in
    record {
      lasts = c.new.ensures.lasts;
      adjoin = rw items (adjoin_more 0 c.loop-reason.start c.loop-reason.intervals.items new kept.adjoin refl some);
      each = rw items (all_more (IsIntervalOf state of.connector of.asked) c.loop-reason.intervals.items new kept.so_far
          (interval_of state of.connector of.asked new
          (stays_upto (reason_asked state of.connector of.asked) c.loop-reason.reason c.loop-reason.start (now.at - of.asked) c.args.duration kept.open_one begun stays)));
      differ = rw items (differ_as c.loop-reason.intervals.items (with_reason c.loop-reason.reason) new refl kept.differ);
    }

-- ---- a place

pub reason_of-requires-in-loop-reason : goal.reason_of-requires-in-loop-reason
reason_of-requires-in-loop-reason c =
    let of = c.args.curve.now in
    let now = c.loop-reason.curve in
    let after = c.go_to_next.new.self in
    let kept = c.loop-reason.invariant in
    let leads = leads_as of now c.args.duration (Some c.in-Some.next) kept.same c.requires.whole (subst (LeadsTo now) c.in-Some.is c.in_ok-next.ensures.reasons) in
    let ready = subst (λ (next : Option ℕ). IfSome next (λ (_ : ℕ). IsReadyCurve after)) c.in-Some.is c.in_ok-next.ensures.ready in
    let there = subst (λ (next : Option ℕ). IfSome next (λ (next : ℕ). after.at - after.asked ≡ next)) c.in-Some.is c.in_ok-next.ensures.here in
    let same = one_ask of now after kept.same c.in_ok-next.ensures.same in
    let within = second_within of now c.args.duration kept.same kept.ready kept.inside c.requires.whole in
    let few = spent_few (is_second_asked (point_state of.view) of.connector of.asked) (now.at - of.asked) in
    let turns = kept.turns in
    let fresh : c.args.turns.now < 9223372036854775808 = c.requires.fresh in
    let short : c.args.duration < 4294967296 = omega arith in
    record {
      room = omega (arith, few, turns, within, fresh, short);
      ready = ready;
      within = stands_within of after c.in-Some.next c.args.duration same ready there leads.1 c.requires.whole;
    }

pub loop-reason-preserved-then-not-same : goal.loop-reason-preserved-then-not-same
loop-reason-preserved-then-not-same c =
    let of = c.args.curve.now in
    let now = c.loop-reason.curve in
    let after = c.go_to_next.new.self in
    let state = point_state of.view in
    let value = reason_asked state of.connector of.asked in
    let kept = c.loop-reason.invariant in
    let begun = kept.begun in
    let next = c.in-Some.next in
    let intervals = c.loop-reason.intervals.items in
    let leads = leads_as of now c.args.duration (Some next) kept.same c.requires.whole (subst (LeadsTo now) c.in-Some.is c.in_ok-next.ensures.reasons) in
    let before = leads.0 in
    let some : c.loop-reason.start < next = omega (arith, begun, before) in
    let ready = subst (λ (next : Option ℕ). IfSome next (λ (_ : ℕ). IsReadyCurve after)) c.in-Some.is c.in_ok-next.ensures.ready in
    let there = subst (λ (next : Option ℕ). IfSome next (λ (next : ℕ). after.at - after.asked ≡ next)) c.in-Some.is c.in_ok-next.ensures.here in
    let same = one_ask of now after kept.same c.in_ok-next.ensures.same in
    let asked = same.asked in
    let here : after.at - of.asked ≡ next = omega (arith, there, asked) in
    let found = found_as of after next c.in_ok-found.found same ready there c.in_ok-found.ensures.reason in
    let unlike : c.loop-reason.reason ≢ c.in_ok-found.found = λ e.
    let yes : c.same.result ≡ true = c.same.ensures.1 (sym e) in
    let no : c.same.result ≡ false = c.if-not-same.true in
    cc in
    let new : Interval = record { start = c.loop-reason.start; end = next; reason = c.loop-reason.reason } in
    let items : c.push-then-not-same.new.self.items ≡ intervals ++ new ∷ [] = c.in_ok-push-2.ensures.items in
    let turn = c.in_ok-found.ensures.turn in
    let each = kept.each in
    let many = ap length items ∙ length-append intervals (new ∷ []) in
    record {
      same = same;
      ready = ready;
      inside = stands_within of after next c.args.duration same ready there leads.1 c.requires.whole;
      begun = omega (arith, here);
      adjoin = rw items (adjoin_more 0 c.loop-reason.start intervals new kept.adjoin refl some);
      so_far = rw items (all_more (IsIntervalOf state of.connector of.asked) intervals new kept.so_far
          (interval_of state of.connector of.asked new
          (stays_upto value c.loop-reason.reason c.loop-reason.start (now.at - of.asked) next kept.open_one begun leads.3)));
      open_one = λ k from upto. at_one value c.in_ok-found.found next found k from (omega (arith, here, upto));
      differ = rw items (differ_more intervals new (with_reason c.in_ok-found.found) unlike (differ_as intervals (with_reason c.loop-reason.reason) new refl kept.differ));
      turns = rw here (spent_next _ (now.at - of.asked) next c.loop-reason.turns c.args.turns.now _ leads.0 leads.2 kept.turns turn);
      each = omega (arith, turn, each, many);
    }

pub loop-reason-preserved : goal.loop-reason-preserved
loop-reason-preserved c =
    let of = c.args.curve.now in
    let now = c.loop-reason.curve in
    let after = c.go_to_next.new.self in
    let value = reason_asked (point_state of.view) of.connector of.asked in
    let kept = c.loop-reason.invariant in
    let begun = kept.begun in
    let next = c.in-Some.next in
    let leads = leads_as of now c.args.duration (Some next) kept.same c.requires.whole (subst (LeadsTo now) c.in-Some.is c.in_ok-next.ensures.reasons) in
    let before = leads.0 in
    let ready = subst (λ (next : Option ℕ). IfSome next (λ (_ : ℕ). IsReadyCurve after)) c.in-Some.is c.in_ok-next.ensures.ready in
    let there = subst (λ (next : Option ℕ). IfSome next (λ (next : ℕ). after.at - after.asked ≡ next)) c.in-Some.is c.in_ok-next.ensures.here in
    let same = one_ask of now after kept.same c.in_ok-next.ensures.same in
    let asked = same.asked in
    let here : after.at - of.asked ≡ next = omega (arith, there, asked) in
    let found = found_as of after next c.in_ok-found.found same ready there c.in_ok-found.ensures.reason in
    let again : c.in_ok-found.found ≡ c.loop-reason.reason = c.same.ensures.0 c.if-not-same.false in
    let turn = c.in_ok-found.ensures.turn in
    let each = kept.each in
    record {
      same = same;
      ready = ready;
      inside = stands_within of after next c.args.duration same ready there leads.1 c.requires.whole;
      begun = omega (arith, here, begun, before);
      adjoin = kept.adjoin;
      so_far = kept.so_far;
      open_one = λ k from upto. upto_next value c.loop-reason.reason c.loop-reason.start (now.at - of.asked) next kept.open_one begun leads.3 (sym again ∙ found) k from (omega (arith, here, upto));
      differ = kept.differ;
      turns = rw here (spent_next _ (now.at - of.asked) next c.loop-reason.turns c.args.turns.now _ leads.0 leads.2 kept.turns turn);
      each = omega (arith, turn, each);
    }
