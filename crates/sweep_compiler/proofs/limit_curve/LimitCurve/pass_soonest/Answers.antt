-- The row that waited is removed, passes its place if it is due, and waits again.
use Rattle.std.proofs.Common.{◌≡◌, ◌∙◌, ◌==◌, not, ap, sym, subst, refl, ℕ, List, drop, Some, None, arith}
use Rattle.std.specs.Option.{option_eq}
use Rattle.std.proofs.lemmas.List.Sorted.{IsPermutation-refl}
use Rattle.meaning.specs.View.{point_state}
use Rattle.sweep_compiler.specs.ByCases.Running.{RunningBound, due_at}
use Rattle.sweep_compiler.specs.ByCases.Swept.{due_in, passed_in, shared_now, IsSwept}
use Rattle.sweep_compiler.proofs.Passing.{swept_passed, swept_stale}
use Rattle.sweep_compiler.proofs.PassedRows.{row_inside, due_of_bound}
use Rattle.sweep_compiler.proofs.TakenRows.{taken_is, first_out, fewer_wait, fewer_wait_again, is_due, is_stale}
use Rattle.sweep_compiler.proofs.limit_curve.LimitCurve.pass_soonest.Goals as goal

pub index-requires : goal.index-requires
index-requires c =
    let self = c.args.self.now in
    let due = c.in-Some.due in
    let rest = drop 1 self.queue in
    let facts = taken_is (point_state self.view) self.connector self.asked self.last self.at self.bounds.items self.queue rest self.sum due c.requires.swept c.requires.here (first_out self.queue rest due c.in-Some.ensures.first (IsPermutation-refl rest)) c.in-Some.ensures.soonest in
    let inside = facts.has_bound in
    omega (arith, inside, self.bounds.ok.0)

pub due-requires : goal.due-requires
due-requires c =
    let self = c.args.self.now in
    let due = c.in-Some.due in
    let rest = drop 1 self.queue in
    let facts = taken_is (point_state self.view) self.connector self.asked self.last self.at self.bounds.items self.queue rest self.sum due c.requires.swept c.requires.here (first_out self.queue rest due c.in-Some.ensures.first (IsPermutation-refl rest)) c.in-Some.ensures.soonest in
    record { within = row_inside self.bounds.items due.bound due.row c.index.result.now facts.has_bound facts.has_row c.index.ensures }

pub returns-then-ne-clause-swept : goal.returns-then-ne-clause-swept
returns-then-ne-clause-swept c =
    let self = c.args.self.now in
    let due = c.in-Some.due in
    let rest = c.remove_first.new.self in
    let facts = taken_is (point_state self.view) self.connector self.asked self.last self.at self.bounds.items self.queue rest self.sum due c.requires.swept c.requires.here (first_out self.queue rest due c.in-Some.ensures.first c.remove_first.ensures) c.in-Some.ensures.soonest in
    let found : c.due.result ≡ due_in self.bounds.items due.bound due.row = c.due.ensures ∙ (ap (λ (bound : RunningBound). due_at bound.runs due.row) c.index.ensures ∙ sym (due_of_bound self.bounds.items due.bound due.row c.index.result.now facts.has_bound)) in
    let ne : c.ne.result ≡ not (option_eq (λ (x y : ℕ). x == y) c.due.result (Some due.instant)) = search c.ne.ensures in
    let stale = is_stale c.due.result due.instant c.ne.result ne c.if-ne.true in
    swept_stale (point_state self.view) self.connector self.asked self.last self.at self.bounds.items self.queue rest self.sum due.bound due.row c.requires.swept facts.taken
    (λ is. stale (found ∙ (is ∙ ap (λ (n : ℕ). Some n) (sym facts.at_is))))

pub returns-then-ne-clause-fewer : goal.returns-then-ne-clause-fewer
returns-then-ne-clause-fewer c =
    let self = c.args.self.now in
    let due = c.in-Some.due in
    let rest = c.remove_first.new.self in
    let facts = taken_is (point_state self.view) self.connector self.asked self.last self.at self.bounds.items self.queue rest self.sum due c.requires.swept c.requires.here (first_out self.queue rest due c.in-Some.ensures.first c.remove_first.ensures) c.in-Some.ensures.soonest in
    fewer_wait self.at due.bound due.row self.queue rest facts.taken

pub pass_row-requires : goal.pass_row-requires
pass_row-requires c =
    let self = c.args.self.now in
    let due = c.in-Some.due in
    let rest = drop 1 self.queue in
    let facts = taken_is (point_state self.view) self.connector self.asked self.last self.at self.bounds.items self.queue rest self.sum due c.requires.swept c.requires.here (first_out self.queue rest due c.in-Some.ensures.first (IsPermutation-refl rest)) c.in-Some.ensures.soonest in
    record { has_bound = facts.has_bound; has_row = facts.has_row; small = c.requires.swept.small; few = c.requires.swept.few; sum = c.requires.swept.sum_is }

pub returns-in-Some-next-clause-swept : goal.returns-in-Some-next-clause-swept
returns-in-Some-next-clause-swept c =
    let self = c.args.self.now in
    let due = c.in-Some.due in
    let rest = drop 1 self.queue in
    let facts = taken_is (point_state self.view) self.connector self.asked self.last self.at self.bounds.items self.queue rest self.sum due c.requires.swept c.requires.here (first_out self.queue rest due c.in-Some.ensures.first (IsPermutation-refl rest)) c.in-Some.ensures.soonest in
    let found : c.due.result ≡ due_in self.bounds.items due.bound due.row = c.due.ensures ∙ (ap (λ (bound : RunningBound). due_at bound.runs due.row) c.index.ensures ∙ sym (due_of_bound self.bounds.items due.bound due.row c.index.result.now facts.has_bound)) in
    let ne : c.ne.result ≡ not (option_eq (λ (x y : ℕ). x == y) c.due.result (Some due.instant)) = search c.ne.ensures in
    let is = sym found ∙ (is_due c.due.result due.instant c.ne.result ne c.if-ne.false ∙ ap (λ (n : ℕ). Some n) facts.at_is) in
    let next : Some c.in-Some-next.instant ≡ due_in (passed_in due.bound due.row self.bounds.items) due.bound due.row =
    sym c.in-Some-next.is ∙ (c.in_ok-next.ensures.next ∙ ap (λ (bounds : List RunningBound). due_in bounds due.bound due.row) c.in_ok-next.ensures.passed) in
    let list = c.in_ok-next.ensures.passed in
    let swept = swept_passed (point_state self.view) self.connector self.asked self.last self.at self.bounds.items self.queue rest c.replace_first.new.self self.sum c.pass_row.new.sum due.bound due.row (Some c.in-Some-next.instant)
    c.requires.swept facts.taken is next c.replace_first.ensures (c.in_ok-next.ensures.sum ∙ ap shared_now list) in
    subst (λ (bounds : List RunningBound). IsSwept (point_state self.view) self.connector self.asked self.last self.at bounds c.replace_first.new.self c.pass_row.new.sum) (sym list) swept

pub returns-in-Some-next-clause-fewer : goal.returns-in-Some-next-clause-fewer
returns-in-Some-next-clause-fewer c =
    let self = c.args.self.now in
    let due = c.in-Some.due in
    let rest = drop 1 self.queue in
    let facts = taken_is (point_state self.view) self.connector self.asked self.last self.at self.bounds.items self.queue rest self.sum due c.requires.swept c.requires.here (first_out self.queue rest due c.in-Some.ensures.first (IsPermutation-refl rest)) c.in-Some.ensures.soonest in
    let found : c.due.result ≡ due_in self.bounds.items due.bound due.row = c.due.ensures ∙ (ap (λ (bound : RunningBound). due_at bound.runs due.row) c.index.ensures ∙ sym (due_of_bound self.bounds.items due.bound due.row c.index.result.now facts.has_bound)) in
    let ne : c.ne.result ≡ not (option_eq (λ (x y : ℕ). x == y) c.due.result (Some due.instant)) = search c.ne.ensures in
    let is = sym found ∙ (is_due c.due.result due.instant c.ne.result ne c.if-ne.false ∙ ap (λ (n : ℕ). Some n) facts.at_is) in
    let next : Some c.in-Some-next.instant ≡ due_in (passed_in due.bound due.row self.bounds.items) due.bound due.row =
    sym c.in-Some-next.is ∙ (c.in_ok-next.ensures.next ∙ ap (λ (bounds : List RunningBound). due_in bounds due.bound due.row) c.in_ok-next.ensures.passed) in
    fewer_wait_again (point_state self.view) self.connector self.asked self.last self.at c.in-Some-next.instant due.bound due.row self.bounds.items self.queue rest c.replace_first.new.self self.sum c.requires.swept facts.taken is next c.replace_first.ensures

pub returns-in-None-clause-swept : goal.returns-in-None-clause-swept
returns-in-None-clause-swept c =
    let self = c.args.self.now in
    let due = c.in-Some.due in
    let rest = c.remove_first-in-None.new.self in
    let facts = taken_is (point_state self.view) self.connector self.asked self.last self.at self.bounds.items self.queue rest self.sum due c.requires.swept c.requires.here (first_out self.queue rest due c.in-Some.ensures.first c.remove_first-in-None.ensures) c.in-Some.ensures.soonest in
    let found : c.due.result ≡ due_in self.bounds.items due.bound due.row = c.due.ensures ∙ (ap (λ (bound : RunningBound). due_at bound.runs due.row) c.index.ensures ∙ sym (due_of_bound self.bounds.items due.bound due.row c.index.result.now facts.has_bound)) in
    let ne : c.ne.result ≡ not (option_eq (λ (x y : ℕ). x == y) c.due.result (Some due.instant)) = search c.ne.ensures in
    let is = sym found ∙ (is_due c.due.result due.instant c.ne.result ne c.if-ne.false ∙ ap (λ (n : ℕ). Some n) facts.at_is) in
    let next : None ≡ due_in (passed_in due.bound due.row self.bounds.items) due.bound due.row =
    sym c.in-None.is ∙ (c.in_ok-next.ensures.next ∙ ap (λ (bounds : List RunningBound). due_in bounds due.bound due.row) c.in_ok-next.ensures.passed) in
    let list = c.in_ok-next.ensures.passed in
    let swept = swept_passed (point_state self.view) self.connector self.asked self.last self.at self.bounds.items self.queue rest rest self.sum c.pass_row.new.sum due.bound due.row None
    c.requires.swept facts.taken is next refl (c.in_ok-next.ensures.sum ∙ ap shared_now list) in
    subst (λ (bounds : List RunningBound). IsSwept (point_state self.view) self.connector self.asked self.last self.at bounds rest c.pass_row.new.sum) (sym list) swept

pub returns-in-None-clause-fewer : goal.returns-in-None-clause-fewer
returns-in-None-clause-fewer c =
    let self = c.args.self.now in
    let due = c.in-Some.due in
    let rest = c.remove_first-in-None.new.self in
    let facts = taken_is (point_state self.view) self.connector self.asked self.last self.at self.bounds.items self.queue rest self.sum due c.requires.swept c.requires.here (first_out self.queue rest due c.in-Some.ensures.first c.remove_first-in-None.ensures) c.in-Some.ensures.soonest in
    fewer_wait self.at due.bound due.row self.queue rest facts.taken
