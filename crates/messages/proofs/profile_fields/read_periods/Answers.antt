-- One more period is read.
use Rattle.std.proofs.Common.{◌≡◌, ◌∙◌, ◌++◌, ◌∷◌, [], List, rules, sym, ap, Ok}
use Rattle.profile.specs.declared.period.Period.{Period}
use Rattle.ocppj_frame.specs.Payload.{entries_in, entries_left, tree_at}
use Rattle.messages.specs.ProfileFields.{each_period_of, period_of}
use Rattle.messages.proofs.PeriodsRead.{after_periods, one_more}
use Rattle.messages.proofs.profile_fields.read_periods.Goals as goal

pub loop-entry-preserved : goal.loop-entry-preserved
loop-entry-preserved c =
    let left : entries_left c.loop-entry.entry-iterator ≡ tree_at c.in-Some.entry ∷ entries_left c.next.new.self = search rules in
    let read : period_of (tree_at c.in-Some.entry) ≡ Ok c.in_ok-read_period.field-0 = search rules in
    let items : c.push.new.self.items ≡ c.loop-entry.periods.items ++ c.in_ok-read_period.field-0 ∷ [] = search rules in
    ap (λ (periods : List Period). after_periods periods (each_period_of (entries_left c.next.new.self))) items
    ∙ (one_more c.loop-entry.periods.items (tree_at c.in-Some.entry) (entries_left c.next.new.self) c.in_ok-read_period.field-0 read
    ∙ (ap (λ entries. after_periods c.loop-entry.periods.items (each_period_of entries)) (sym left) ∙ c.loop-entry.invariant))
