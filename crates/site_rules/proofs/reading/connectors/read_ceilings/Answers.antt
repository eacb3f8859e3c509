-- The ceilings of the entries so far, and of one more.
use Rattle.std.proofs.Common.{◌≡◌, ◌<◌, [], length, None, Some, option_map, ap, sym, ◌∙◌, arith}
use Rattle.json.specs.Json.{after_end_array}
use Rattle.site_rules.specs.ByCases.Parts.{unless_empty, with_ceiling, ceilings_in}
use Rattle.site_rules.proofs.TokenTrees.{list_more, list_ended}
use Rattle.site_rules.proofs.PartsRead.{with_ceiling-shown, with_ceilings-last}
use Rattle.site_rules.proofs.reading.connectors.read_ceilings.Goals as goal

pub entries-preserved : goal.entries-preserved
entries-preserved c =
    let l = c.entries in
    let going : (after_end_array l.reader ≡ None) × (c.take_end_array.new.self ≡ l.reader) = grind arith in
    let read = c.in_ok-entry.ensures in
    let less : length c.read_glance.new.reader < length l.reader = rw (← going.1) read.shorter in
    let before = l.invariant.0 in
    let kept = c.in_ok-kept.ensures.ceilings
    ∙ ap (with_ceiling (option_map (λ ceilings. ceilings.items) l.kept)) read.glance.seen
    ∙ with_ceiling-shown (option_map (λ ceilings. ceilings.items) l.kept) read.glance.tree
    ∙ ap (λ ceilings. with_ceiling ceilings read.glance.tree) l.invariant.3
    ∙ sym (with_ceilings-last (Some []) before read.glance.tree) in (
      _,
      list_more c.args.depth c.args.reader.now l.reader c.read_glance.new.reader before read.glance.tree l.invariant.1 going.0 (rw (← going.1) read.glance.here) less,
      omega (arith, l.invariant.2),
      kept,
      c.in_ok-kept.ensures.few,
    )

pub returns-clause-ceilings : goal.returns-clause-ceilings
returns-clause-ceilings c =
    let l = c.entries in
    let ended = list_ended c.args.depth c.args.reader.now l.reader c.take_end_array.new.self l.invariant.0 l.invariant.1 (grind arith) in
    (ended.0, ended.1, c.unless_empty.ensures.ceilings ∙ ap unless_empty l.invariant.3 ∙ sym (ap ceilings_in ended.2))
