-- The points of the entries so far, and of one more.
use Rattle.std.proofs.Common.{◌≡◌, ◌<◌, [], length, None, Ok, refl, ap, sym, ◌∙◌, arith}
use Rattle.json.specs.Json.{after_end_array}
use Rattle.site_rules.specs.Site.{SiteState}
use Rattle.site_rules.specs.ByCases.Parts.{few_points}
use Rattle.site_rules.proofs.TokenTrees.{list_begun, list_more, list_ended}
use Rattle.site_rules.proofs.reading.entries.read_entries.Goals as goal

pub entries-init : goal.entries-init
entries-init c = ([], list_begun c.args.depth c.args.reader.now, omega arith, record { count = refl; points = λ within. ap (λ (site : SiteState). Ok site) c.new.ensures })

pub entries-preserved : goal.entries-preserved
entries-preserved c =
    let l = c.entries in
    let going : (after_end_array l.reader ≡ None) × (c.take_end_array.new.self ≡ l.reader) = grind arith in
    let read = c.in_ok-found.ensures in
    let less : length c.with_next.new.reader < length l.reader = rw (← going.1) read.shorter in (
      _,
      list_more c.args.depth c.args.reader.now l.reader c.with_next.new.reader l.invariant.0 read.found.0 l.invariant.1 going.0 (rw (← going.1) read.found.1) less,
      omega (arith, l.invariant.2),
      read.found.2 l.invariant.0 l.invariant.3,
    )

pub returns-clause-points : goal.returns-clause-points
returns-clause-points c =
    let l = c.entries in
    let ended = list_ended c.args.depth c.args.reader.now l.reader c.take_end_array.new.self l.invariant.0 l.invariant.1 (grind arith) in
    (ended.0, ended.1, c.unless_many.ensures l.invariant.0 l.invariant.3 ∙ sym (ap few_points ended.2))
