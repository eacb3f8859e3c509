-- One place after another has no link.
use Rattle.std.proofs.Common.{◌≡◌, length, string_bytes, sym, ap, ◌∙◌, arith}
use Rattle.site_rules.specs.Site.{SiteState}
use Rattle.site_core.specs.State.{MachineState}
use Rattle.journal.proofs.LostLemmas.{one_place_more, more_losses, no_links}
use Rattle.journal.proofs.lost_links.lose_links.Goals as goal

pub loop-place-preserved : goal.loop-place-preserved
loop-place-preserved g c =
    let before = c.loop-place.invariant in
    let lost = c.in_ok-lose_link.ensures in
    let first = c.args.book.now.present in
    let old = c.loop-place.book.present in
    let new = c.lose_link.new.book.present in
    record {
      none = one_place_more old new c.loop-place.place lost.others before.none lost.here;
      site = lost.others.site ∙ before.site;
      lines = more_losses c.args.moment first old new (string_bytes c.args.text.now) (string_bytes c.loop-place.text)
          (string_bytes c.lose_link.new.text) before.lines lost.lines;
    }

pub returns-clause-none : goal.returns-clause-none
returns-clause-none g c =
    let before = c.loop-place.invariant in
    let state = c.loop-place.book.present in
    let all : c.len-points.result ≡ length state.site.points =
    c.len-points.ensures ∙ ap (λ (site : SiteState). length site.points)
    (c.site.ensures ∙ ap (λ (s : MachineState). s.site) c.present.ensures ∙ sym before.site) in
    no_links state (λ k within. before.none k (omega (arith, within, all, c.loop-place-test.false)))
