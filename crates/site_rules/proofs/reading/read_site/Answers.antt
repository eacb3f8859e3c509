-- A file that is short enough is read as a text, or isn't a text.
use Rattle.std.proofs.Common.{◌≤◌, length, arith, ◌∙◌, ap, subst, sym, Result}
use Rattle.ocppj_frame.specs.Read.{tree_of_text}
use Rattle.site_rules.specs.declared.fault.SiteFault.{SiteFault}
use Rattle.site_rules.specs.Limits.{max_site_bytes}
use Rattle.site_rules.specs.Site.{SiteState}
use Rattle.ocpp_scalars.specs.Reading.{ReadsUnless}
use Rattle.site_rules.specs.ByCases.SiteReading.{is_memory, site_by}
use Rattle.site_rules.proofs.SiteLemmas.{site_of-text, site_of-not_text}
use Rattle.site_rules.proofs.reading.read_site.Goals as goal

pub returns-in-Ok : goal.returns-in-Ok
returns-in-Ok c =
    let short : length c.args.bytes.now ≤ max_site_bytes = omega (arith, c.if-bytes-gt-MAX_SITE_BYTES.false) in
    let said = ap (λ text. site_by (tree_of_text text)) c.in-Ok.ensures.cases.0 ∙ sym (site_of-text c.args.bytes.now short c.in-Ok.ensures.cases.1) in
    subst (λ (reading : Result SiteState SiteFault). ReadsUnless is_memory (λ (site : SiteState). site) c.read_site_text.result reading) said c.read_site_text.ensures

pub returns-in-Err : goal.returns-in-Err
returns-in-Err c =
    let short : length c.args.bytes.now ≤ max_site_bytes = omega (arith, c.if-bytes-gt-MAX_SITE_BYTES.false) in
    site_of-not_text c.args.bytes.now short c.in-Err.ensures.cases.0
