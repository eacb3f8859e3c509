-- Before the fence only periods are places.
use Rattle.std.proofs.Common.{◌≡◌, ◌∙◌, ◌-◌, ◌≤◌, ℕ, Bool, List, ap, subst, sym, arith}
use Rattle.profile.specs.declared.period.Period.{Period}
use Rattle.profile.specs.ChargingProfile.{anchor}
use Rattle.recurrence.specs.ByCases.Occurrence.{IsBegunUpTo, IsFence, IsOccurrence, is_live_at}
use Rattle.recurrence.proofs.OccurrenceLemmas.{occurrence_from, offset_low}
use Rattle.recurrence.proofs.occurrence.occurrence_at.Goals as goal

pub returns : goal.returns
returns c =
    let profile = c.args.profile.now in
    let base = c.args.base in
    let second : ℕ = c.seconds-second.result in
    let offset : ℕ = c.offset_after-offset.result in
    let begin : ℕ = second - offset in
    let same : second ≡ c.args.instant = c.seconds-second.ensures.value in
    let anchored : c.seconds-anchor.result ≡ anchor profile base = c.seconds-anchor.ensures.value ∙ c.anchor.ensures in
    let from : anchor profile base ≤ second = let not = c.if-second-anchor.false in omega (arith, not, anchored) in
    let least = offset_low profile.kind (second - c.seconds-anchor.result) in
    let inside : offset ≤ second = let is = c.offset_after-offset.ensures in omega (arith, is, least) in
    let back : offset ≡ second - begin = omega (arith, inside) in
    let fence = subst (λ n. IsFence profile n begin second c.fence_after.result) anchored c.fence_after.ensures in
    let point = subst (λ n. IsBegunUpTo profile.schedule.periods n c.begun_by-2.result) back
    (subst (λ (ps : List Period). IsBegunUpTo ps offset c.begun_by-2.result) c.as_slice-periods.ensures.value c.begun_by-2.ensures) in
    let live : is_live_at profile (second - begin) second ≡ c.is_live_at.result =
    ap (λ n. is_live_at profile n second) (sym back) ∙ ap (is_live_at profile offset) same ∙ sym c.is_live_at.ensures in
    let found = occurrence_from profile base second begin c.begun_by-2.result c.fence_after.result from (omega (arith, inside)) fence point in
    subst (λ n. IsOccurrence profile base n (record { begin = begin; begun = c.begun_by-2.result; fence = c.fence_after.result; is_live = c.is_live_at.result })) same
    (subst (λ (b : Bool). IsOccurrence profile base second (record { begin = begin; begun = c.begun_by-2.result; fence = c.fence_after.result; is_live = b })) live found)
