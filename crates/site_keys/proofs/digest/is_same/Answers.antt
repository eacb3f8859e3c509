-- Each step adds the bits that differ at one index.
use Rattle.std.proofs.Common.{◌≡◌, ◌<◌, length, arith, eq-eqb}
use Rattle.std.proofs.lemmas.Bool.{eqb-true}
use Rattle.site_keys.proofs.DigestLemmas.{same_further, none_further, same_whole}
use Rattle.site_keys.proofs.digest.is_same.Goals as goal

pub loop-place-preserved : goal.loop-place-preserved
loop-place-preserved c =
    let one = c.args.one.now in
    let other = c.args.other.now in
    let loop = c.loop-place in
    let first : loop.place < length one = omega arith in
    let second : loop.place < length other = omega arith in
    record {
      alike = same_further one other loop.place loop.differing first second loop.invariant.alike;
      none = none_further one other loop.place loop.differing loop.invariant.none;
    }

pub returns : goal.returns
returns c =
    let one = c.args.one.now in
    let other = c.args.other.now in
    let loop = c.loop-place in
    let first : loop.place ≡ length one = omega arith in
    let second : loop.place ≡ length other = omega arith in (
      λ none. same_whole one other loop.place first second (loop.invariant.alike (eqb-true loop.differing 0 none)),
      λ same. eq-eqb loop.differing 0 (loop.invariant.none same),
    )
