-- The byte before the end, if there is one, is a line feed.
use Rattle.std.proofs.Common.{◌≡◌, ◌+◌, ◌-◌, [], ◌∷◌, ◌++◌, length, take, get_or, length-take-le, sym, ◌∙◌, ap, arith}
use Rattle.std.proofs.lemmas.Grind.{take_at_read}
use Rattle.append_log.specs.Lines.{whole_lines}
use Rattle.append_log.proofs.Lines.{last_torn, last_feed}
use Rattle.append_log.proofs.line_ends.whole_length.Goals as goal

pub loop-end-preserved : goal.loop-end-preserved
loop-end-preserved c =
    let bytes = c.args.bytes.now in
    let end = c.loop-end.end in
    let so_far = c.loop-end.invariant in
    let back : end - 1 + 1 ≡ end = omega (arith, c.loop-end-test.true) in
    let read = (take_at_read bytes (end - 1) 0 (omega (arith, c.loop-end-test.true, so_far.within))).1 in
    let parts : take end bytes ≡ take (end - 1) bytes ++ get_or bytes (end - 1) 0 ∷ [] = ap (λ n. take n bytes) (sym back) ∙ read in
    record {
      within = omega (arith, so_far.within);
      same = sym (last_torn (take (end - 1) bytes) (get_or bytes (end - 1) 0) c.if-bytes-end-ne10.true) ∙ ap whole_lines (sym parts) ∙ so_far.same;
    }

pub returns-else-bytes-end-ne10 : goal.returns-else-bytes-end-ne10
returns-else-bytes-end-ne10 c =
    let bytes = c.args.bytes.now in
    let end = c.loop-end.end in
    let so_far = c.loop-end.invariant in
    let back : end - 1 + 1 ≡ end = omega (arith, c.loop-end-test.true) in
    let read = (take_at_read bytes (end - 1) 0 (omega (arith, c.loop-end-test.true, so_far.within))).1 in
    let feed : get_or bytes (end - 1) 0 ≡ 10 = c.if-bytes-end-ne10.false in
    let parts : take end bytes ≡ take (end - 1) bytes ++ 10 ∷ [] = ap (λ n. take n bytes) (sym back) ∙ read ∙ ap (λ b. take (end - 1) bytes ++ b ∷ []) feed in
    let whole : whole_lines (take end bytes) ≡ take end bytes = ap whole_lines parts ∙ last_feed (take (end - 1) bytes) ∙ sym parts in
    sym (length-take-le end bytes so_far.within) ∙ ap length (sym whole ∙ so_far.same)
