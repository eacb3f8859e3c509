-- The output of a line comes after that of the lines before it.
use Rattle.std.proofs.Common.{◌≡◌, ◌≤◌, [], ◌++◌, cond, ap, sym, ◌∙◌, subst, eqb-true, arith, lit≤, rules}
use Rattle.std.specs.List.{fold}
use Rattle.std.specs.Io.KnownBytes.{Appends}
use Rattle.std.proofs.KnownBytes.{Appends-trans}
use Rattle.replay.specs.Lines.{script_lines}
use Rattle.replay.specs.Player.{PlayerState}
use Rattle.replay.specs.PrintedLine.{printed_texts}
use Rattle.replay.specs.Play.{line_played}
use Rattle.replay.specs.Run.{Played, played, played_more}
use Rattle.replay.proofs.OutputLemmas.{texts-append, output_grows, next_line, no_line, one_fault, bool_le, prefix_after, prefix_whole}
use Rattle.replay.proofs.script.run.write_lines.Goals as goal

pub loop-rest-init : goal.loop-rest-init
unfolding played
loop-rest-init g c = record {
  played = (
    [],
    search rules,
    ap (λ (state : PlayerState). fold played_more (record { number = 1; faults = 0; lines = []; state = state }) (script_lines c.args.script.now)) c.in_ok-player.ensures,
  );
  few = (lit≤ tt, omega arith);
}

pub loop-rest-preserved : goal.loop-rest-preserved
loop-rest-preserved g c =
    let before = c.loop-rest.invariant.played in
    let line = c.split_line.result.0.now in
    let others = c.split_line.result.1.now in
    let was = line_played c.loop-rest.player c.loop-rest.number line in
    let sofar : Played = record { number = c.loop-rest.number; faults = c.loop-rest.script_faults; lines = before.0; state = c.loop-rest.player } in
    let next = next_line sofar (played c.args.site c.args.script.now) c.loop-rest.rest.now line others c.split_line.ensures.lines before.2 in
    let faults : c.from-script_faults.result ≡ cond was.is_fault 1 0 =
    one_fault c.from-script_faults.result c.in-Ok.is_fault was.is_fault c.from-script_faults.ensures c.in-Ok.ensures.fault in
    let one : c.from-script_faults.result ≤ 1 = bool_le c.from-script_faults.result c.in-Ok.is_fault c.from-script_faults.ensures in
    record {
      played = (
        before.0 ++ was.printed,
        subst (Appends _ _) (sym (texts-append before.0 was.printed)) (Appends-trans _ _ _ _ _ before.1 c.in-Ok.ensures.whole),
        rw (faults, c.in-Ok.ensures.after) next,
      );
      few = (omega (arith, one, c.loop-rest.invariant.few), omega (arith, c.loop-rest.invariant.few, c.split_line.ensures.shorter));
    }

pub returns-in-Err-clause-prefix : goal.returns-in-Err-clause-prefix
returns-in-Err-clause-prefix g c =
    let site = c.args.site in
    let before = c.loop-rest.invariant.played in
    let line = c.split_line.result.0.now in
    let others = c.split_line.result.1.now in
    let all = played site c.args.script.now in
    let sofar : Played = record { number = c.loop-rest.number; faults = c.loop-rest.script_faults; lines = before.0; state = c.loop-rest.player } in
    let next = next_line sofar all c.loop-rest.rest.now line others c.split_line.ensures.lines before.2 in
    let grown = output_grows (played_more sofar line) (script_lines others) in
    let printed = (line_played c.loop-rest.player c.loop-rest.number line).printed in
    prefix_after _ _ _ (printed_texts before.0) (printed_texts printed) grown.0 (printed_texts all.lines) before.1 c.in-Err.ensures.prefix
    (ap (λ (p : Played). printed_texts p.lines) (sym next) ∙ grown.1 ∙ ap (λ l. l ++ grown.0) (texts-append before.0 printed))

-- at the end no line is left

pub returns-clause-whole : goal.returns-clause-whole
returns-clause-whole g c =
    let before = c.loop-rest.invariant.played in
    let sofar : Played = record { number = c.loop-rest.number; faults = c.loop-rest.script_faults; lines = before.0; state = c.loop-rest.player } in
    let end = no_line sofar (played c.args.site c.args.script.now) c.loop-rest.rest.now (eqb-true _ _ (sym c.is_empty.ensures ∙ c.loop-rest-test.false)) before.2 in
    subst (Appends _ _) (ap (λ (p : Played). printed_texts p.lines) end) before.1

pub returns-clause-faults : goal.returns-clause-faults
returns-clause-faults g c =
    let before = c.loop-rest.invariant.played in
    let sofar : Played = record { number = c.loop-rest.number; faults = c.loop-rest.script_faults; lines = before.0; state = c.loop-rest.player } in
    let end = no_line sofar (played c.args.site c.args.script.now) c.loop-rest.rest.now (eqb-true _ _ (sym c.is_empty.ensures ∙ c.loop-rest-test.false)) before.2 in
    ap (λ (p : Played). p.faults) end

pub returns-clause-prefix : goal.returns-clause-prefix
returns-clause-prefix g c =
    let site = c.args.site in
    let before = c.loop-rest.invariant.played in
    let all = played site c.args.script.now in
    let sofar : Played = record { number = c.loop-rest.number; faults = c.loop-rest.script_faults; lines = before.0; state = c.loop-rest.player } in
    let end = no_line sofar all c.loop-rest.rest.now (eqb-true _ _ (sym c.is_empty.ensures ∙ c.loop-rest-test.false)) before.2 in
    prefix_whole _ _ (printed_texts all.lines) (subst (Appends _ _) (ap (λ (p : Played). printed_texts p.lines) end) before.1)
