-- The lines that are left lead to the outcome of the wanted lines, until none is left.
use Rattle.std.proofs.Common.{List, length, [], ◌++◌, ap, sym, ◌∙◌, arith}
use Rattle.std.specs.List.{fold}
use Rattle.replay.specs.Lines.{script_lines}
use Rattle.replay.specs.Play.{line_played}
use Rattle.replay.specs.Playing.{PlayingState}
use Rattle.replay.specs.Quiet.{IsNextLine, played_up_to}
use Rattle.replay.specs.ByCases.Quiet.{lines_left}
use Rattle.replay.specs.PrintedLine.{PrintedLine}
use Rattle.replay.specs.Run.{Played, first_played, played_more}
use Rattle.replay.proofs.QuietLemmas.{first_lines, no_lines_left, past_last, next_played, all_played}
use Rattle.replay.proofs.script.playing.play_quietly.Goals as goal

-- the part of a script that was played, if its lines so far printed these
abbrev so_far : PlayingState → List PrintedLine → Played
so_far playing lines =
    record { number = playing.number; faults = playing.faults; lines = lines; state = playing.state }

pub loop-last_line-init : goal.loop-last_line-init
unfolding played_up_to
loop-last_line-init c = (
  [],
  ap (λ (p : PlayingState). fold played_more (record { number = p.number; faults = p.faults; lines = []; state = p.state })
      (lines_left c.args.last_line p.number (script_lines p.rest))) c.in_ok-playing.ensures
      ∙ ap (fold played_more (first_played c.args.site)) (first_lines c.args.last_line (script_lines c.args.script.now)),
)

pub loop-last_line-preserved-in-Some : goal.loop-last_line-preserved-in-Some
loop-last_line-preserved-in-Some c =
    let before = c.loop-last_line.invariant in
    let old = c.loop-last_line.playing in
    let next : IsNextLine old c.in-Some.field-0 c.follow_next.new.self = rw c.in-Some.is at c.in_ok-follow_next.ensures in
    let line = c.in-Some.field-0.line.now in
    let sofar : Played = record { number = old.number; faults = old.faults; lines = before.0; state = old.state } in
    let all = played_up_to c.args.site c.args.script.now c.args.last_line in
    let wanted = sym c.is_up_to.ensures ∙ c.loop-last_line-test.true in
    let whole = next_played c.args.last_line sofar all old.rest line c.follow_next.new.self.rest wanted next.first before.1 in
    (before.0 ++ (line_played old.state old.number line).printed, rw (next.next, next.faults, sym next.led.after) whole)

pub returns-in_default-clause-state : goal.returns-in_default-clause-state
returns-in_default-clause-state c =
    let before = c.loop-last_line.invariant in
    let old = c.loop-last_line.playing in
    let end = rw c.in_default.is at c.in_ok-follow_next.ensures in
    let none = ap (lines_left c.args.last_line old.number) end.0 ∙ no_lines_left c.args.last_line old.number in
    let all = all_played c.args.last_line (so_far old before.0) (played_up_to c.args.site c.args.script.now c.args.last_line) (script_lines old.rest) none before.1 in
    ap (λ (p : PlayingState). p.state) end.1 ∙ ap (λ (p : Played). p.state) all

pub returns-in_default-clause-faults : goal.returns-in_default-clause-faults
returns-in_default-clause-faults c =
    let before = c.loop-last_line.invariant in
    let old = c.loop-last_line.playing in
    let end = rw c.in_default.is at c.in_ok-follow_next.ensures in
    let none = ap (lines_left c.args.last_line old.number) end.0 ∙ no_lines_left c.args.last_line old.number in
    let all = all_played c.args.last_line (so_far old before.0) (played_up_to c.args.site c.args.script.now c.args.last_line) (script_lines old.rest) none before.1 in
    ap (λ (p : PlayingState). p.faults) end.1 ∙ ap (λ (p : Played). p.faults) all

pub returns-in_default-clause-number : goal.returns-in_default-clause-number
returns-in_default-clause-number c =
    let before = c.loop-last_line.invariant in
    let old = c.loop-last_line.playing in
    let end = rw c.in_default.is at c.in_ok-follow_next.ensures in
    let none = ap (lines_left c.args.last_line old.number) end.0 ∙ no_lines_left c.args.last_line old.number in
    let all = all_played c.args.last_line (so_far old before.0) (played_up_to c.args.site c.args.script.now c.args.last_line) (script_lines old.rest) none before.1 in
    ap (λ (p : PlayingState). p.number) end.1 ∙ ap (λ (p : Played). p.number) all

pub returns-clause-state : goal.returns-clause-state
returns-clause-state c =
    let before = c.loop-last_line.invariant in
    let old = c.loop-last_line.playing in
    let none = past_last c.args.last_line old.number (script_lines old.rest) (sym c.is_up_to.ensures ∙ c.loop-last_line-test.false) in
    ap (λ (p : Played). p.state) (all_played c.args.last_line (so_far old before.0) (played_up_to c.args.site c.args.script.now c.args.last_line) (script_lines old.rest) none before.1)

pub returns-clause-faults : goal.returns-clause-faults
returns-clause-faults c =
    let before = c.loop-last_line.invariant in
    let old = c.loop-last_line.playing in
    let none = past_last c.args.last_line old.number (script_lines old.rest) (sym c.is_up_to.ensures ∙ c.loop-last_line-test.false) in
    ap (λ (p : Played). p.faults) (all_played c.args.last_line (so_far old before.0) (played_up_to c.args.site c.args.script.now c.args.last_line) (script_lines old.rest) none before.1)

pub returns-clause-number : goal.returns-clause-number
returns-clause-number c =
    let before = c.loop-last_line.invariant in
    let old = c.loop-last_line.playing in
    let none = past_last c.args.last_line old.number (script_lines old.rest) (sym c.is_up_to.ensures ∙ c.loop-last_line-test.false) in
    ap (λ (p : Played). p.number) (all_played c.args.last_line (so_far old before.0) (played_up_to c.args.site c.args.script.now c.args.last_line) (script_lines old.rest) none before.1)

pub loop-last_line-smaller-in-Some : goal.loop-last_line-smaller-in-Some
loop-last_line-smaller-in-Some c =
    let next : IsNextLine c.loop-last_line.playing c.in-Some.field-0 c.follow_next.new.self = rw c.in-Some.is at c.in_ok-follow_next.ensures in
    omega (arith, ap length next.first)
