-- The next line was played, and then passed.
use Rattle.std.proofs.Common.{refl, sym, ap, ◌∙◌}
use Rattle.replay.specs.Play.{line_played}
use Rattle.replay.specs.Playing.{PlayingState}
use Rattle.replay.proofs.QuietLemmas.{went_on}
use Rattle.replay.proofs.script.playing.Playing.play_next.Goals as goal

pub returns-clause-next : goal.returns-clause-next
returns-clause-next c =
    let at = c.self.inside in
    let old : PlayingState = record { number = at.number; faults = at.script_faults; state = at.player; rest = at.rest.now } in
    let mid : PlayingState = record { number = at.number; faults = at.script_faults; state = c.play_line.new.player; rest = at.rest.now } in
    let line = c.split_line.result.0.now in
    let others = c.split_line.result.1.now in
    rw (sym c.self.view_is)
    (went_on old mid c.pass.new.self c.in_ok-played.played line others c.split_line.ensures.lines refl refl
    c.in_ok-played.ensures.number c.in_ok-played.ensures.line c.in_ok-played.ensures.said
    c.in_ok-played.ensures.outcome.led c.pass.ensures.rest c.pass.ensures.state c.pass.ensures.number c.pass.ensures.faults)

pub returns-clause-printed : goal.returns-clause-printed
returns-clause-printed c =
    let at = c.self.inside in
    rw (sym c.self.view_is)
    (sym c.in_ok-played.ensures.outcome.printed
    ∙ ap (λ l. (line_played at.player at.number l).printed) (sym c.in_ok-played.ensures.line))
