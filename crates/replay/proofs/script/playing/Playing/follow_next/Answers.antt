-- The next line was skimmed, and then passed.
use Rattle.std.proofs.Common.{refl, sym}
use Rattle.replay.specs.Playing.{PlayingState}
use Rattle.replay.proofs.QuietLemmas.{went_on}
use Rattle.replay.proofs.script.playing.Playing.follow_next.Goals as goal

pub returns : goal.returns
returns c =
    let at = c.self.inside in
    let old : PlayingState = record { number = at.number; faults = at.script_faults; state = at.player; rest = at.rest.now } in
    let mid : PlayingState = record { number = at.number; faults = at.script_faults; state = c.skim_line.new.player; rest = at.rest.now } in
    let line = c.split_line.result.0.now in
    let others = c.split_line.result.1.now in
    rw (sym c.self.view_is)
    (went_on old mid c.pass.new.self c.in_ok-played.played line others c.split_line.ensures.lines refl refl
    c.in_ok-played.ensures.number c.in_ok-played.ensures.line c.in_ok-played.ensures.said
    c.in_ok-played.ensures.outcome c.pass.ensures.rest c.pass.ensures.state c.pass.ensures.number c.pass.ensures.faults)
