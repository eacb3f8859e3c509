-- From the present state, the lines that are left lead to the outcome of the wanted lines.
use Rattle.std.proofs.Common.{◌≡◌, List, length}
use Rattle.std.specs.List.{fold}
use Rattle.replay.specs.Lines.{script_lines}
use Rattle.replay.specs.PrintedLine.{PrintedLine}
use Rattle.replay.specs.Run.{played_more}
use Rattle.replay.specs.Quiet.{played_up_to}
use Rattle.replay.specs.ByCases.Quiet.{lines_left}
use Rattle.replay.proofs.script.playing.play_quietly.Given as goal

abbrev pub invariant-loop-last_line : goal.invariant-loop-last_line
invariant-loop-last_line l =
    (done : List PrintedLine)
    × (fold played_more (record { number = l.playing.number; faults = l.playing.faults; lines = done; state = l.playing.state })
    (lines_left l.last_line l.playing.number (script_lines l.playing.rest))
    ≡ played_up_to l.fn.site l.fn.script l.last_line)

abbrev pub decreases-loop-last_line : goal.decreases-loop-last_line
decreases-loop-last_line l = length (script_lines l.playing.rest)
